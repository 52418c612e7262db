-- The walk over the tree: it "follows the tree and knows no addresses" (01, Walk). Its pieces first, then each rule. Definitions only.
use Rattle.std.specs.Prelude.{Bool, true, false, cond, List, [], ◌∷◌, ℕ, zero, suc, leb, length}
use Rattle.numeric.specs.Post.{Post, identity, is_identity, fold}
use Rattle.ast.specs.NameKinds as Kind
use Rattle.ast.specs.Header.{Settings}
use Rattle.ast.specs.Rules as R
use Rattle.ast.specs.Rules.{Rule, rule_at}
use Rattle.ast.specs.Tree.{Payload, Tree, node, Forest, nil, cons}
use Rattle.program.specs.Counts.{Counts}
use Rattle.program.specs.Program.{StoreRoot, root_var, root_temp, root_other}
use Rattle.semantics.specs.Payloads.{as_name, as_hash, as_math, as_query, float_of, const_of, string_of, resource_of}
use Rattle.semantics.specs.Payloads.{one, two, three, some, just, Path, path, by_kind}
use Rattle.semantics.specs.Run as E
use Rattle.semantics.specs.Run.{Action, Run, set_counts, note, note_argument, operand+, operands-, handler+, handler-, count, draw, Result, result}

-- how a piece of the walk ends: it goes on, or a value is missing, Break, Continue, Return, Halt, or no outcome is left
pub data Completion : Type 0 where
  normal missing broke again returned halted out : Run → Completion

abbrev pub Walking : Type 0
Walking = Run → Completion

-- is a loop open in this segment; is this inside the first child of a `??` in this segment
pub record Scope : Type 0 where
  pub loop : Bool
  pub handler : Bool

abbrev pub inside : Scope
inside = record { loop = false; handler = false }

abbrev pub in_a_loop : Scope → Scope
in_a_loop e = record { loop = true; handler = e.handler }

abbrev pub in_a_handler : Scope → Scope
in_a_handler e = record { loop = e.loop; handler = true }

infixr 50 ◌then◌
unfoldable pub after : Walking → Completion → Completion
after v (normal w) = v w
after v (missing w) = missing w
after v (broke w) = broke w
after v (again w) = again w
after v (returned w) = returned w
after v (halted w) = halted w
after v (out w) = out w

abbrev pub ◌then◌ : Walking → Walking → Walking
◌then◌ u v w = after v (u w)

-- what `do` is read by
abbrev ◌>>◌ : Walking → Walking → Walking
◌>>◌ u v = u then v

abbrev pub pass : Walking
pass w = normal w

abbrev pub logs : Action → Walking
logs a w = normal (note a w)

-- 01, Walk: "AddLast, Mul, Div, Cmp and Eq take one, HostMath argc less one"
abbrev pub takes : ℕ → Action → Walking
takes k a w = normal (count (operands- k) (note a w))

abbrev pub pushes : Walking
pushes w = normal (count operand+ (note E.e_push w))

abbrev pub halts : Walking
halts w = halted (note E.e_halt w)

abbrev pub returns : Post → Walking
returns p w = returned (note (E.e_return p) w)

-- 01, Walk: "A missing value breaks off the first child of the innermost `??` that holds it there in the same segment ..;
-- where no such `??` is, the walk goes on"
unfoldable pub misses : Bool → Walking
misses held w = cond held (missing w) (normal w)

abbrev pub perhaps : Scope → Walking
perhaps e w = draw w out normal (misses e.handler)

abbrev pub loads : Scope → Action → Walking
loads e a w = perhaps e (note a w)

-- 01, Walk: "A no skips the rest of its Div, and/or or pointer up to the rule's label"
abbrev pub guarded : Action → (Counts → Counts) → Walking → Walking
guarded a up u w = draw (note a w) out (λ w. u (count up w)) normal

-- 01, Walk: "a conditional then takes its other conditional"
abbrev pub conditional : Walking → Walking → Walking
conditional u v w = draw (note E.e_jump_if_falsy w) out u v

-- the first child of a `??` with its handler open; 01, Walk: "and that `??` visits its second child", from the counts before
unfoldable pub otherwise : Counts → Walking → Completion → Completion
otherwise c v (normal w) = normal (count handler- w)
otherwise c v (missing w) = v (set_counts c w)
otherwise c v (broke w) = broke w
otherwise c v (again w) = again w
otherwise c v (returned w) = returned w
otherwise c v (halted w) = halted w
otherwise c v (out w) = out w

abbrev pub coalesce : Walking → Walking → Walking
coalesce u v w = otherwise w.counts v (u (count handler+ w))

-- 01, Walk: "Before they log, LoopCheck, EachNext and LoopEnd cut back to just after the loop's start", the counts c
abbrev pub ends : Bool → Counts → Walking
ends k c w = normal (set_counts (E.closes k c) (note E.e_loop_end (set_counts c w)))

-- what follows a body;
-- 01, Walk: "Break leaves the innermost loop open in its segment, with LoopEnd, and Continue goes on with that loop's LoopCheck or EachNext"
unfoldable pub round : Bool → Counts → Walking → Completion → Completion
round k c next (normal w) = next w
round k c next (missing w) = missing w
round k c next (broke w) = ends k c w
round k c next (again w) = next w
round k c next (returned w) = returned w
round k c next (halted w) = halted w
round k c next (out w) = out w

abbrev pub checks : Counts → Walking → Walking
checks c more w = draw (note E.e_loop_check (set_counts c w)) out more (ends true c)

-- the rounds of a Loop, and of a ForEach; at most n more are answered by yes, so n is the number of outcomes left
unfoldable pub rounds : Counts → Walking → ℕ → Walking
rounds c body zero w = round true c (checks c out) (body w)
rounds c body (suc n) w = round true c (checks c (rounds c body n)) (body w)

unfoldable pub nexts : Action → Counts → Walking → ℕ → Walking
nexts a c body zero w = draw (note a (set_counts c w)) out out (ends false c)
nexts a c body (suc n) w = draw (note a (set_counts c w)) out (λ w. round false c (nexts a c body n) (body w)) (ends false c)

-- 01, Walk: "a loop ends, with LoopEnd if it had been opened"
abbrev pub begins : Action → Bool → (Counts → ℕ → Walking) → Walking
begins a k inner w = draw (note a w) out (λ w. inner (E.opens k w.counts) (length w.outcomes) (count (E.opens k) w)) normal

abbrev pub counted_loop : Walking → Walking
counted_loop body = begins E.e_loop_begin true (λ c. rounds c body)

abbrev pub eached : Action → Walking → Walking
eached a body = begins E.e_each_begin false (λ c. nexts a c body)

-- what a tree is as an expression, as a statement of a list, and as the base of a member path
pub record Walkings : Type 0 where
  pub expr : Scope → Walking
  pub statement : Scope → Walking
  pub base : Scope → Walking

-- 01, Walk: "Return or End ends its segment and restores the counts there.";
-- 02, C-15: "Halt inside a query argument now ends that argument alone, with the counts put back, and the call goes on."
unfoldable pub segment : Counts → Walking → Completion → Completion
segment c rest (normal w) = rest (set_counts c w)
segment c rest (missing w) = missing w
segment c rest (broke w) = broke w
segment c rest (again w) = again w
segment c rest (returned w) = rest (set_counts c w)
segment c rest (halted w) = rest (set_counts c w)
segment c rest (out w) = out w

-- 01, Walk: "Call logs, runs its arguments in order from the counts open there, each first logging its number from 0 .., and only then draws"
unfoldable pub arguments : ℕ → List Walkings → Walking → Walking
arguments j [] rest = rest
arguments j (a ∷ xs) rest = λ w. segment w.counts (arguments (suc j) xs rest) (a.expr inside (note_argument j w))

-- 01, Walk: "an identity post slot 0's bits"
unfoldable pub shown : Post → Post
shown p = cond (is_identity p) identity p

abbrev pub posted : Post → Walking
posted p = cond (is_identity p) pass (logs (E.e_post p))

-- 01, Walk: "With none open they log Halt."
unfoldable pub jumps : Walking → Bool → Walking
jumps to open_here = cond open_here to halts

unfoldable pub statements : ℕ → List Walkings → Scope → Walking
statements o [] e = logs (E.e_const o)
statements o (a ∷ xs) e = do
  a.statement e
  statements o xs e

-- two children, and what takes k operands
unfoldable pub bounds : ℕ → Action → Walkings → Walkings → Scope → Walking
bounds k x a b e = do
  a.expr e
  pushes
  b.expr e
  takes k x

-- a child and the event of the form with a constant, or two children and the event of both
unfoldable pub paired : Action → Action → List Walkings → Scope → Walking
paired with_constant x xs e = some xs pass λ a ys. some ys (do a.expr e; logs with_constant) λ b zs. bounds 1 x a b e

unfoldable pub logic : Action → Action → Walkings → List Walkings → Scope → Walking
logic step last a [] e = do
  a.expr e
  logs last
logic step last a (b ∷ xs) e = do
  a.expr e
  guarded step E.same (logic step last b xs e)

unfoldable pub terms : Post → Walkings → List Walkings → Scope → Walking
terms p a [] e = do
  a.expr e
  takes 1 (E.e_add_last p)
terms p a (b ∷ xs) e = do
  a.expr e
  logs E.e_add_acc
  terms p b xs e

unfoldable pub host_math : ℕ → Action → Walkings → List Walkings → Scope → Walking
host_math k h a [] e = do
  a.expr e
  takes k h
host_math k h a (b ∷ xs) e = do
  a.expr e
  pushes
  host_math k h b xs e

-- 01, Walk: "a store its root's kind, its root's hash unless Other, and its path"
unfoldable pub root_shown : Payload → StoreRoot
root_shown v = by_kind v (record { entity = λ n. root_var n.hash; temp = λ n. root_temp n.hash; other = root_other })

unfoldable pub stores : Payload → Path → Post → Walking
stores v m p = by_kind v (record {
  entity = λ n. logs (E.e_store_var n.hash p);
  temp = λ n. logs (E.e_store_temp n.hash p);
  other = logs (E.e_store_member (root_shown m.root) m.hashes p);
})

-- 01, Walk: "It visits the children a rule lowers (not an assignment's target or a ForEach variable)"
unfoldable pub target : Forest → Post → Walking
target nil p = pass
target (cons (node op q v us) ts) p = stores v (path (node op q v us)) p

unfoldable pub each_of : Payload → (Action → Walking) → Walking
each_of v f = by_kind v (record { entity = λ n. f (E.e_each_next_var n.hash); temp = λ n. f (E.e_each_next_temp n.hash); other = pass })

unfoldable pub variable : Forest → (Action → Walking) → Walking
variable nil f = pass
variable (cons (node op q v us) ts) f = each_of v f

unfoldable pub loaded : Payload → Post → Scope → Walking
loaded v p e = by_kind v (record {
  entity = λ n. loads e (E.e_load_var n.hash p);
  temp = λ n. loads e (E.e_load_temp n.hash p);
  other = as_name Kind.CONTEXT v pass (λ n. loads e (E.e_load_ctx n.hash p));
})

module _ (S : Settings) where
  -- 01, Walk: "left to right, but Div's second first, and logs each node's events where its rule puts them"
  unfoldable pub walk_plain : R.Plain → Post → Payload → Forest → List Walkings → Scope → Walking
  walk_plain R.array p v ts xs e = just xs pass λ a. as_name Kind.ARRAY_VARIABLE v pass λ n. do
    a.expr e
    loads e (E.e_array_element n.hash (shown p))
  walk_plain R.uses_arrays p v ts xs e = pass
  walk_plain R.uses_resources p v ts xs e = pass
  walk_plain R.float p v ts xs e = logs (E.e_const (float_of v))
  walk_plain R.string p v ts xs e = logs (E.e_hash (string_of v))
  walk_plain R.resource p v ts xs e = logs (E.e_resource (resource_of v))
  walk_plain R.this p v ts xs e = logs (E.e_this (shown p))
  walk_plain R.load p v ts xs e = loaded v (shown p) e
  walk_plain R.query p v ts xs e = as_query v pass λ i m w. arguments 0 xs (perhaps e) (note (E.e_call i m (length xs) (shown p)) w)
  walk_plain (R.compare o) p v ts xs e = paired (E.e_cmp_const o (const_of v) (shown p)) (E.e_cmp o (shown p)) xs e
  walk_plain (R.equal o) p v ts xs e =
      paired (as_hash v (E.e_eq_const o (float_of v) (shown p)) (λ h. E.e_eq_hash o h (shown p))) (E.e_eq o (shown p)) xs e
  walk_plain (R.logic j) p v ts xs e = some xs pass λ a ys.
      logic (cond j (E.e_and_step (shown p)) (E.e_or_step (shown p))) (cond j (E.e_and_last (shown p)) (E.e_or_last (shown p))) a ys e
  walk_plain R.coalesce p v ts xs e = two xs pass λ a b. do
    coalesce (a.expr (in_a_handler e)) (b.expr e)
    posted p
  walk_plain R.conditional p v ts xs e = some xs pass λ a ys. some ys pass λ b zs. do
    a.expr e
    conditional (b.expr e) (one zs (logs (E.e_const 0)) λ c. c.expr e)
    posted p
  walk_plain R.statements p v ts xs e = statements p.offset xs e
  walk_plain R.loop p v ts xs e = two xs pass λ a b. do
    a.expr e
    counted_loop (b.expr (in_a_loop e))
    logs (E.e_const (fold p 0))
  walk_plain R.for_each p v ts xs e = three xs pass λ a b c. variable ts λ x. do
    b.expr e
    eached x (c.expr (in_a_loop e))
    logs (E.e_const (fold p 0))
  walk_plain R.break p v ts xs e = jumps broke e.loop
  walk_plain R.continue p v ts xs e = jumps again e.loop
  walk_plain R.assign p v ts xs e = some xs pass λ a ys. do
    one ys (logs (E.e_const (const_of v))) (λ b. b.expr e)
    target ts (shown p)
  walk_plain R.bracket p v ts xs e = one xs pass λ a. a.expr e
  walk_plain (R.unary u) p v ts xs e = one xs pass λ a. do
    a.expr e
    logs (cond u (E.e_negate (shown p)) (E.e_not (shown p)))
  walk_plain R.add p v ts xs e = some xs pass λ a ys. some ys
      (do
        a.expr e
        posted p)
      λ b zs. do
        a.expr e
        pushes
        terms (shown p) b zs e
  walk_plain R.mul p v ts xs e = two xs pass λ a b. bounds 1 (E.e_mul (shown p)) a b e
  walk_plain R.div p v ts xs e = two xs pass λ a b. do
    b.expr e
    guarded (E.e_div_guard S.absolute) operand+ do
      a.expr e
      takes 1 (E.e_div (shown p))
  walk_plain (R.host_math u) p v ts xs e = as_math v pass λ f. some xs pass λ a ys.
      cond (leb (length xs) 255) (host_math (length ys) (E.e_host_math f (length xs) (shown p)) a ys e) pass
  walk_plain R.generic p v ts xs e = logs (E.e_const (fold p (const_of v)))
  walk_plain R.refused p v ts xs e = pass

  -- a member read: its base, then itself
  unfoldable pub member_read : Post → Payload → List Walkings → Scope → Walking
  member_read p v xs e = one xs pass λ a. do
    a.base e
    as_name Kind.MEMBER v pass (λ n. loads e (E.e_member n.hash (shown p)))

  unfoldable pub pointer : Post → List Walkings → Scope → Walking
  pointer p xs e = two xs pass λ a b. do
    a.expr e
    guarded (E.e_pointer_enter (shown p)) E.same do
      b.expr e
      logs (E.e_pointer_leave (shown p))

  unfoldable pub returning : Post → List Walkings → Scope → Walking
  returning p xs e = do
    one xs (logs (E.e_const 0)) (λ a. a.expr e)
    returns (shown p)

  abbrev pub alike : (Scope → Walking) → Walkings
  alike u = record { expr = u; statement = u; base = u }

  unfoldable pub walk_rule : Rule → Post → Payload → Forest → List Walkings → Walkings
  walk_rule R.return p v ts xs = record {
    expr = λ e. logs (E.e_const (fold p (const_of v)));
    statement = returning p xs;
    base = λ e. logs (E.e_const (fold p (const_of v)));
  }
  walk_rule R.member p v ts xs = alike (member_read p v xs)
  walk_rule R.entity p v ts xs = alike (loaded v (shown p))
  walk_rule R.pointer p v ts xs = alike (pointer p xs)
  walk_rule (R.plain r) p v ts xs = alike (walk_plain r p v ts xs)

  unfoldable mutual
    pub walk : Tree → Walkings
    walk (node op p v ts) = walk_rule (rule_at op) p v ts (walks ts)

    pub walks : Forest → List Walkings
    walks nil = []
    walks (cons t ts) = walk t ∷ walks ts

-- 02, C-15, of Halt: "In the main code it still ends the run."
-- missing, Break and Continue do not come out of a tree that no loop and no `??` is around
unfoldable pub finish : Completion → Result
finish (normal w) = result E.by_end w
finish (missing w) = result E.by_end w
finish (broke w) = result E.by_end w
finish (again w) = result E.by_end w
finish (returned w) = result E.by_return w
finish (halted w) = result E.by_halt w
finish (out w) = result E.by_out w

-- 01, Walk: "The walk starts at the root .. with nothing open"
unfoldable pub walked : Settings → Tree → List Bool → Result
walked S t outcomes = finish ((walk S t).expr inside (E.begin outcomes))
