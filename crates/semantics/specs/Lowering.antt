-- The lowering: each rule, in the order of the Rust's files. "Order of interning is public" (01, Modules). Definitions only.
use Rattle.std.specs.Prelude.{Bool, true, false, cond, ◌&&◌, List, [], ◌∷◌, ◌++◌, ℕ, zero, suc, ◌+◌, leb, length}
use Rattle.std.proofs.Math.Option.{some, none}
use Rattle.answers.specs.Refusals as Refusal
use Rattle.numeric.specs.Post.{Post, fold}
use Rattle.ast.specs.NameKinds as Kind
use Rattle.ast.specs.Header.{Settings}
use Rattle.ast.specs.Rules as R
use Rattle.ast.specs.Rules.{Rule, is_member, rule_at}
use Rattle.ast.specs.Tree.{Name, Payload, Tree, node, Forest, nil, cons}
use Rattle.program.specs.Kinds.{HAS_ASSIGNMENT, HAS_LOOPS, READS_ACTOR_VARS, READS_CONTEXT, USES_ARROW, USES_MEMBERS, USES_RANDOM, USES_RANDOM_OP}
use Rattle.program.specs.Instruction as I
use Rattle.program.specs.Instruction.{Taking, Plain, Guard, EachNext}
use Rattle.program.specs.Counts.{Counts}
use Rattle.program.specs.Program.{StoreRoot, root_var, root_temp, root_other}
use Rattle.semantics.specs.Positions.{past}
use Rattle.semantics.specs.Payloads as P
use Rattle.semantics.specs.Payloads.{Kinds, by_kind, as_name, as_hash, as_math, as_query, float_of, const_of}
use Rattle.semantics.specs.Payloads.{string_of, resource_of, one, two, three, just, Path, path}
use Rattle.semantics.specs.Run.{operand+, handler+, same}
use Rattle.semantics.specs.State.{Item, instr, to_cleanup, to_check, CallInfo, set_calls}
use Rattle.semantics.specs.State.{set_segments, sets, not_float_only, queried, State, set_pools}
use Rattle.semantics.specs.Pieces.{Lowered, Lowering, put, failing, ◌⨾◌, pushed, flagged, with_const, with_hash, with_name, with_temp}
use Rattle.semantics.specs.Pieces.{with_member, with_store, with_post, constant, post_instruction, guarded, fork, counted_loop, eached, jumps}

infixr 50 ◌>>◌
-- what `do` is read by: one piece after another, and an entry's index handed to the rest
abbrev ◌>>◌ : Lowering → Lowering → Lowering
◌>>◌ f g = f ⨾ g

abbrev ◌>>=◌ : ((ℕ → Lowering) → Lowering) → (ℕ → Lowering) → Lowering
◌>>=◌ interned rest = interned rest

-- a tree as an expression, as a statement of a list, and as the base of a member path with that last member; the Boolean: a loop is open here
pub record Lowerings : Type 0 where
  pub expr : Bool → Lowering
  pub statement : Bool → Lowering
  pub base : Name → Bool → Lowering

-- ---- values

-- 01, Nine questions, 7: "A load takes Entity, Temp or Context under each variable operator"; the post is interned first
unfoldable pub loaded : Payload → Post → Lowering
loaded v p = do
  q ← with_post p
  by_kind v (record {
    entity = λ n. flagged (sets READS_ACTOR_VARS) (do k ← with_name n; put (I.reading (I.load_var k q)));
    temp = λ n. (do t ← with_temp n; put (I.reading (I.load_temp t q)));
    other = as_name Kind.CONTEXT v (failing Refusal.FAILED) (λ n. flagged (sets READS_CONTEXT) (do k ← with_name n; put (I.reading (I.load_ctx k q))));
  })

-- a member read: its base, then itself; "Member: member, post"
unfoldable pub chained : Post → Payload → List Lowerings → Name → Bool → Lowering
chained p v xs last l = one xs (failing Refusal.FAILED) λ a. do
  a.base last l
  as_name Kind.MEMBER v (failing Refusal.FAILED) λ n. do
    m ← with_member (record { own = n; last = last })
    q ← with_post p
    put (I.reading (I.member m q))

-- the last member of the path is this one; not float only, USES_MEMBERS
unfoldable pub member_read : Post → Payload → List Lowerings → Bool → Lowering
member_read p v xs l = flagged (λ f. sets USES_MEMBERS (not_float_only f)) (as_name Kind.MEMBER v (failing Refusal.FAILED) (λ n. chained p v xs n l))

unfoldable pub with_root : Payload → (StoreRoot → Lowering) → Lowering
with_root v f = by_kind v (record {
  entity = λ n. (do k ← with_name n; f (root_var k));
  temp = λ n. (do t ← with_temp n; f (root_temp t));
  other = f root_other;
})

-- a store to a member path; not float only, USES_MEMBERS
unfoldable pub member_store : Path → ℕ → Lowering
member_store m q = flagged (λ f. sets USES_MEMBERS (not_float_only f)) (with_root m.root λ r. do
  k ← with_store (record { root = r; path = m.hashes })
  put (I.plain (I.store_member k q)))

-- "Assignment: value, post, name"; 01, Slips: under MemberAccessor an Entity payload "is StoreVar"
unfoldable pub stores : Rule → Payload → Path → Post → Lowering
stores r v m p = do
  q ← with_post p
  by_kind v (record {
    entity = λ n. (do k ← with_name n; put (I.plain (I.store_var k q)));
    temp = λ n. (do t ← with_temp n; put (I.plain (I.store_temp t q)));
    other = cond (is_member r && m.fine) (member_store m q) (failing Refusal.FAILED);
  })

-- the target's check before anything is lowered; 01, Nine questions, 8: "No assignment to a Pointer (WriteToOtherMob)? No: 8, in place of 7."
unfoldable pub target_refusal : Rule → Payload → ℕ
target_refusal R.return v = as_name Kind.TEMP v Refusal.FAILED (λ n. Refusal.ACCEPTED)
target_refusal R.member v = Refusal.ACCEPTED
target_refusal R.entity v = Refusal.ACCEPTED
target_refusal R.pointer v = Refusal.WRITE_TO_OTHER_MOB
target_refusal (R.plain r) v = as_name Kind.TEMP v Refusal.FAILED (λ n. Refusal.ACCEPTED)

unfoldable pub unless : ℕ → Lowering → Lowering
unless zero f = f
unless (suc r) f = failing (suc r)

-- the value f goes to the first child; HAS_ASSIGNMENT
unfoldable pub target : Forest → Lowering → Post → Lowering
target nil f p = failing Refusal.FAILED
target (cons (node op q v us) ts) f p = unless (target_refusal (rule_at op) v) (flagged (sets HAS_ASSIGNMENT) do
  f
  stores (rule_at op) v (path (node op q v us)) p)

-- ---- logic

-- 01, Modules: "Comparison, equality, .. intern the post first": a child and the form with a constant, or two children and the instruction of both
unfoldable pub paired : (ℕ → Lowering) → (ℕ → Taking) → Post → List Lowerings → Bool → Lowering
paired with_constant i p xs l = P.some xs (failing Refusal.FAILED) λ a ys. do
  q ← with_post p
  P.some ys (do a.expr l; with_constant q) λ b zs. pushed (a.expr l) do
    b.expr l
    put (I.taking (i q))

-- the payload's constant is the second operand
unfoldable pub const_operand : (ℕ → ℕ → Plain) → Payload → ℕ → Lowering
const_operand i v q = do
  k ← with_const (const_of v)
  put (I.plain (i k q))

-- 01, Slips: "equality gives EqHash"; not float only
unfoldable pub equal_const : ℕ → Payload → ℕ → Lowering
equal_const o v q = as_hash v
    (do k ← with_const (float_of v); put (I.plain (I.eq_const o k q)))
    (λ h. flagged not_float_only (do k ← with_hash h; put (I.plain (I.eq_hash o k q))))

unfoldable pub logic : Guard → Plain → Lowerings → List Lowerings → Bool → Lowering
logic step last a [] l = do
  a.expr l
  put (I.plain last)
logic step last a (b ∷ xs) l = do
  a.expr l
  guarded step same (logic step last b xs l)

-- ---- arith

-- 01, Modules: "most others after their operands": two children, and the instruction of both with the post behind them
unfoldable pub bounds : (ℕ → Taking) → Post → Lowerings → Lowerings → Bool → Lowering
bounds i p a b l = pushed (a.expr l) do
  b.expr l
  q ← with_post p
  put (I.taking (i q))

unfoldable pub terms : Post → Lowerings → List Lowerings → Bool → Lowering
terms p a [] l = do
  a.expr l
  q ← with_post p
  put (I.taking (I.add_last q))
terms p a (b ∷ xs) l = do
  a.expr l
  put (I.plain I.add_acc)
  terms p b xs l

unfoldable pub host_math : ℕ → ℕ → Post → Lowerings → List Lowerings → Bool → Lowering
host_math f k p a [] l = do
  a.expr l
  q ← with_post p
  put (I.taking (I.host_math f k q))
host_math f k p a (b ∷ xs) l = pushed (a.expr l) (host_math f k p b xs l)

-- ---- calls

-- the position after segments that begin at n
abbrev pub pasts : List (List Item) → ℕ → ℕ
pasts [] n = n
pasts (c ∷ cs) n = pasts cs (past c n)

pub record Arguments : Type 0 where
  pub offsets : List ℕ
  pub state : State

abbrev pub close_segment : Lowered → State
close_segment x = set_pools (set_segments (x.state.pools.segments ++ ((x.code ++ (instr I.end ∷ [])) ∷ [])) x.state.pools) x.state

-- 01, Modules: "Argument segments follow the main code in order of completion, inner before outer. They start without loops."
unfoldable pub arguments : List Lowerings → Counts → State → Arguments
arguments [] c s = record { offsets = []; state = s }
arguments (a ∷ xs) c s =
    let x = a.expr false c false 0 s in
    let y = arguments xs c (close_segment x) in
    record { offsets = pasts x.state.pools.segments 0 ∷ y.offsets; state = y.state }

unfoldable pub fill : ℕ → List ℕ → List CallInfo → List CallInfo
fill k o [] = []
fill zero o (i ∷ is) = record { index = i.index; impl = i.impl; offsets = some o } ∷ is
fill (suc k) o (i ∷ is) = i ∷ fill k o is

-- 01, Modules: "A call takes its number before its arguments."
abbrev pub called : ℕ → ℕ → List Lowerings → Counts → State → State
called v m xs c s =
    let y = arguments xs c (set_pools (set_calls (s.pools.calls ++ (record { index = v; impl = m; offsets = none } ∷ [])) s.pools) s) in
    set_pools (set_calls (fill (length s.pools.calls) y.offsets y.state.pools.calls) y.state.pools) y.state

unfoldable pub is_empty : {A : Type 0} → List A → Bool
is_empty [] = true
is_empty (x ∷ xs) = false

abbrev pub query : ℕ → ℕ → Post → List Lowerings → Lowering
query v m p xs c b n s = with_post p (λ q. put (I.call (length s.pools.calls) q)) c b n (called v m xs c s)

-- "pointer and load intern the post first"; not float only, USES_ARROW
unfoldable pub pointer : Post → List Lowerings → Bool → Lowering
pointer p xs l = flagged (λ f. sets USES_ARROW (not_float_only f)) (two xs (failing Refusal.FAILED) λ a b. do
  q ← with_post p
  a.expr l
  guarded (I.pointer_enter q) same do
    b.expr l
    put (I.plain (I.pointer_leave q)))

-- ---- control

-- 01, Slips: a statement list's last constant "is the offset alone"
unfoldable pub statements : ℕ → List Lowerings → Bool → Lowering
statements o [] l = constant o
statements o (a ∷ xs) l = do
  a.statement l
  statements o xs l

unfoldable pub returning : Post → List Lowerings → Bool → Lowering
returning p xs l = do
  one xs (constant 0) (λ a. a.expr l)
  q ← with_post p
  put (I.return q)

-- 01, Nine questions, 7: "a ForEach variable Entity or Temp under any operator"
unfoldable pub each_of : Payload → (EachNext → Lowering) → Lowering
each_of v f = by_kind v (record {
  entity = λ n. (do k ← with_name n; f (I.each_next_var k));
  temp = λ n. (do t ← with_temp n; f (I.each_next_temp t));
  other = failing Refusal.FAILED;
})

unfoldable pub variable : Forest → (EachNext → Lowering) → Lowering
variable nil f = failing Refusal.FAILED
variable (cons (node op q v us) ts) f = each_of v f

-- ---- every rule

-- "Array: index, name, post"; exactly one child
unfoldable pub array_element : Post → Payload → List Lowerings → Bool → Lowering
array_element p v xs l = just xs (failing Refusal.FAILED) λ a. as_name Kind.ARRAY_VARIABLE v (failing Refusal.FAILED) λ n. flagged not_float_only do
  a.expr l
  k ← with_name n
  q ← with_post p
  put (I.reading (I.array_element k q))

module _ (S : Settings) where
  unfoldable pub lower_plain : R.Plain → Post → Payload → Forest → List Lowerings → Bool → Lowering
  lower_plain R.array p v ts xs l = cond S.from_host (array_element p v xs l) (failing Refusal.USES_ARRAYS)
  lower_plain R.uses_arrays p v ts xs l = failing Refusal.USES_ARRAYS
  lower_plain R.uses_resources p v ts xs l = failing Refusal.USES_RESOURCES
  lower_plain R.float p v ts xs l = constant (float_of v)
  lower_plain R.string p v ts xs l = flagged not_float_only do
    h ← with_hash (string_of v)
    put (I.plain (I.hash h))
  lower_plain R.resource p v ts xs l = flagged not_float_only do
    h ← with_hash (resource_of v)
    put (I.plain (I.resource h))
  lower_plain R.this p v ts xs l = do
    q ← with_post p
    put (I.plain (I.this q))
  lower_plain R.load p v ts xs l = loaded v p
  lower_plain R.query p v ts xs l = as_query v (failing Refusal.FAILED) λ i m. flagged (queried (is_empty xs)) (query i m p xs)
  lower_plain (R.compare o) p v ts xs l = paired (const_operand (I.cmp_const o) v) (I.cmp o) p xs l
  lower_plain (R.equal o) p v ts xs l = paired (equal_const o v) (I.eq o) p xs l
  lower_plain (R.logic j) p v ts xs l = P.some xs (failing Refusal.FAILED) λ a ys. do
    q ← with_post p
    logic (cond j (I.and_step q) (I.or_step q)) (cond j (I.and_last q) (I.or_last q)) a ys l
  lower_plain R.coalesce p v ts xs l = two xs (failing Refusal.FAILED) λ a b. do
    fork I.handler_push I.handler_pop handler+ (a.expr l) (b.expr l)
    post_instruction p
  lower_plain R.conditional p v ts xs l = P.some xs (failing Refusal.FAILED) λ a ys. P.some ys (failing Refusal.FAILED) λ b zs. do
    a.expr l
    fork (I.guard I.jump_if_falsy) I.jump same (b.expr l) (one zs (constant 0) λ c. c.expr l)
    post_instruction p
  lower_plain R.statements p v ts xs l = statements p.offset xs l
  lower_plain R.loop p v ts xs l = flagged (sets HAS_LOOPS) (two xs (failing Refusal.FAILED) λ a b. do
    a.expr l
    counted_loop (b.expr true)
    constant (fold p 0))
  lower_plain R.for_each p v ts xs l = flagged (λ f. not_float_only (sets HAS_LOOPS f)) (three xs (failing Refusal.FAILED) λ a b c. variable ts λ i. do
    b.expr l
    eached i (c.expr true)
    constant (fold p 0))
  lower_plain R.break p v ts xs l = jumps to_cleanup l
  lower_plain R.continue p v ts xs l = jumps to_check l
  lower_plain R.assign p v ts xs l = P.some xs (failing Refusal.FAILED) λ a ys. target ts (one ys (constant (const_of v)) λ b. b.expr l) p
  lower_plain R.bracket p v ts xs l = one xs (failing Refusal.FAILED) λ a. a.expr l
  lower_plain (R.unary u) p v ts xs l = one xs (failing Refusal.FAILED) λ a. do
    a.expr l
    q ← with_post p
    put (I.plain (cond u (I.negate q) (I.not q)))
  lower_plain R.add p v ts xs l = P.some xs (failing Refusal.FAILED) λ a ys. P.some ys
      (do
        a.expr l
        post_instruction p)
      λ b zs. pushed (a.expr l) (terms p b zs l)
  lower_plain R.mul p v ts xs l = two xs (failing Refusal.FAILED) λ a b. bounds I.mul p a b l
  lower_plain R.div p v ts xs l = two xs (failing Refusal.FAILED) λ a b. do
    b.expr l
    guarded (I.div_guard S.absolute) operand+ do
      a.expr l
      q ← with_post p
      put (I.taking (I.div q))
  lower_plain (R.host_math u) p v ts xs l = flagged (sets (cond u (USES_RANDOM + USES_RANDOM_OP) 0)) (as_math v (failing Refusal.FAILED) λ f.
      P.some xs (failing Refusal.FAILED) λ a ys. cond (leb (length xs) 255) (host_math f (length xs) p a ys l) (failing Refusal.FAILED))
  lower_plain R.generic p v ts xs l = constant (fold p (const_of v))
  lower_plain R.refused p v ts xs l = failing Refusal.FAILED

  abbrev pub alike : (Bool → Lowering) → Lowerings
  alike u = record { expr = u; statement = u; base = λ n. u }

  unfoldable pub lower_rule : Rule → Post → Payload → Forest → List Lowerings → Lowerings
  lower_rule R.return p v ts xs = record {
    expr = λ l. constant (fold p (const_of v));
    statement = returning p xs;
    base = λ n l. constant (fold p (const_of v));
  }
  lower_rule R.member p v ts xs = record { expr = member_read p v xs; statement = member_read p v xs; base = chained p v xs }
  lower_rule R.entity p v ts xs = alike (λ l. loaded v p)
  lower_rule R.pointer p v ts xs = alike (pointer p xs)
  lower_rule (R.plain r) p v ts xs = alike (lower_plain r p v ts xs)

  unfoldable mutual
    pub lower : Tree → Lowerings
    lower (node op p v ts) = lower_rule (rule_at op) p v ts (lowers ts)

    pub lowers : Forest → List Lowerings
    lowers nil = []
    lowers (cons t ts) = lower t ∷ lowers ts
