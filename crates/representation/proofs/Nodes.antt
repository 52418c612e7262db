-- The lowering in words is the lowering: for every node of an accepted image, each rule, and the whole tree. Assumes nothing.
use Rattle.std.proofs.Common.{refl, sym, subst, Bool, true, false, cond, List, [], ℕ, zero, suc, ◌≤◌, arith, length}
use Rattle.answers.specs.declared.refusals.Refusal.TheVariants as Refusal
use Rattle.ast.specs.Rules as U
use Rattle.ast.specs.Rules.{Rule, rule_at}
use Rattle.ast.specs.Tree.{Forest}
use Rattle.ast.specs.Node.{op_at, payload_at, count_at, first_at, next_at, trees, tree_at}
use Rattle.program.specs.Counts.{Counts}
use Rattle.program.specs.Program.{Program}
use Rattle.semantics.specs.Pieces.{Lowering}
use Rattle.semantics.specs.Run.{Result, by_end, nothing_open}
use Rattle.semantics.specs.State.{to_cleanup, to_check, CallInfo, State}
use Rattle.semantics.specs.Lowering as D
use Rattle.semantics.specs.Lowering.{Lowerings, arguments, lower_plain, lower_rule, lower, lowers}
use Rattle.ast.specs.Header.{Settings, settings, LEVELS}
use Rattle.semantics.proofs.SimulatedCalls.{args_grow}
use Rattle.semantics.proofs.Agreement.{trees_s}
use Rattle.payload.specs.declared.NameRef.{NameRef}
use Rattle.payload.specs.Payloads.{named}
use Rattle.lowering.specs.Parts as L
use Rattle.lowering.specs.Parts.{Step}
use Rattle.lowering.specs.Rules as R
use Rattle.representation.proofs.Represents.{Pending, Does}
use Rattle.representation.proofs.Entries.{TextOf}
use Rattle.representation.proofs.OpenCode.{failing_does}
use Rattle.representation.proofs.Branches.{jump_out_lem}
use Rattle.representation.proofs.Calls.{pending_append}
use Rattle.representation.proofs.Arguments.{Child, Children}
use Rattle.representation.proofs.Queries.{query_does}
use Rattle.representation.proofs.Sound.{NodeSound, Sound, first_sound, SoundRow, as_query_lem}
use Rattle.representation.proofs.Values.{float_does, generic_does, string_does, resource_does, this_does, load_does, chained_does, member_does', array_does}
use Rattle.representation.proofs.Operators.{compare_does, equal_does, and_does, or_does, bracket_does, negate_does, not_does, mul_does, div_does, add_does, pointer_does, math_does}
use Rattle.representation.proofs.Control.{coalesce_does, conditional_does, statements_does, return_does, loop_rule, each_rule, assign_rule}

-- ---- the calls of a state are only added to

-- any program and any result serve
abbrev some_program : Program
some_program = record { code = []; consts = []; posts = []; hashes = []; names = []; temps = []; members = []; stores = []; calls = []; depths = nothing_open; flags = 0; float_loop = true }

abbrev some_result : Result
some_result = record { ending = by_end; log = []; left = [] }

still_pending : (S : Settings) (ts : Forest) (c : Counts) (j : ℕ) (s : State) → Pending j s.pools.calls → Pending j (arguments (lowers S ts) c s).state.pools.calls
still_pending S ts c j s h =
    let g = args_grow some_program 0 some_result (trees_s S some_program 0 some_result ts) c s in
    subst (λ (is : List CallInfo). Pending j is) (sym g.kept) (pending_append j s.pools.calls g.more h)

-- ---- every rule

module _ (tree : List ℕ) (short : length tree ≤ 6144) (n : ℕ) (le : n ≤ LEVELS) (E : ℕ → Bool → Step) (C : ℕ → NameRef → Bool → Step) (Z : ℕ → Bool → Step) (p : ℕ) (sound : NodeSound tree p) (first : 1 ≤ count_at tree p → Sound n tree (first_at tree p))
    (xs : List Lowerings) (k : Children tree E C Z xs (count_at tree p) (first_at tree p)) (pends : (c : Counts) (j : ℕ) (s : State) → Pending j s.pools.calls → Pending j (arguments xs c s).state.pools.calls) where
  abbrev lowerings_of : Rule → Lowerings
  lowerings_of r = lower_rule (settings tree) r (L.post_bits tree p) (payload_at tree p) (trees (tree_at n tree) tree (count_at tree p) (first_at tree p)) xs

  -- the three views of a node: an expression, a statement of a list, the base of a member path
  pub record Views (x : Lowerings) (expr statement : Bool → Step) (base : NameRef → Bool → Step) : Type 0 where
    pub as_expr : (l : Bool) (c : Counts) → Does tree (x.expr l) c (expr l)
    pub as_statement : (l : Bool) (c : Counts) → Does tree (x.statement l) c (statement l)
    pub as_base : (last : NameRef) → TextOf tree last → (l : Bool) (c : Counts) → Does tree (x.base (named tree last) l) c (base last l)

  -- of a node of that rule
  abbrev ViewsOf : Rule → Type 0
  ViewsOf r = Views (lowerings_of r) (λ l. R.branch tree E C Z n p l r)
      (λ l h. cond (U.is_return r) (R.ret tree E C Z p l h) (R.branch tree E C Z n p l r h))
      (λ last l h. cond (U.is_member r) (R.chained tree E C Z p last l h) (R.branch tree E C Z n p l r h))

  -- one view for all three
  alike : {f : Bool → Lowering} {F : Bool → Step} → ((l : Bool) (c : Counts) → Does tree (f l) c (F l)) → Views (D.alike (settings tree) f) F F (λ last. F)
  alike d = record { as_expr = d; as_statement = d; as_base = λ last t. d }

  pub views : (r : Rule) → ViewsOf r
  unfolding lower_rule lower_plain R.branch R.query settings
  views U.return = record {
    as_expr = λ l c. generic_does p;
    as_statement = λ l c. return_does tree E C Z p xs k l;
    as_base = λ last t l c. generic_does p;
  }
  views U.member = record {
    as_expr = λ l c. member_does' p sound short E C Z xs k l;
    as_statement = λ l c. member_does' p sound short E C Z xs k l;
    as_base = λ last t l c. chained_does p sound short E C Z xs k last t l;
  }
  views U.entity = alike (λ l c. load_does p sound short)
  views U.pointer = alike (λ l c. pointer_does tree E C Z p xs k l)
  views (U.plain U.array) = alike (λ l c. array_does p sound short E C Z xs k l)
  views (U.plain U.uses_arrays) = alike (λ l c. failing_does Refusal.UsesArrays)
  views (U.plain U.uses_resources) = alike (λ l c. failing_does Refusal.UsesResources)
  views (U.plain U.float) = alike (λ l c. float_does p)
  views (U.plain U.string) = alike (λ l c. string_does p)
  views (U.plain U.resource) = alike (λ l c. resource_does p)
  views (U.plain U.this) = alike (λ l c. this_does p)
  views (U.plain U.load) = alike (λ l c. load_does p sound short)
  views (U.plain U.query) = alike (λ l c. as_query_lem p (failing_does Refusal.Failed) (λ i m. query_does tree E C Z c p i m xs k (pends c)))
  views (U.plain (U.compare o)) = alike (λ l c. compare_does tree E C Z p xs k l o)
  views (U.plain (U.equal o)) = alike (λ l c. equal_does tree E C Z p xs k l o)
  views (U.plain (U.logic true)) = alike (λ l c. and_does tree E C Z p xs k l)
  views (U.plain (U.logic false)) = alike (λ l c. or_does tree E C Z p xs k l)
  views (U.plain U.coalesce) = alike (λ l c. coalesce_does tree E C Z p xs k l)
  views (U.plain U.conditional) = alike (λ l c. conditional_does tree E C Z p xs k l)
  views (U.plain U.statements) = alike (λ l c. statements_does tree E C Z p xs k l)
  views (U.plain U.loop) = alike (λ l c. loop_rule tree E C Z p xs k l)
  views (U.plain U.for_each) = alike (λ l c. each_rule tree E C Z p xs k l n first short)
  views (U.plain U.break) = alike (λ l c. jump_out_lem to_cleanup l l refl refl)
  views (U.plain U.continue) = alike (λ l c. jump_out_lem to_check l l refl refl)
  views (U.plain U.assign) = alike (λ l c. assign_rule tree E C Z p xs k l n le first short)
  views (U.plain U.bracket) = alike (λ l c. bracket_does tree E C Z p xs k l)
  views (U.plain (U.unary true)) = alike (λ l c. negate_does tree E C Z p xs k l)
  views (U.plain (U.unary false)) = alike (λ l c. not_does tree E C Z p xs k l)
  views (U.plain U.add) = alike (λ l c. add_does tree E C Z p xs k l)
  views (U.plain U.mul) = alike (λ l c. mul_does tree E C Z p xs k l)
  views (U.plain U.div) = alike (λ l c. div_does tree E C Z p xs k l)
  views (U.plain (U.host_math false)) = alike (λ l c. math_does tree E C Z p xs k l 0)
  views (U.plain (U.host_math true)) = alike (λ l c. math_does tree E C Z p xs k l 1536)
  views (U.plain U.generic) = alike (λ l c. generic_does p)
  views (U.plain U.refused) = alike (λ l c. failing_does Refusal.Failed)

-- ---- every node

module _ (tree : List ℕ) (short : length tree ≤ 6144) where
  children : (n m q : ℕ) → ((q : ℕ) → Sound n tree q → Child tree (R.expr tree n) (R.chain tree n) (R.returned tree n) (lower (settings tree) (tree_at n tree q)) q) → SoundRow (Sound n tree) tree m q
      → Children tree (R.expr tree n) (R.chain tree n) (R.returned tree n) (lowers (settings tree) (trees (tree_at n tree) tree m q)) m q
  unfolding lowers trees
  children n zero q f s = tt
  children n (suc m) q f s = (f q s.0, children n m (next_at tree q) f s.1)

  pub child : (n : ℕ) → n ≤ LEVELS → (q : ℕ) → Sound n tree q → Child tree (R.expr tree n) (R.chain tree n) (R.returned tree n) (lower (settings tree) (tree_at n tree q)) q
  unfolding lower tree_at R.expr R.chain R.returned R.statement
  child zero le q s = absurd s
  child (suc n) le q s =
      let ts = trees (tree_at n tree) tree (count_at tree q) (first_at tree q) in
      let k = children n (count_at tree q) (first_at tree q) (λ r t. child n (omega arith) r t) s.1 in
      let w =
      views tree short n (omega arith) (R.expr tree n) (R.chain tree n) (R.returned tree n) q s.0 (λ l. first_sound n tree q l s)
      (lowers (settings tree) ts) k (still_pending (settings tree) ts) (rule_at (op_at tree q))
      in
      record { expr_is = w.as_expr; statement_is = w.as_statement; base_is = w.as_base }
