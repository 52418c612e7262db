use mathlib.Core.Path.{◌≡◌, refl}
use mathlib.Core.Bool.{Bool, true, false, cond, ◌&&◌}
use mathlib.Core.List.{List, []}
use Prim.Native.Nat.{ℕ, zero, suc, ◌+◌, ◌-◌}
use native.Mathlib.Omega.{arith}
use lib.ListN.{length}
use lib.Dec.{leb}
use Rattle.ast.specs.Tree.{Name, Payload, Tree, node, Forest, nil, cons}
use Rattle.numeric.specs.Post.{Post, is_identity}
use Rattle.program.specs.Instruction as Instr
use Rattle.program.specs.Instruction.{Taking, Plain, hash, resource, this, negate, not, and_last, or_last, pointer_leave, store_var, store_temp, store_member, cmp_const, eq_const, eq_hash, add_acc, add_last, mul, div, cmp, eq, host_math, load_var, load_temp, load_ctx, member, Guard, div_guard, and_step, or_step, pointer_enter, EachNext, each_next_var, each_next_temp, plain, taking, reading, end, return}
use Rattle.program.specs.Counts.{Counts}
use Rattle.program.specs.Program.{StoreRoot, root_var, root_temp, root_other}
use Rattle.semantics.proofs.BoundedControl.{Whole, load_b, ret_b, jumps_b, guarded_b, branch_b, coalesce_b, looped_b, eached_b, query_b}
use Rattle.semantics.proofs.Bounds.{In, Less, Bound, Fine, cnt_path, taken, ext_bound, after_less, ◌then_b◌, pushed_b, pushed_fine, failing_b, put_b, take_b, flagged_b, interned_b, post_b, temp_b, store_b, constant_b, post_instr_b}
use Rattle.semantics.proofs.Relations.{Zip, znil, zcons, zip_length, either_rel, name_rel, kind_rel, name_one, hash_rel, math_rel, query_rel}
use Rattle.semantics.specs.Demand3.{Within}
use Rattle.semantics.specs.Link.{lowered}
use Rattle.semantics.specs.Lowering.{Lowerings, member_read, with_root, member_store, target_refusal, unless, const_operand, equal_const, array_element, lower_plain, lower_rule, lower, lowers}
use Rattle.semantics.specs.Payloads.{as_hash, one, Path, path}
use Rattle.semantics.specs.Pieces.{Lowering, flush, failing, const_pool, hash_pool, name_pool, member_pool, constant}
use Rattle.ast.specs.Header.{Settings}
use Rattle.ast.specs.Rules.{Rule, is_member, rule_at}
use Rattle.ast.specs.Rules as R
use Rattle.semantics.specs.Run.{Action, e_const, e_add_last, e_store_member, e_add_acc, nothing_open, operand+, operands-, same, begin}
use Rattle.semantics.specs.State.{to_cleanup, to_check, empty}
use Rattle.semantics.specs.Walk.{Completion, normal, missing, broke, again, returned, halted, out, Walking, Scope, inside, in_a_loop, in_a_handler, ◌then◌, pass, logs, Walkings, root_shown, walk_plain, walk_rule, finish, walked, walk, walks}
use Rattle.semantics.specs.Walk as K
use Rattle.semantics.specs.Lowering as L

-- Every rule's walk stays within the maxima that its lowering raised; so does a whole tree's. Assumes nothing.

pass_less : Less pass
pass_less w = omega arith

no_b : Fine (failing 7) pass
no_b = failing_b 6 pass_less

-- the first child, or else a constant
other_b : (k : ℕ) {ls : List Lowerings} {ms : List Walkings} → Zip Whole ls ms → (e : Scope) → Fine (one ls (constant k) (λ a. a.expr e.loop)) (one ms (logs (e_const k)) (λ a. a.expr e))
other_b k znil e = constant_b k
other_b k (zcons a z) e = a.expr e

-- rules over lists of children
statements_b : (o : ℕ) {ls : List Lowerings} {ms : List Walkings} → Zip Whole ls ms → (e : Scope) → Fine (L.statements o ls e.loop) (K.statements o ms e)
unfolding L.statements K.statements
statements_b o znil e = constant_b o
statements_b o (zcons a h) e = a.statement e then_b statements_b o h e

junction_b : (state : Guard) (la : Plain) (x y : Action) {l : Lowerings} {m : Walkings} → Whole l m → {ls : List Lowerings} {ms : List Walkings} → Zip Whole ls ms → (e : Scope) → Fine (L.logic state la l ls e.loop) (K.logic x y m ms e)
unfolding L.logic K.logic
junction_b state la x y a znil e = a.expr e then_b put_b (plain la) y
junction_b state la x y a (zcons b h) e = a.expr e then_b guarded_b state x same same (λ c. refl) (junction_b state la x y b h e)

addition_b : (p q : Post) {l : Lowerings} {m : Walkings} → Whole l m → {ls : List Lowerings} {ms : List Walkings} → Zip Whole ls ms → (e : Scope) → Bound (L.terms p l ls e.loop) (K.terms q m ms e) (operands- 1)
unfolding L.terms K.terms
addition_b p q a znil e = a.expr e then_b post_b p _ (λ k. take_b (taking (add_last k)) 1 (e_add_last q))
addition_b p q a (zcons b h) e = a.expr e then_b put_b (plain add_acc) e_add_acc then_b addition_b p q b h e

hosted_b : (f n k : ℕ) (p : Post) (x : Action) {l : Lowerings} {m : Walkings} → Whole l m → {ls : List Lowerings} {ms : List Walkings} → Zip Whole ls ms → (e : Scope)
    → Bound (L.host_math f n p l ls e.loop) (K.host_math k x m ms e) (λ c. record c { operands = c.operands + length ms - k })
unfolding L.host_math K.host_math
hosted_b f n k p x a znil e = ext_bound (a.expr e then_b post_b p _ (λ q. take_b (taking (host_math f n q)) k x)) _ (λ c. cnt_path c (omega arith))
hosted_b f n k p x a (zcons b h) e = ext_bound (pushed_b (a.expr e) (hosted_b f n k p x b h e)) _ (λ c. cnt_path c (omega arith))

-- stores, and the variable of a ForEach
root_b : (v : Payload) (g : StoreRoot → Lowering) (u : StoreRoot → Walking) → ((r x : StoreRoot) → Fine (g r) (u x)) → Fine (with_root v g) (u (root_shown v))
unfolding with_root root_shown
root_b v g u h = kind_rel (λ f x. Fine f (u x)) v (h root_other root_other) (λ n. temp_b n _ (λ t. h (root_temp t) (root_temp n.hash))) (λ n. interned_b name_pool n _ (λ k. h (root_var k) (root_var n.hash)))

unless_b : (r : ℕ) {f : Lowering} {u : Walking} {d : Counts → Counts} → Bound f u d → Bound (unless r f) u d
unfolding unless
unless_b zero h = h
unless_b (suc r) h = failing_b r h.less

member_store_b : (x : Bool) (m : Path) (k : ℕ) (q : Post) → Fine (cond x (member_store m k) (failing 7)) (logs (e_store_member (root_shown m.root) m.hashes q))
unfolding member_store
member_store_b true m k q = flagged_b _ (root_b m.root _ (λ r. logs (e_store_member r m.hashes q)) (λ r x. store_b _ _ (λ i. put_b (plain (store_member i k)) _)))
member_store_b false m k q = failing_b 6 (λ w. omega arith)

stores_b : (r : Rule) (v : Payload) (m : Path) (p q : Post) → Fine (L.stores r v m p) (K.stores v m q)
unfolding L.stores K.stores
stores_b r v m p q = post_b p _ λ k. kind_rel Fine v (member_store_b (is_member r && m.fine) m k q) (λ n. temp_b n _ (λ t. put_b (plain (store_temp t k)) _)) (λ n. interned_b name_pool n _ (λ i. put_b (plain (store_var i k)) _))

target_b : (ts : Forest) {f : Lowering} {u : Walking} → Fine f u → (p q : Post) → Fine (L.target ts f p) (u then K.target ts q)
unfolding L.target K.target
target_b nil {u = u} h p q = failing_b 6 (λ w. after_less pass (λ w. omega arith) (u w) (h.less w))
target_b (cons (node r o v us) ts) h p q = unless_b (target_refusal (rule_at r) v) (flagged_b _ (h then_b stores_b (rule_at r) v (path (node r o v us)) p q))

variable_b : (ts : Forest) (g : EachNext → Lowering) (u : Action → Walking) → ((i : EachNext) (x : Action) → Fine (g i) (u x)) → Fine (L.variable ts g) (K.variable ts u)
unfolding L.variable K.variable L.each_of K.each_of
variable_b nil g u h = no_b
variable_b (cons (node r o v us) ts) g u h = kind_rel Fine v no_b (λ n. temp_b n _ (λ t. h (each_next_temp t) _)) (λ n. interned_b name_pool n _ (λ k. h (each_next_var k) _))

loaded_b : (v : Payload) (p q : Post) (e : Scope) → Fine (L.loaded v p) (K.loaded v q e)
unfolding L.loaded K.loaded
loaded_b v p q e = post_b p _ λ k. kind_rel Fine v (name_rel Fine 3 v no_b (λ n. flagged_b _ (interned_b name_pool n _ (λ i. load_b (reading (load_ctx i k)) _ e)))) (λ n. temp_b n _ (λ t. load_b (reading (load_temp t k)) _ e))
    (λ n. flagged_b _ (interned_b name_pool n _ (λ i. load_b (reading (load_var i k)) _ e)))

-- a child and the form with a constant, or two children
paired_b : (f : ℕ → Lowering) (i : ℕ → Taking) (x y : Action) → ((q : ℕ) → Fine (f q) (logs x)) → (p : Post) {ls : List Lowerings} {ms : List Walkings}
    → Zip Whole ls ms → (e : Scope) → Fine (L.paired f i p ls e.loop) (K.paired x y ms e)
unfolding L.paired K.paired K.bounds
paired_b f i x y h p znil e = no_b
paired_b f i x y h p (zcons a znil) e = post_b p _ λ q. a.expr e then_b h q
paired_b f i x y h p (zcons a (zcons b z)) e = post_b p _ λ q. pushed_fine (a.expr e) (b.expr e then_b take_b (taking (i q)) 1 y)

equal_const_b : (o : ℕ) (v : Payload) (x : Action) (y : ℕ → Action) (q : ℕ) → Fine (equal_const o v q) (logs (as_hash v x y))
unfolding equal_const
equal_const_b o v x y q = hash_rel (λ f u. Fine f (logs u)) v (interned_b const_pool _ _ (λ k. put_b (plain (eq_const o k q)) x))
    (λ h. flagged_b _ (interned_b hash_pool h _ (λ k. put_b (plain (eq_hash o k q)) (y h))))

-- two children, and what takes k operands
bounds_b : (i : ℕ → Taking) (k : ℕ) (x : Action) (p : Post) {a b : Lowerings} {m w : Walkings} → Whole a m → Whole b w → (e : Scope)
    → Bound (L.bounds i p a b e.loop) (K.bounds k x m w e) (λ c. operands- k (operand+ c))
unfolding L.bounds K.bounds
bounds_b i k x p a b e = pushed_b (a.expr e) (b.expr e then_b post_b p _ (λ q. take_b (taking (i q)) k x))

module _ (S : Settings) where
  array_b : (x : Bool) (p : Post) (v : Payload) (ts : Forest) {ls : List Lowerings} {ms : List Walkings} → Zip Whole ls ms → (e : Scope) → Fine (cond x (array_element p v ls e.loop) (failing 5)) (walk_plain S R.array p v ts ms e)
  unfolding array_element walk_plain
  array_b true p v ts (zcons a znil) e = name_rel Fine 7 v no_b (λ n. flagged_b _ (a.expr e then_b interned_b name_pool n _ (λ k. post_b p _ λ q. load_b (reading (Instr.array_element k q)) _ e)))
  array_b true p v ts h e = no_b
  array_b false p v ts (zcons a znil) e = failing_b 4 (name_rel Fine 7 v no_b (λ n. a.expr e then_b load_b end _ e)).less
  array_b false p v ts h e = failing_b 4 pass_less

  plain_b : (r : R.Plain) (p : Post) (v : Payload) (ts : Forest) {ls : List Lowerings} {ms : List Walkings} → Zip Whole ls ms → (e : Scope) → Fine (lower_plain S r p v ts ls e.loop) (walk_plain S r p v ts ms e)
  unfolding lower_plain walk_plain const_operand
  plain_b R.array p v ts h e = array_b S.from_host p v ts h e
  plain_b R.uses_arrays p v ts h e = failing_b 4 pass_less
  plain_b R.uses_resources p v ts h e = failing_b 5 pass_less
  plain_b R.float p v ts h e = constant_b _
  plain_b R.string p v ts h e = flagged_b _ (interned_b hash_pool _ _ (λ k. put_b (plain (hash k)) _))
  plain_b R.resource p v ts h e = flagged_b _ (interned_b hash_pool _ _ (λ k. put_b (plain (resource k)) _))
  plain_b R.this p v ts h e = post_b p _ (λ q. put_b (plain (this q)) _)
  plain_b R.load p v ts h e = loaded_b v p _ e
  plain_b R.query p v ts h e = query_rel Fine v no_b (λ i m. flagged_b _ (query_b e i m p _ h))
  plain_b (R.compare o) p v ts h e = paired_b _ (cmp o) _ _ (λ q. interned_b const_pool _ _ (λ k. put_b (plain (cmp_const o k q)) _)) p h e
  plain_b (R.equal o) p v ts h e = paired_b _ (eq o) _ _ (equal_const_b o v _ _) p h e
  plain_b (R.logic j) p v ts (zcons a z) e = post_b p _ λ q. junction_b (cond j (and_step q) (or_step q)) (cond j (and_last q) (or_last q)) _ _ a z e
  plain_b R.coalesce p v ts (zcons a (zcons b z)) e = coalesce_b (a.expr (in_a_handler e)) (b.expr e) then_b post_instr_b (is_identity p) p
  plain_b R.conditional p v ts (zcons a (zcons b z)) e = a.expr e then_b branch_b (b.expr e) (other_b 0 z e) then_b post_instr_b (is_identity p) p
  plain_b R.statements p v ts h e = statements_b _ h e
  plain_b R.loop p v ts (zcons a (zcons b z)) e = flagged_b _ (a.expr e then_b looped_b (b.expr (in_a_loop e)) then_b constant_b _)
  plain_b R.loop p v ts h e = flagged_b _ no_b
  plain_b R.for_each p v ts (zcons a (zcons b (zcons c z))) e = flagged_b _ (variable_b ts _ _ (λ i x. b.expr e then_b eached_b i x (c.expr (in_a_loop e)) then_b constant_b _))
  plain_b R.for_each p v ts h e = flagged_b _ no_b
  plain_b R.break p v ts h e = jumps_b to_cleanup broke (λ w. omega arith) (λ m c w l. l) e.loop
  plain_b R.continue p v ts h e = jumps_b to_check again (λ w. omega arith) (λ m c w l. l) e.loop
  plain_b R.assign p v ts (zcons a z) e = target_b ts (other_b _ z e) p _
  plain_b R.bracket p v ts (zcons a z) e = a.expr e
  plain_b (R.unary u) p v ts (zcons a z) e = a.expr e then_b post_b p _ (λ q. put_b (plain (cond u (negate q) (not q))) _)
  plain_b R.add p v ts (zcons a znil) e = a.expr e then_b post_instr_b (is_identity p) p
  plain_b R.add p v ts (zcons a (zcons b z)) e = pushed_fine (a.expr e) (addition_b p _ b z e)
  plain_b R.mul p v ts (zcons a (zcons b z)) e = ext_bound (bounds_b mul 1 _ p a b e) same taken
  plain_b R.div p v ts (zcons a (zcons b z)) e = b.expr e then_b guarded_b (div_guard S.absolute) _ operand+ (operands- 1) taken (a.expr e then_b post_b p _ (λ q. take_b (taking (div q)) 1 _))
  plain_b (R.host_math u) p v ts znil e = flagged_b _ (math_rel Fine v no_b (λ f. no_b))
  plain_b (R.host_math u) p v ts (zcons {qs = ms} a z) e = flagged_b _ (math_rel Fine v no_b λ f. rw (zip_length z) (either_rel Fine (leb (suc (length ms)) 255) (ext_bound (hosted_b f _ (length ms) p _ a z e) same (λ c. cnt_path c (omega arith))) no_b))
  plain_b R.generic p v ts h e = constant_b _
  plain_b _ p v ts h e = no_b

  chained_b : (p : Post) (v : Payload) {ls : List Lowerings} {ms : List Walkings} → Zip Whole ls ms → (n : Name) (e : Scope) → Fine (L.chained p v ls n e.loop) (K.member_read S p v ms e)
  unfolding L.chained K.member_read
  chained_b p v znil n e = no_b
  chained_b p v (zcons a z) n e = a.base n e then_b name_rel Fine 6 v no_b (λ k. interned_b member_pool _ _ λ i. post_b p _ λ q. load_b (reading (member i q)) _ e)

  member_read_b : (p : Post) (v : Payload) {ls : List Lowerings} {ms : List Walkings} → Zip Whole ls ms → (e : Scope) → Fine (member_read p v ls e.loop) (K.member_read S p v ms e)
  unfolding member_read
  member_read_b p v {ms = ms} h e = flagged_b _ (name_one (λ f. Fine f (K.member_read S p v ms e)) 6 v (failing_b 6 (chained_b p v h (record { hash = 0; text = [] }) e).less) (λ j n i. chained_b p v h n e))

  pointer_b : (p : Post) {ls : List Lowerings} {ms : List Walkings} → Zip Whole ls ms → (e : Scope) → Fine (L.pointer p ls e.loop) (K.pointer S p ms e)
  unfolding L.pointer K.pointer
  pointer_b p (zcons a (zcons b z)) e = flagged_b _ (post_b p _ λ q. a.expr e then_b guarded_b (pointer_enter q) _ same same (λ c. refl) (b.expr e then_b put_b (plain (pointer_leave q)) _))
  pointer_b p h e = flagged_b _ no_b

  return_b : (p : Post) {ls : List Lowerings} {ms : List Walkings} → Zip Whole ls ms → (e : Scope) → Fine (L.returning p ls e.loop) (K.returning S p ms e)
  unfolding L.returning K.returning
  return_b p h e = other_b 0 h e then_b post_b p _ (λ q. ret_b (return q) _)

  whole : (r : Rule) (p : Post) (v : Payload) (ts : Forest) {ls : List Lowerings} {ms : List Walkings} → Zip Whole ls ms → Whole (lower_rule S r p v ts ls) (walk_rule S r p v ts ms)
  unfolding lower_rule walk_rule
  whole R.return p v ts h = record { expr = λ e. constant_b _; base = λ n e. constant_b _; statement = return_b p h }
  whole R.member p v ts h = record { expr = member_read_b p v h; statement = member_read_b p v h; base = chained_b p v h }
  whole R.entity p v ts h = record { expr = loaded_b v p _; statement = loaded_b v p _; base = λ n. loaded_b v p _ }
  whole R.pointer p v ts h = record { expr = pointer_b p h; statement = pointer_b p h; base = λ n. pointer_b p h }
  whole (R.plain r) p v ts h = record { expr = plain_b r p v ts h; statement = plain_b r p v ts h; base = λ n. plain_b r p v ts h }

  mutual
    unfolding lower walk

    pub tree_bound : (t : Tree) → Whole (lower S t) (walk S t)
    tree_bound (node op p v ts) = whole (rule_at op) p v ts (trees_bound ts)

    pub trees_bound : (ts : Forest) → Zip Whole (lowers S ts) (walks S ts)
    trees_bound nil = znil
    trees_bound (cons t ts) = zcons (tree_bound t) (trees_bound ts)

  final_in : (m c : Counts) (x : Completion) → In m c x → Within m (finish x).log
  unfolding finish
  final_in m c (normal w) q = q.1
  final_in m c _ q = q

  -- THE SECOND HALF: of an accepted tree, every event is within the declared maxima
  pub within : (t : Tree) → (lowered S t).state.refusal ≡ 0 → (outcomes : List Bool) → Within (lowered S t).state.deepest (walked S t outcomes).log
  unfolding walked lowered flush
  within t h outcomes = final_in (lowered S t).state.deepest nothing_open ((walk S t).expr inside (begin outcomes))
      (((tree_bound t).expr inside).safe nothing_open false 0 empty (lowered S t).state.deepest (record { le = omega arith; clean = h }) (omega arith) (begin outcomes) refl tt)
