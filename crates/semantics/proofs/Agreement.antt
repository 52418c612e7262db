use mathlib.Core.Path.{refl}
use mathlib.Core.Bool.{Bool, true, false, cond, ◌&&◌}
use mathlib.Core.List.{List}
use Prim.Native.Nat.{ℕ, zero, suc, pred}
use lib.ListN.{length}
use lib.Dec.{leb}
use Rattle.ast.specs.Tree.{Name, Payload, Tree, node, Forest, nil, cons}
use Rattle.numeric.specs.Post.{Post, is_identity, fold}
use Rattle.program.specs.Instruction as Instr
use Rattle.program.specs.Instruction.{Taking, Plain, hash, resource, this, negate, not, and_last, or_last, pointer_leave, store_var, store_temp, store_member, cmp_const, eq_const, eq_hash, add_acc, add_last, mul, div, cmp, eq, host_math, load_var, load_temp, load_ctx, member, Guard, div_guard, and_step, or_step, pointer_enter, EachNext, each_next_var, each_next_temp, plain, taking}
use Rattle.program.specs.Program.{name_at, StoreRoot, root_var, root_temp, root_other, Program, const_at, post_at, slot_at, member_at}
use Rattle.semantics.proofs.BoundedControl.{Whole}
use Rattle.semantics.proofs.BoundedRules.{tree_bound}
use Rattle.semantics.proofs.Relations.{Zip, znil, zcons, zip_length, either_rel, name_rel, kind_rel, name_one, hash_rel, math_rel, query_rel}
use Rattle.semantics.proofs.SimulatedCalls.{Tree-s}
use Rattle.semantics.proofs.Simulation.{Sim}
use Rattle.semantics.specs.Lowering.{Lowerings, member_read, with_root, member_store, target_refusal, unless, const_operand, equal_const, array_element, lower_plain, lower_rule, lower, lowers}
use Rattle.semantics.specs.Machine.{root_at, plain_action, taking_action, taken, reading_action, guard_action, guard_up, each_action}
use Rattle.semantics.specs.Payloads.{as_hash, float_of, const_of, one, Path, path}
use Rattle.semantics.specs.Pieces.{Lowering, put, failing, ◌⨾◌, with_name, with_temp, with_post, constant, post_instruction}
use Rattle.ast.specs.Header.{Settings}
use Rattle.ast.specs.Rules.{Rule, is_member, rule_at}
use Rattle.ast.specs.Rules as R
use Rattle.semantics.specs.Run.{Action, e_const, e_hash, e_resource, e_this, e_negate, e_not, e_and_last, e_or_last, e_pointer_leave, e_add_last, e_mul, e_div, e_and_step, e_or_step, e_pointer_enter, e_store_var, e_store_temp, e_load_var, e_load_temp, e_load_ctx, e_array_element, e_member, e_cmp, e_eq, e_store_member, e_cmp_const, e_eq_const, e_eq_hash, e_host_math, e_each_next_var, e_each_next_temp, same, Result}
use Rattle.semantics.specs.Walk.{Walking, Scope, in_a_loop, in_a_handler, ◌then◌, pass, logs, takes, pushes, returns, loads, Walkings, shown, root_shown, walk_plain, walk_rule, walk, walks}
use Rattle.semantics.specs.Walk as K
use Rattle.semantics.specs.Lowering as L
use Rattle.semantics.proofs.Simulation as Z
use Rattle.semantics.proofs.SimulatedControl as Y
use Rattle.semantics.proofs.SimulatedCalls as X

-- Each rule: its lowering and its walk agree; so do a whole tree's. Assumes nothing.

module _ (S : Settings) (P : Program) (E : ℕ) (r : Result) where
  -- this program's
  abbrev S' : Scope → Lowering → Walking → Type 0
  S' e f u = Sim P E r e f u

  abbrev T' : Lowerings → Walkings → Type 0
  T' l m = Tree-s P E r l m

  infixr 50 ◌⨟◌
  ◌⨟◌ : {e : Scope} {f g : Lowering} {u v : Walking} → S' e f u → S' e g v → S' e (f ⨾ g) (u then v)
  ◌⨟◌ a b = Z.◌then_s◌ P E r a b

  no_s : {e : Scope} {u : Walking} → S' e (failing 7) u
  no_s = Z.failing_s P E r 6

  with_p : {e : Scope} (p : Post) (g : ℕ → Lowering) (u : Post → Walking) → ((k : ℕ) → S' e (g k) (u (post_at P k))) → S' e (with_post p g) (u (shown p))
  with_p p g u h = Z.with_post_s P E r p g u h

  with_n : {e : Scope} (n : Name) (g : ℕ → Lowering) (u : ℕ → Walking) → ((k : ℕ) → S' e (g k) (u (name_at P k))) → S' e (with_name n g) (u n.hash)
  with_n n g u h = Z.with_name_s P E r n g u h

  with_t : {e : Scope} (n : Name) (g : ℕ → Lowering) (u : ℕ → Walking) → ((k : ℕ) → S' e (g k) (u (name_at P (slot_at P k)))) → S' e (with_temp n g) (u n.hash)
  with_t n g u h = Z.with_temp_s P E r n g u h

  pl : {e : Scope} (i : Plain) → S' e (put (plain i)) (logs (plain_action P i))
  pl i = Z.plain_s P E r i

  -- the first child, or else a constant
  other_s : (k : ℕ) {ls : List Lowerings} {ms : List Walkings} → Zip T' ls ms → (e : Scope) → S' e (one ls (constant k) (λ a. a.expr e.loop)) (one ms (logs (e_const k)) (λ a. a.expr e))
  other_s k znil e = Z.constant_s P E r k
  other_s k (zcons a z) e = a.expr e

  -- rules over lists of children
  statements_s : (o : ℕ) {ls : List Lowerings} {ms : List Walkings} → Zip T' ls ms → (e : Scope) → S' e (L.statements o ls e.loop) (K.statements o ms e)
  unfolding L.statements K.statements
  statements_s o znil e = Z.constant_s P E r o
  statements_s o (zcons a h) e = a.statement e ⨟ statements_s o h e

  junction_s : (j : Bool) (q : ℕ) {l : Lowerings} {m : Walkings} → T' l m → {ls : List Lowerings} {ms : List Walkings} → Zip T' ls ms → (e : Scope)
      → S' e (L.logic (cond j (and_step q) (or_step q)) (cond j (and_last q) (or_last q)) l ls e.loop) (K.logic (cond j (e_and_step (post_at P q)) (e_or_step (post_at P q))) (cond j (e_and_last (post_at P q)) (e_or_last (post_at P q))) m ms e)
  unfolding L.logic K.logic plain_action guard_action guard_up
  junction_s true q a znil e = a.expr e ⨟ pl (Plain.and_last q)
  junction_s true q a (zcons b h) e = a.expr e ⨟ Y.guarded_s P E r (Guard.and_step q) (junction_s true q b h e)
  junction_s false q a znil e = a.expr e ⨟ pl (Plain.or_last q)
  junction_s false q a (zcons b h) e = a.expr e ⨟ Y.guarded_s P E r (Guard.or_step q) (junction_s false q b h e)

  addition_s : (p : Post) {l : Lowerings} {m : Walkings} → T' l m → {ls : List Lowerings} {ms : List Walkings} → Zip T' ls ms → (e : Scope) → S' e (L.terms p l ls e.loop) (K.terms (shown p) m ms e)
  unfolding L.terms K.terms plain_action taking_action taken
  addition_s p a znil e = a.expr e ⨟ with_p p _ (λ q. takes 1 (e_add_last q)) (λ k. Z.taking_s P E r (add_last k))
  addition_s p a (zcons b h) e = a.expr e ⨟ pl add_acc ⨟ addition_s p b h e

  hosted_s : (f n : ℕ) (p : Post) {l : Lowerings} {m : Walkings} → T' l m → {ls : List Lowerings} {ms : List Walkings} → Zip T' ls ms → (e : Scope)
      → S' e (L.host_math f n p l ls e.loop) (K.host_math (pred n) (e_host_math f n (shown p)) m ms e)
  unfolding L.host_math K.host_math taking_action taken
  hosted_s f n p a znil e = a.expr e ⨟ with_p p _ (λ q. takes (pred n) (e_host_math f n q)) (λ k. Z.taking_s P E r (host_math f n k))
  hosted_s f n p a (zcons b h) e = Z.pushed_s P E r (a.expr e) (hosted_s f n p b h e)

  -- stores, loads, and the variable of a ForEach
  root_s : {e : Scope} (v : Payload) (g : StoreRoot → Lowering) (u : StoreRoot → Walking) → ((x : StoreRoot) → S' e (g x) (u (root_at P x))) → S' e (with_root v g) (u (root_shown v))
  unfolding with_root root_shown root_at
  root_s {e} v g u h = kind_rel (λ f x. S' e f (u x)) v (h root_other) (λ n. with_t n _ (λ x. u (root_temp x)) (λ t. h (root_temp t))) (λ n. with_n n _ (λ x. u (root_var x)) (λ k. h (root_var k)))

  member_store_s : {e : Scope} (x : Bool) (m : Path) (k : ℕ) → S' e (cond x (member_store m k) (failing 7)) (logs (e_store_member (root_shown m.root) m.hashes (post_at P k)))
  unfolding member_store plain_action
  member_store_s true m k = Z.flagged_s P E r _ (root_s m.root _ (λ x. logs (e_store_member x m.hashes (post_at P k))) (λ x. Z.with_store_s P E r _ _ (λ t. logs (e_store_member (root_at P t.root) t.path (post_at P k))) (λ i. pl (store_member i k))))
  member_store_s false m k = no_s

  stores_s : {e : Scope} (x : Rule) (v : Payload) (m : Path) (p : Post) → S' e (L.stores x v m p) (K.stores v m (shown p))
  unfolding L.stores K.stores plain_action
  stores_s {e} x v m p = with_p p _ (K.stores v m) λ k. kind_rel (S' e) v (member_store_s (is_member x && m.fine) m k) (λ n. with_t n _ (λ t. logs (e_store_temp t (post_at P k))) (λ t. pl (store_temp t k))) (λ n. with_n n _ (λ t. logs (e_store_var t (post_at P k))) (λ i. pl (store_var i k)))

  unless_s : {e : Scope} (x : ℕ) {f : Lowering} {u : Walking} → S' e f u → S' e (unless x f) u
  unfolding unless
  unless_s zero h = h
  unless_s (suc x) h = Z.failing_s P E r x

  target_s : {e : Scope} (ts : Forest) {f : Lowering} {u : Walking} → S' e f u → (p : Post) → S' e (L.target ts f p) (u then K.target ts (shown p))
  unfolding L.target K.target
  target_s nil h p = no_s
  target_s (cons (node x o v us) ts) h p = unless_s (target_refusal (rule_at x) v) (Z.flagged_s P E r _ (h ⨟ stores_s (rule_at x) v (path (node x o v us)) p))

  variable_s : {e : Scope} (ts : Forest) (g : EachNext → Lowering) (u : Action → Walking) → ((i : EachNext) → S' e (g i) (u (each_action P i))) → S' e (L.variable ts g) (K.variable ts u)
  unfolding L.variable K.variable L.each_of K.each_of each_action
  variable_s nil g u h = no_s
  variable_s {e} (cons (node x o v us) ts) g u h = kind_rel (S' e) v no_s (λ n. with_t n _ (λ t. u (e_each_next_temp t)) (λ t. h (each_next_temp t))) (λ n. with_n n _ (λ t. u (e_each_next_var t)) (λ k. h (each_next_var k)))

  loaded_s : (v : Payload) (p : Post) (e : Scope) → S' e (L.loaded v p) (K.loaded v (shown p) e)
  unfolding L.loaded K.loaded reading_action
  loaded_s v p e = with_p p _ (λ q. K.loaded v q e) λ k. kind_rel (S' e) v (name_rel (S' e) 3 v no_s (λ n. Z.flagged_s P E r _ (with_n n _ (λ t. loads e (e_load_ctx t (post_at P k))) (λ i. Y.may_s P E r (load_ctx i k)))))
      (λ n. with_t n _ (λ t. loads e (e_load_temp t (post_at P k))) (λ i. Y.may_s P E r (load_temp i k))) (λ n. Z.flagged_s P E r _ (with_n n _ (λ t. loads e (e_load_var t (post_at P k))) (λ i. Y.may_s P E r (load_var i k))))

  post_s : {e : Scope} (p : Post) → S' e (post_instruction p) (K.posted p)
  post_s p = Z.post_instr_s P E r (is_identity p) p refl

  unary_s : {e : Scope} (u : Bool) (p : Post) → S' e (with_post p (λ q. put (plain (cond u (negate q) (not q))))) (logs (cond u (e_negate (shown p)) (e_not (shown p))))
  unfolding plain_action
  unary_s true p = with_p p _ (λ q. logs (Action.e_negate q)) (λ k. pl (Plain.negate k))
  unary_s false p = with_p p _ (λ q. logs (Action.e_not q)) (λ k. pl (Plain.not k))

  -- a child and the form with a constant, or two children
  paired_s : {e : Scope} (f : ℕ → Lowering) (i : ℕ → Taking) (x y : Post → Action) → ((k : ℕ) → S' e (f k) (logs (x (post_at P k))))
      → ((k : ℕ) → S' e (put (taking (i k))) (takes 1 (y (post_at P k)))) → (p : Post) {ls : List Lowerings} {ms : List Walkings} → Zip T' ls ms
      → S' e (L.paired f i p ls e.loop) (K.paired (x (shown p)) (y (shown p)) ms e)
  unfolding L.paired K.paired K.bounds
  paired_s f i x y hx hy p znil = no_s
  paired_s {e} f i x y hx hy p (zcons {b = m} a znil) = with_p p _ (λ q. m.expr e then logs (x q)) λ k. a.expr e ⨟ hx k
  paired_s {e} f i x y hx hy p (zcons {b = m} a (zcons {b = n} b z)) =
      with_p p _ (λ q. m.expr e then pushes then n.expr e then takes 1 (y q)) λ k. Z.pushed_s P E r (a.expr e) (b.expr e ⨟ hy k)

  const_operand_s : {e : Scope} (i : ℕ → ℕ → Plain) (x : ℕ → Action) (v : Payload) (q : ℕ) → ((k : ℕ) → S' e (put (plain (i k q))) (logs (x (const_at P k))))
      → S' e (const_operand i v q) (logs (x (const_of v)))
  unfolding const_operand
  const_operand_s i x v q h = Z.with_const_s P E r _ _ (λ t. logs (x t)) h

  abbrev equal_shown : ℕ → Payload → Post → Action
  equal_shown o v q = as_hash v (e_eq_const o (float_of v) q) (λ x. e_eq_hash o x q)

  equal_const_s : {e : Scope} (o : ℕ) (v : Payload) (q : ℕ) → S' e (equal_const o v q) (logs (equal_shown o v (post_at P q)))
  unfolding equal_const plain_action
  equal_const_s {e} o v q = hash_rel (λ f x. S' e f (logs x)) v
      (Z.with_const_s P E r _ _ (λ t. logs (e_eq_const o t (post_at P q))) (λ k. pl (eq_const o k q)))
      (λ x. Z.flagged_s P E r _ (Z.with_hash_s P E r x _ (λ t. logs (e_eq_hash o t (post_at P q))) (λ k. pl (eq_hash o k q))))

  -- two children, and what takes n operands
  bounds_s : {e : Scope} (i : ℕ → Taking) (n : ℕ) (x : Post → Action) → ((k : ℕ) → S' e (put (taking (i k))) (takes n (x (post_at P k))))
      → (p : Post) {a b : Lowerings} {m w : Walkings} → T' a m → T' b w → S' e (L.bounds i p a b e.loop) (K.bounds n (x (shown p)) m w e)
  unfolding L.bounds K.bounds
  bounds_s {e} i n x h p a b = Z.pushed_s P E r (a.expr e) (b.expr e ⨟ with_p p _ (λ q. takes n (x q)) h)

  array_s : (x : Bool) (p : Post) (v : Payload) (ts : Forest) {ls : List Lowerings} {ms : List Walkings} → Zip T' ls ms → (e : Scope) → S' e (cond x (array_element p v ls e.loop) (failing 5)) (walk_plain S R.array p v ts ms e)
  unfolding array_element walk_plain reading_action
  array_s true p v ts (zcons a znil) e = name_rel (S' e) 7 v no_s (λ n. Z.flagged_s P E r _ (a.expr e ⨟ with_n n _ (λ t. loads e (e_array_element t (shown p))) (λ k. with_p p _ (λ q. loads e (e_array_element (name_at P k) q)) (λ q. Y.may_s P E r (Instr.array_element k q)))))
  array_s true p v ts h e = no_s
  array_s false p v ts h e = Z.failing_s P E r 4

  plain_s : (x : R.Plain) (p : Post) (v : Payload) (ts : Forest) {ls : List Lowerings} {ms : List Walkings} → Zip T' ls ms → (e : Scope) → S' e (lower_plain S x p v ts ls e.loop) (walk_plain S x p v ts ms e)
  unfolding lower_plain walk_plain plain_action taking_action taken guard_action guard_up
  plain_s R.array p v ts h e = array_s S.from_host p v ts h e
  plain_s R.uses_arrays p v ts h e = Z.failing_s P E r 4
  plain_s R.uses_resources p v ts h e = Z.failing_s P E r 5
  plain_s R.float p v ts h e = Z.constant_s P E r _
  plain_s R.string p v ts h e = Z.flagged_s P E r _ (Z.with_hash_s P E r _ _ (λ t. logs (e_hash t)) (λ k. pl (hash k)))
  plain_s R.resource p v ts h e = Z.flagged_s P E r _ (Z.with_hash_s P E r _ _ (λ t. logs (e_resource t)) (λ k. pl (resource k)))
  plain_s R.this p v ts h e = with_p p _ (λ q. logs (e_this q)) (λ k. pl (this k))
  plain_s R.load p v ts h e = loaded_s v p e
  plain_s R.query p v ts h e = query_rel (S' e) v no_s (λ i m. Z.flagged_s P E r _ (X.query_s P E r i m p h))
  plain_s (R.compare o) p v ts h e = paired_s _ (cmp o) (e_cmp_const o (const_of v)) (e_cmp o)
      (λ q. const_operand_s (cmp_const o) (λ t. e_cmp_const o t (post_at P q)) v q (λ k. pl (cmp_const o k q))) (λ k. Z.taking_s P E r (cmp o k)) p h
  plain_s (R.equal o) p v ts h e = paired_s _ (eq o) (equal_shown o v) (e_eq o) (equal_const_s o v) (λ k. Z.taking_s P E r (eq o k)) p h
  plain_s (R.logic j) p v ts (zcons {b = m} {qs = ms} a z) e = with_p p _ (λ q. K.logic (cond j (e_and_step q) (e_or_step q)) (cond j (e_and_last q) (e_or_last q)) m ms e) (λ q. junction_s j q a z e)
  plain_s R.coalesce p v ts (zcons a (zcons b z)) e = Y.coalesce_s P E r (a.expr (in_a_handler e)) (b.expr e) ⨟ post_s p
  plain_s R.conditional p v ts (zcons a (zcons b z)) e = a.expr e ⨟ Y.branch_s P E r (b.expr e) (other_s 0 z e) ⨟ post_s p
  plain_s R.statements p v ts h e = statements_s _ h e
  plain_s R.loop p v ts (zcons a (zcons b z)) e = Z.flagged_s P E r _ (a.expr e ⨟ Y.looped_s P E r (b.less (in_a_loop e)) (b.expr (in_a_loop e)) ⨟ Z.constant_s P E r _)
  plain_s R.loop p v ts h e = Z.flagged_s P E r _ no_s
  plain_s R.for_each p v ts (zcons a (zcons {b = m} b (zcons {b = n} c z))) e = Z.flagged_s P E r _ (variable_s ts _ (λ x. m.expr e then K.eached x (n.expr (in_a_loop e)) then logs (e_const (fold p 0)))
      (λ i. b.expr e ⨟ Y.eached_s P E r i (c.less (in_a_loop e)) (c.expr (in_a_loop e)) ⨟ Z.constant_s P E r _))
  plain_s R.for_each p v ts h e = Z.flagged_s P E r _ no_s
  plain_s R.break p v ts h e = Y.break_s P E r e e.loop refl
  plain_s R.continue p v ts h e = Y.continue_s P E r e e.loop refl
  plain_s R.assign p v ts (zcons a z) e = target_s ts (other_s _ z e) p
  plain_s R.bracket p v ts (zcons a z) e = a.expr e
  plain_s (R.unary u) p v ts (zcons a z) e = a.expr e ⨟ unary_s u p
  plain_s R.add p v ts (zcons a znil) e = a.expr e ⨟ post_s p
  plain_s R.add p v ts (zcons a (zcons b z)) e = Z.pushed_s P E r (a.expr e) (addition_s p b z e)
  plain_s R.mul p v ts (zcons a (zcons b z)) e = bounds_s mul 1 e_mul (λ k. Z.taking_s P E r (mul k)) p a b
  plain_s R.div p v ts (zcons a (zcons b z)) e = b.expr e ⨟ Y.guarded_s P E r (div_guard S.absolute) (a.expr e ⨟ with_p p _ (λ q. takes 1 (e_div q)) (λ q. Z.taking_s P E r (div q)))
  plain_s (R.host_math u) p v ts znil e = Z.flagged_s P E r _ (math_rel (S' e) v no_s (λ f. no_s))
  plain_s (R.host_math u) p v ts (zcons {qs = ms} a z) e = Z.flagged_s P E r _ (math_rel (S' e) v no_s (λ f. rw (zip_length z) (either_rel (S' e) (leb (suc (length ms)) 255) (hosted_s f (suc (length ms)) p a z e) no_s)))
  plain_s R.generic p v ts h e = Z.constant_s P E r _
  plain_s _ p v ts h e = no_s

  chained_s : (p : Post) (v : Payload) {ls : List Lowerings} {ms : List Walkings} → Zip T' ls ms → (n : Name) (e : Scope) → S' e (L.chained p v ls n e.loop) (K.member_read S p v ms e)
  unfolding L.chained K.member_read reading_action
  chained_s p v znil n e = no_s
  chained_s p v (zcons a z) n e = a.base n e ⨟ name_rel (S' e) 6 v no_s (λ k. Z.with_member_s P E r _ _ (λ t. loads e (e_member t (shown p))) (λ i. with_p p _ (λ q. loads e (e_member (member_at P i) q)) (λ q. Y.may_s P E r (member i q))))

  member_read_s : (p : Post) (v : Payload) {ls : List Lowerings} {ms : List Walkings} → Zip T' ls ms → (e : Scope) → S' e (member_read p v ls e.loop) (K.member_read S p v ms e)
  unfolding member_read
  member_read_s p v {ms = ms} h e = Z.flagged_s P E r _ (name_one (λ f. S' e f (K.member_read S p v ms e)) 6 v no_s (λ j n i. chained_s p v h n e))

  pointer_s : (p : Post) {ls : List Lowerings} {ms : List Walkings} → Zip T' ls ms → (e : Scope) → S' e (L.pointer p ls e.loop) (K.pointer S p ms e)
  unfolding L.pointer K.pointer plain_action guard_action guard_up
  pointer_s p (zcons {b = m} a (zcons {b = n} b z)) e = Z.flagged_s P E r _ (with_p p _ (λ q. m.expr e then K.guarded (e_pointer_enter q) same (n.expr e then logs (e_pointer_leave q))) λ q. a.expr e ⨟ Y.guarded_s P E r (pointer_enter q) (b.expr e ⨟ pl (pointer_leave q)))
  pointer_s p h e = Z.flagged_s P E r _ no_s

  return_s : (p : Post) {ls : List Lowerings} {ms : List Walkings} → Zip T' ls ms → (e : Scope) → S' e (L.returning p ls e.loop) (K.returning S p ms e)
  unfolding L.returning K.returning
  return_s p h e = other_s 0 h e ⨟ with_p p _ returns (λ q. Y.ret_s P E r q)

  module _ {ls : List Lowerings} {ms : List Walkings} (h : Zip T' ls ms) (p : Post) (v : Payload) (ts : Forest) where
    whole_s : (x : Rule) → Whole (lower_rule S x p v ts ls) (walk_rule S x p v ts ms) → T' (lower_rule S x p v ts ls) (walk_rule S x p v ts ms)
    unfolding lower_rule walk_rule
    whole_s R.return b = record { expr = λ e. Z.constant_s P E r _; base = λ n e. Z.constant_s P E r _; statement = return_s p h; less = λ e. (b.expr e).less }
    whole_s R.member b = record { expr = member_read_s p v h; statement = member_read_s p v h; base = chained_s p v h; less = λ e. (b.expr e).less }
    whole_s R.entity b = record { expr = loaded_s v p; statement = loaded_s v p; base = λ n. loaded_s v p; less = λ e. (b.expr e).less }
    whole_s R.pointer b = record { expr = pointer_s p h; statement = pointer_s p h; base = λ n. pointer_s p h; less = λ e. (b.expr e).less }
    whole_s (R.plain x) b = record { expr = plain_s x p v ts h; statement = plain_s x p v ts h; base = λ n. plain_s x p v ts h; less = λ e. (b.expr e).less }

  mutual
    unfolding lower walk

    pub tree_s : (t : Tree) → T' (lower S t) (walk S t)
    tree_s (node x p v ts) = whole_s (trees_s ts) p v ts (rule_at x) (tree_bound S (node x p v ts))

    pub trees_s : (ts : Forest) → Zip T' (lowers S ts) (walks S ts)
    trees_s nil = znil
    trees_s (cons t ts) = zcons (tree_s t) (trees_s ts)
