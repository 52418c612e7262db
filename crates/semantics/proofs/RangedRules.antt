use Rattle.ast.specs.Rules.{Rule, is_member, rules, rule_of, rule_at}
use Rattle.ast.specs.Rules as R
use borrow.Author.Tests.{leb-true}
use Rattle.numeric.proofs.PostFits.{fold_fits_four}
use mathlib.Core.Path.{◌≡◌, refl}
use mathlib.Core.Bool.{Bool, true, false, cond, ◌&&◌}
use mathlib.Core.List.{List, [], ◌∷◌}
use Prim.Native.Nat.{ℕ, zero, suc, ◌≤◌, ◌<◌, ◌+◌}
use native.Mathlib.Omega.{arith}
use lib.ListN.{length, get_or}
use lib.Dec.{leb}
use Rattle.ast.specs.Tree.{Name, Payload, Tree, node, Forest, nil, cons}
use Rattle.numeric.proofs.PostFits.{fold_fits_four}
use Rattle.numeric.specs.Post.{Post, is_identity}
use Rattle.program.specs.Fits.{Below, Every, FitPost, root_index}
use Rattle.program.specs.Image.{bit, word_of}
use Rattle.program.specs.Instruction as Instr
use Rattle.program.specs.Instruction.{Plain, Taking, post, hash, resource, this, negate, not, and_last, or_last, pointer_leave, store_var, store_temp, store_member, cmp_const, eq_const, eq_hash, add_acc, add_last, mul, div, cmp, eq, load_var, load_temp, load_ctx, member, div_guard, and_step, or_step, pointer_enter, jump_if_falsy, EachNext, each_next_var, each_next_temp, plain, taking, reading, guard, jump, handler_push, handler_pop, return, each_next}
use Rattle.program.specs.Kinds.{USES_RANDOM, USES_RANDOM_OP}
use Rattle.program.specs.Program.{StoreRoot, root_var, root_temp, root_other}
use Rattle.semantics.proofs.FitTrees.{PayloadFits, float_fits, const_fits, string_fits, resource_fits, TreeFits, ForestFits, name_r, hash_r, math_r, asked_r, kind_r}
use Rattle.semantics.proofs.RangedCalls.{Ranges, query_r}
use Rattle.semantics.proofs.RangedJumps.{fits_jump, guarded_r, fork_r, looped_r, eached_r}
use Rattle.semantics.proofs.RangedPools.{free, with_temp_r, with_store_r, constant_r, with_const_r, with_hash_r, with_name_r, with_member_r, post_r}
use Rattle.semantics.proofs.Relations.{either_one}
use Rattle.semantics.proofs.Ranges.{Fits, Aims, FitText, Under, Ranged, shift, Up, sets_fit, not_fit, queried_fit, every_append, ◌then_r◌, pushed_r, nothing_r, failing_r, put_r, jumps_r, flagged_r}
use Rattle.semantics.specs.Link.{relocate, settle}
use Rattle.semantics.specs.Lowering.{statements, paired, bounds, logic, terms, host_math, stores, target, each_of, variable, loaded, chained, pointer, returning, Lowerings, member_read, with_root, member_store, target_refusal, unless, const_operand, equal_const, is_empty, array_element, lower_plain, lower_rule, lower, lowers}
use Rattle.semantics.specs.Payloads.{link, const_of, one, Path, path, paths}
use Rattle.semantics.specs.Pieces.{Lowering, put, nothing, failing, with_post, constant}
use Rattle.ast.specs.Header.{Settings}
use Rattle.semantics.specs.Run.{operand+, handler+, same}
use Rattle.semantics.specs.State.{instr, to_cleanup, to_check}

-- Each rule's lowering fits; so does a whole tree's, if its own fields fit. Assumes nothing.

-- pieces that end in one instruction
post_instruction_r : {is : List ℕ} (x : Bool) (p : Post) → FitPost p → Ranged is (cond x nothing (with_post p (λ q. put (plain (post q)))))
unfolding settle relocate word_of
post_instruction_r {is} x p fp = either_one (Ranged is) x nothing_r (post_r p fp _ (λ q. put_r (plain (post q)) (λ u b h. omega (arith, u.0))))

loaded_r : (v : Payload) → PayloadFits v → (p : Post) → FitPost p → Ranged [] (loaded v p)
unfolding loaded settle relocate word_of
loaded_r v fv p fp = post_r p fp _ λ q. kind_r (Ranged (q ∷ [])) v fv (name_r (Ranged (q ∷ [])) 3 v fv (failing_r 7)
    (λ n fn. flagged_r _ (sets_fit 8 (omega arith)) (with_name_r n fn _ (λ k. put_r (reading (load_ctx k q)) (λ u b h. omega (arith, u.0, u.1.0))))))
    (λ n fn. with_temp_r n fn _ (λ k. put_r (reading (load_temp k q)) (λ u b h. omega (arith, u.0, u.1.0))))
    (λ n fn. flagged_r _ (sets_fit 2 (omega arith)) (with_name_r n fn _ (λ k. put_r (reading (load_var k q)) (λ u b h. omega (arith, u.0, u.1.0)))))

equal_const_r : (o : ℕ) → Below 1 o → (v : Payload) → PayloadFits v → (q : ℕ) → Ranged (q ∷ []) (equal_const o v q)
unfolding equal_const settle relocate word_of
equal_const_r o fo v fv q = hash_r (Ranged (q ∷ [])) v fv
    (with_const_r _ (float_fits v fv) _ (λ k. put_r (plain (eq_const o k q)) (λ u b h. omega (arith, u.0, u.1.0))))
    (λ n fn. flagged_r _ not_fit (with_hash_r n fn _ (λ k. put_r (plain (eq_hash o k q)) (λ u b h. omega (arith, u.0, u.1.0)))))

-- what is stored to
pub record PathFits (m : Path) : Type 0 where
  pub root : PayloadFits m.root
  pub hashes : Every (Below 8) m.hashes

link_fits : (r : Rule) (v : Payload) → PayloadFits v → (m : Path) → PathFits m → PathFits (link r v m)
unfolding link
link_fits R.member v fv m h = name_r PathFits 6 v fv (record { root = tt; hashes = tt }) (λ n fn. record { root = h.root; hashes = every_append (Below 8) m.hashes (n.hash ∷ []) h.hashes (fn.hash, tt) })
link_fits _ v fv m h = record { root = fv; hashes = tt }

mutual
  unfolding path TreeFits

  path_fits : (t : Tree) → TreeFits t → PathFits (path t)
  path_fits (node op p v ts) h = link_fits (rule_at op) v h.1 (paths ts) (paths_fit ts h.2)

  paths_fit : (ts : Forest) → ForestFits ts → PathFits (paths ts)
  paths_fit nil h = record { root = tt; hashes = tt }
  paths_fit (cons t ts) h = path_fits t h.0

root_r : (is : List ℕ) (v : Payload) → PayloadFits v → (g : StoreRoot → Lowering) → ((js : List ℕ) (r : StoreRoot) → (Under js → Below 2 (root_index r)) → (Under js → Under is) → Ranged js (g r)) → Ranged is (with_root v g)
unfolding with_root root_index
root_r is v fv g h = kind_r (Ranged is) v fv (h is root_other (λ u. omega arith) (λ u. u))
    (λ n fn. with_temp_r n fn _ (λ t. h (t ∷ is) (root_temp t) (λ u. omega (arith, u.0)) (λ u. u.1)))
    (λ n fn. with_name_r n fn _ (λ t. h (t ∷ is) (root_var t) (λ u. omega (arith, u.0)) (λ u. u.1)))

member_store_r : (x : Bool) (m : Path) → PathFits m → (q : ℕ) → Ranged (q ∷ []) (cond x (member_store m q) (failing 7))
unfolding member_store settle relocate word_of
member_store_r true m fm q = flagged_r _ (λ f g. sets_fit 16 (omega arith) _ (not_fit f g)) (root_r (q ∷ []) m.root fm.root _ (λ js r fr e. with_store_r _ fr fm.hashes _ (λ i. put_r (plain (store_member i q)) (λ u b h. let k = e u.1 in omega (arith, u.0, k.0)))))
member_store_r false m fm q = failing_r 7

stores_r : (r : Rule) (v : Payload) → PayloadFits v → (m : Path) → PathFits m → (p : Post) → FitPost p → Ranged [] (stores r v m p)
unfolding stores settle relocate word_of
stores_r r v fv m fm p fp = post_r p fp _ λ q. kind_r (Ranged (q ∷ [])) v fv (member_store_r (is_member r && m.fine) m fm q)
    (λ n fn. with_temp_r n fn _ (λ t. put_r (plain (store_temp t q)) (λ u b h. omega (arith, u.0, u.1.0))))
    (λ n fn. with_name_r n fn _ (λ t. put_r (plain (store_var t q)) (λ u b h. omega (arith, u.0, u.1.0))))

unless_r : {is : List ℕ} (r : ℕ) {f : Lowering} → Ranged is f → Ranged is (unless r f)
unfolding unless
unless_r zero h = h
unless_r (suc r) h = failing_r (suc r)

target_r : (ts : Forest) → ForestFits ts → {f : Lowering} → Ranged [] f → (p : Post) → FitPost p → Ranged [] (target ts f p)
unfolding target TreeFits path
target_r nil ft h p fp = failing_r 7
target_r (cons (node op o v us) ts) ft h p fp = unless_r (target_refusal (rule_at op) v) (flagged_r _ (sets_fit 32 (omega arith)) (h then_r stores_r (rule_at op) v ft.0.1 (path (node op o v us)) (path_fits (node op o v us) ft.0) p fp))

variable_r : (ts : Forest) → ForestFits ts → (g : EachNext → Lowering) → ((js : List ℕ) (i : EachNext) → (Under js → Aims (each_next i)) → Ranged js (g i)) → Ranged [] (variable ts g)
unfolding variable each_of TreeFits settle relocate word_of
variable_r nil ft g h = failing_r 7
variable_r (cons (node op o v us) ts) ft g h = kind_r (Ranged []) v ft.0.1 (failing_r 7)
    (λ n fn. with_temp_r n fn _ (λ t. h (t ∷ []) (each_next_temp t) (λ u x k b j. let e = shift b x in omega (arith, u.0))))
    (λ n fn. with_name_r n fn _ (λ t. h (t ∷ []) (each_next_var t) (λ u x k b j. let e = shift b x in omega (arith, u.0))))

-- the first child, or else a constant
other_r : (xs : List Lowerings) → Every Ranges xs → (k : ℕ) → Below 4 k → (l : Bool) → Ranged [] (one xs (constant k) (λ a. a.expr l))
other_r [] z k fk l = constant_r k fk
other_r (a ∷ xs) z k fk l = z.0.expr l

-- rules over lists of children
statements_r : (o : ℕ) → Below 4 o → (xs : List Lowerings) → Every Ranges xs → (l : Bool) → Ranged [] (statements o xs l)
unfolding statements
statements_r o fo [] z l = constant_r o fo
statements_r o fo (a ∷ xs) z l = z.0.statement l then_r statements_r o fo xs z.1 l

up_same : Up same
up_same = record { by = λ c. omega arith }

-- an instruction that takes operands, whose post fits
abbrev FitsTaking : (ℕ → Taking) → Type 0
FitsTaking i = (q : ℕ) → Under (q ∷ []) → Fits (instr (taking (i q)))

-- a child and the form with a constant, or two children
paired_r : (f : ℕ → Lowering) (i : ℕ → Taking) → ((q : ℕ) → Ranged (q ∷ []) (f q)) → FitsTaking i → (p : Post) → FitPost p
    → (xs : List Lowerings) → Every Ranges xs → (l : Bool) → Ranged [] (paired f i p xs l)
unfolding paired
paired_r f i hf hi p fp [] z l = failing_r 7
paired_r f i hf hi p fp (a ∷ []) z l = post_r p fp _ λ q. free (z.0.expr l) then_r hf q
paired_r f i hf hi p fp (a ∷ b ∷ xs) z l = post_r p fp _ λ q. pushed_r (free (z.0.expr l)) (free (z.1.0.expr l) then_r put_r (taking (i q)) (hi q))

const_operand_r : (i : ℕ → ℕ → Plain) → ((k q : ℕ) → Under (k ∷ q ∷ []) → Fits (instr (plain (i k q)))) → (v : Payload) → PayloadFits v
    → (q : ℕ) → Ranged (q ∷ []) (const_operand i v q)
unfolding const_operand
const_operand_r i h v fv q = with_const_r _ (const_fits v fv) _ (λ k. put_r (plain (i k q)) (h k q))

-- two children
bounds_r : (i : ℕ → Taking) → FitsTaking i → (p : Post) → FitPost p → (a b : Lowerings) → Ranges a → Ranges b → (l : Bool) → Ranged [] (bounds i p a b l)
unfolding bounds
bounds_r i h p fp a b fa fb l = pushed_r (fa.expr l) (fb.expr l then_r post_r p fp _ (λ q. put_r (taking (i q)) (h q)))

junction_r : (j : Bool) (q : ℕ) (a : Lowerings) → Ranges a → (xs : List Lowerings) → Every Ranges xs → (l : Bool) → Ranged (q ∷ []) (logic (cond j (and_step q) (or_step q)) (cond j (and_last q) (or_last q)) a xs l)
unfolding logic settle relocate word_of
junction_r j q a fa [] z l = free (fa.expr l) then_r put_r (plain (cond j (and_last q) (or_last q))) (λ u. either_one (λ i. Fits (instr (plain i))) j (λ b h. omega (arith, u.0)) (λ b h. omega (arith, u.0)))
junction_r j q a fa (b ∷ xs) z l = free (fa.expr l) then_r guarded_r (cond j (and_step q) (or_step q)) same up_same (λ u. either_one (λ g. Aims (guard g)) j (λ t h b i. let e = shift b t in omega (arith, u.0)) (λ t h b i. let e = shift b t in omega (arith, u.0))) (junction_r j q b z.0 xs z.1 l)

addition_r : (p : Post) → FitPost p → (a : Lowerings) → Ranges a → (xs : List Lowerings) → Every Ranges xs → (l : Bool) → Ranged [] (terms p a xs l)
unfolding terms settle relocate word_of
addition_r p fp a fa [] z l = fa.expr l then_r post_r p fp _ (λ q. put_r (taking (add_last q)) (λ u b h. omega (arith, u.0)))
addition_r p fp a fa (b ∷ xs) z l = fa.expr l then_r put_r (plain add_acc) (λ u b h. omega arith) then_r addition_r p fp b z.0 xs z.1 l

hosted_r : (f k : ℕ) → Below 2 f → Below 1 k → (p : Post) → FitPost p → (a : Lowerings) → Ranges a → (xs : List Lowerings) → Every Ranges xs → (l : Bool) → Ranged [] (host_math f k p a xs l)
unfolding host_math settle relocate word_of
hosted_r f k ff fk p fp a fa [] z l = fa.expr l then_r post_r p fp _ (λ q. put_r (taking (Instr.host_math f k q)) (λ u b h. omega (arith, u.0)))
hosted_r f k ff fk p fp a fa (b ∷ xs) z l = pushed_r (fa.expr l) (hosted_r f k ff fk p fp b z.0 xs z.1 l)

few_r : (f n : ℕ) → Below 2 f → (p : Post) → FitPost p → (a : Lowerings) → Ranges a → (xs : List Lowerings) → Every Ranges xs → (l : Bool) → (x : Bool) → leb n 255 ≡ x → Ranged [] (cond x (host_math f n p a xs l) (failing 7))
few_r f n ff p fp a fa xs z l true e = hosted_r f n ff (let h : n ≤ 255 = leb-true n 255 e in omega arith) p fp a fa xs z l
few_r f n ff p fp a fa xs z l false e = failing_r 7

array_r : (x : Bool) (p : Post) → FitPost p → (v : Payload) → PayloadFits v → (xs : List Lowerings) → Every Ranges xs → (l : Bool) → Ranged [] (cond x (array_element p v xs l) (failing 5))
unfolding array_element settle relocate word_of
array_r true p fp v fv (a ∷ []) z l = name_r (Ranged []) 7 v fv (failing_r 7) (λ n fn. flagged_r _ not_fit (z.0.expr l then_r with_name_r n fn _ (λ k. post_r p fp _ (λ q. put_r (reading (Instr.array_element k q)) (λ u b h. omega (arith, u.0, u.1.0))))))
array_r true p fp v fv xs z l = failing_r 7
array_r false p fp v fv xs z l = failing_r 5

aims_div_guard : (d : Bool) → Aims (guard (div_guard d))
unfolding settle relocate word_of bit
aims_div_guard true t h b i = let e = shift b t in omega arith
aims_div_guard false t h b i = let e = shift b t in omega arith

-- the subs that the table of rules gives, tested once over the whole table
unfoldable small_plain : R.Plain → Bool
small_plain (R.compare o) = leb o 3
small_plain (R.equal o) = leb o 1
small_plain _ = true

unfoldable small_rule : Rule → Bool
small_rule (R.plain r) = small_plain r
small_rule _ = true

abbrev all_small : List Rule → Bool
all_small [] = true
all_small (r ∷ rs) = small_rule r && all_small rs

and_both : (a b : Bool) → (a && b) ≡ true → (a ≡ true) × (b ≡ true)
and_both true b h = (refl, h)
and_both false b h = (h, cc)

small_at : (rs : List Rule) (n : ℕ) → all_small rs ≡ true → small_rule (get_or rs n (R.plain R.refused)) ≡ true
unfolding small_rule small_plain
small_at [] n h = refl
small_at (r ∷ rs) zero h = (and_both (small_rule r) (all_small rs) h).0
small_at (r ∷ rs) (suc n) h = small_at rs n (and_both (small_rule r) (all_small rs) h).1

rules_small : all_small rules ≡ true
unfolding rules small_rule small_plain
rules_small = refl

table_small : (op : ℕ) → small_rule (rule_at op) ≡ true
unfolding rule_at
table_small op = small_at rules (rule_of op) rules_small

module _ (S : Settings) where
  plain_r : (r : R.Plain) → small_plain r ≡ true → (p : Post) → FitPost p → (v : Payload) → PayloadFits v → (ts : Forest) → ForestFits ts → (xs : List Lowerings) → Every Ranges xs → (l : Bool) → Ranged [] (lower_plain S r p v ts xs l)
  unfolding lower_plain small_plain settle relocate word_of
  plain_r R.array e p fp v fv ts ft xs z l = array_r S.from_host p fp v fv xs z l
  plain_r R.uses_arrays e p fp v fv ts ft xs z l = failing_r 5
  plain_r R.uses_resources e p fp v fv ts ft xs z l = failing_r 6
  plain_r R.float e p fp v fv ts ft xs z l = constant_r _ (float_fits v fv)
  plain_r R.string e p fp v fv ts ft xs z l = flagged_r _ not_fit (with_hash_r _ (string_fits v fv) _ (λ k. put_r (plain (hash k)) (λ u b h. omega (arith, u.0))))
  plain_r R.resource e p fp v fv ts ft xs z l = flagged_r _ not_fit (with_hash_r _ (resource_fits v fv) _ (λ k. put_r (plain (resource k)) (λ u b h. omega (arith, u.0))))
  plain_r R.this e p fp v fv ts ft xs z l = post_r p fp _ (λ q. put_r (plain (this q)) (λ u b h. omega (arith, u.0)))
  plain_r R.load e p fp v fv ts ft xs z l = loaded_r v fv p fp
  plain_r R.query e p fp v fv ts ft xs z l = asked_r (Ranged []) v fv (failing_r 7) (λ i m fi fm. flagged_r _ (queried_fit (is_empty xs)) (query_r i m p fi fm fp xs z))
  plain_r (R.compare o) e p fp v fv ts ft xs z l =
      let fo : o ≤ 3 = leb-true o 3 e in
      paired_r _ (cmp o) (const_operand_r (cmp_const o) (λ k q u b h. omega (arith, u.0, u.1.0)) v fv) (λ q u b h. omega (arith, u.0)) p fp xs z l
  plain_r (R.equal o) e p fp v fv ts ft xs z l =
      let fo : o ≤ 1 = leb-true o 1 e in
      paired_r _ (eq o) (equal_const_r o (omega arith) v fv) (λ q u b h. omega (arith, u.0)) p fp xs z l
  plain_r (R.logic j) e p fp v fv ts ft (a ∷ xs) z l = post_r p fp _ λ q. junction_r j q a z.0 xs z.1 l
  plain_r R.coalesce e p fp v fv ts ft (a ∷ b ∷ xs) z l = fork_r handler_push handler_pop handler+ (record { by = λ c. omega arith }) (λ t h b i. let e = shift b t in omega arith) (λ t h b i. let e = shift b t in omega arith) (z.0.expr l) (z.1.0.expr l) then_r post_instruction_r (is_identity p) p fp
  plain_r R.conditional e p fp v fv ts ft (a ∷ b ∷ xs) z l = z.0.expr l then_r fork_r (guard jump_if_falsy) jump same up_same (λ t h b i. let e = shift b t in omega arith) fits_jump (z.1.0.expr l) (other_r xs z.1.1 0 (omega arith) l) then_r post_instruction_r (is_identity p) p fp
  plain_r R.statements e p fp v fv ts ft xs z l = statements_r p.offset fp.offset xs z l
  plain_r R.loop e p fp v fv ts ft (a ∷ b ∷ xs) z l = flagged_r _ (sets_fit 64 (omega arith)) (z.0.expr l then_r looped_r (z.1.0.expr true) then_r constant_r _ (fold_fits_four p 0 (omega arith)))
  plain_r R.loop e p fp v fv ts ft xs z l = flagged_r _ (sets_fit 64 (omega arith)) (failing_r 7)
  plain_r R.for_each e p fp v fv ts ft (a ∷ b ∷ c ∷ xs) z l = flagged_r _ (λ f g. not_fit _ (sets_fit 64 (omega arith) f g)) (variable_r ts ft _ (λ js i fi. free (z.1.0.expr l) then_r eached_r i fi (free (z.1.1.0.expr true)) then_r constant_r _ (fold_fits_four p 0 (omega arith))))
  plain_r R.for_each e p fp v fv ts ft xs z l = flagged_r _ (λ f g. not_fit _ (sets_fit 64 (omega arith) f g)) (failing_r 7)
  plain_r R.break e p fp v fv ts ft xs z l = jumps_r to_cleanup (λ b h. omega arith) l
  plain_r R.continue e p fp v fv ts ft xs z l = jumps_r to_check (λ b h. omega arith) l
  plain_r R.assign e p fp v fv ts ft (a ∷ xs) z l = target_r ts ft (other_r xs z.1 _ (const_fits v fv) l) p fp
  plain_r R.bracket e p fp v fv ts ft (a ∷ xs) z l = z.0.expr l
  plain_r (R.unary u) e p fp v fv ts ft (a ∷ xs) z l = z.0.expr l then_r post_r p fp _ (λ q. put_r (plain (cond u (negate q) (not q))) (λ i. either_one (λ g. Fits (instr (plain g))) u (λ b h. omega (arith, i.0)) (λ b h. omega (arith, i.0))))
  plain_r R.add e p fp v fv ts ft (a ∷ []) z l = z.0.expr l then_r post_instruction_r (is_identity p) p fp
  plain_r R.add e p fp v fv ts ft (a ∷ b ∷ xs) z l = pushed_r (z.0.expr l) (addition_r p fp b z.1.0 xs z.1.1 l)
  plain_r R.mul e p fp v fv ts ft (a ∷ b ∷ xs) z l = bounds_r mul (λ q u b h. omega (arith, u.0)) p fp a b z.0 z.1.0 l
  plain_r R.div e p fp v fv ts ft (a ∷ b ∷ xs) z l = z.1.0.expr l then_r guarded_r (div_guard S.absolute) operand+ (record { by = λ c. omega arith }) (λ u. aims_div_guard S.absolute) (z.0.expr l then_r post_r p fp _ (λ q. put_r (taking (div q)) (λ u b h. omega (arith, u.0))))
  plain_r (R.host_math u) e p fp v fv ts ft [] z l = flagged_r _ (sets_fit (cond u (USES_RANDOM + USES_RANDOM_OP) 0) (either_one (◌< 2048) u (omega arith) (omega arith))) (math_r (Ranged []) v fv (failing_r 7) (λ f ff. failing_r 7))
  plain_r (R.host_math u) e p fp v fv ts ft (a ∷ xs) z l = flagged_r _ (sets_fit (cond u (USES_RANDOM + USES_RANDOM_OP) 0) (either_one (◌< 2048) u (omega arith) (omega arith))) (math_r (Ranged []) v fv (failing_r 7) (λ f ff. few_r f (suc (length xs)) ff p fp a z.0 xs z.1 l (leb (suc (length xs)) 255) refl))
  plain_r R.generic e p fp v fv ts ft xs z l = constant_r _ (fold_fits_four p (const_of v) (const_fits v fv))
  plain_r _ e p fp v fv ts ft xs z l = failing_r 7

  chained_r : (p : Post) → FitPost p → (v : Payload) → PayloadFits v → (xs : List Lowerings) → Every Ranges xs → (n : Name) → FitText n → (l : Bool) → Ranged [] (chained p v xs n l)
  unfolding chained settle relocate word_of
  chained_r p fp v fv [] z n fn l = failing_r 7
  chained_r p fp v fv (a ∷ xs) z n fn l = z.0.base n fn l then_r name_r (Ranged []) 6 v fv (failing_r 7) (λ m fm. with_member_r _ (record { own = fm; last = fn }) _ (λ k. post_r p fp _ (λ q. put_r (reading (member k q)) (λ u b h. omega (arith, u.0, u.1.0)))))

  member_read_r : (p : Post) → FitPost p → (v : Payload) → PayloadFits v → (xs : List Lowerings) → Every Ranges xs → (l : Bool) → Ranged [] (member_read p v xs l)
  unfolding member_read
  member_read_r p fp v fv xs z l = flagged_r _ (λ f g. sets_fit 16 (omega arith) _ (not_fit f g)) (name_r (Ranged []) 6 v fv (failing_r 7) (λ n fn. chained_r p fp v fv xs z n fn l))

  pointer_r : (p : Post) → FitPost p → (xs : List Lowerings) → Every Ranges xs → (l : Bool) → Ranged [] (pointer p xs l)
  unfolding pointer settle relocate word_of
  pointer_r p fp (a ∷ b ∷ xs) z l = flagged_r _ (λ f g. sets_fit 128 (omega arith) _ (not_fit f g)) (post_r p fp _ λ q. free (z.0.expr l) then_r guarded_r (pointer_enter q) same up_same (λ u t h b i. let e = shift b t in omega (arith, u.0)) (free (z.1.0.expr l) then_r put_r (plain (pointer_leave q)) (λ u b h. omega (arith, u.0))))
  pointer_r p fp xs z l = flagged_r _ (λ f g. sets_fit 128 (omega arith) _ (not_fit f g)) (failing_r 7)

  return_r : (p : Post) → FitPost p → (xs : List Lowerings) → Every Ranges xs → (l : Bool) → Ranged [] (returning p xs l)
  unfolding returning settle relocate word_of
  return_r p fp xs z l = other_r xs z 0 (omega arith) l then_r post_r p fp _ (λ q. put_r (return q) (λ u b h. omega (arith, u.0)))

  whole_r : (r : Rule) → small_rule r ≡ true → (p : Post) → FitPost p → (v : Payload) → PayloadFits v → (ts : Forest) → ForestFits ts → (xs : List Lowerings) → Every Ranges xs → Ranges (lower_rule S r p v ts xs)
  unfolding lower_rule small_rule
  whole_r R.return e p fp v fv ts ft xs z = record { expr = λ l. constant_r _ (fold_fits_four p (const_of v) (const_fits v fv)); statement = return_r p fp xs z; base = λ n fn l. constant_r _ (fold_fits_four p (const_of v) (const_fits v fv)) }
  whole_r R.member e p fp v fv ts ft xs z = record { expr = member_read_r p fp v fv xs z; statement = member_read_r p fp v fv xs z; base = chained_r p fp v fv xs z }
  whole_r R.entity e p fp v fv ts ft xs z = record { expr = λ l. loaded_r v fv p fp; statement = λ l. loaded_r v fv p fp; base = λ n fn l. loaded_r v fv p fp }
  whole_r R.pointer e p fp v fv ts ft xs z = record { expr = pointer_r p fp xs z; statement = pointer_r p fp xs z; base = λ n fn. pointer_r p fp xs z }
  whole_r (R.plain r) e p fp v fv ts ft xs z = record { expr = plain_r r e p fp v fv ts ft xs z; statement = plain_r r e p fp v fv ts ft xs z; base = λ n fn. plain_r r e p fp v fv ts ft xs z }

  mutual
    unfolding lower TreeFits

    pub tree_r : (t : Tree) → TreeFits t → Ranges (lower S t)
    tree_r (node op p v ts) h = whole_r (rule_at op) (table_small op) p h.0 v h.1 ts h.2 (lowers S ts) (trees_r ts h.2)

    pub trees_r : (ts : Forest) → ForestFits ts → Every Ranges (lowers S ts)
    trees_r nil h = tt
    trees_r (cons t ts) h = (tree_r t h.0, trees_r ts h.1)
