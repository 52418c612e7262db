-- Control and assignment: each rule is what its definition says. Assumes nothing.
use Rattle.std.proofs.Common.{Option, None, Some, ◌≡◌, refl, sym, subst, Bool, true, false, cond, List, [], ◌∷◌, ℕ, zero, suc, ◌≤◌, arith, length}
use Rattle.answers.specs.Refusals.{number_of_first}
use Rattle.answers.specs.declared.refusals.Refusal.{Refusal}
use Rattle.answers.specs.declared.refusals.Refusal.TheVariants.{SmallWorkspace, Failed}
use Rattle.numeric.specs.Post.{Post, fold}
use Rattle.ast.specs.Header.{LEVELS}
use Rattle.ast.specs.Node.{payload_at, op_at, offset_at, count_at, first_at, next_at, trees, tree_at}
use Rattle.program.specs.Kinds.{HAS_LOOPS, HAS_ASSIGNMENT}
use Rattle.program.specs.Instruction as N
use Rattle.program.specs.Counts.{Counts}
use Rattle.program.specs.Image.{word_of}
use Rattle.semantics.specs.Run.{handler+, same, opens}
use Rattle.ast.specs.Rules.{rule_at}
use Rattle.semantics.specs.State as S
use Rattle.semantics.specs.Payloads as P
use Rattle.semantics.specs.Pieces.{Lowering, failing, flagged, constant, post_instruction, fork, counted_loop, eached, ◌⨾◌}
use Rattle.semantics.specs.Lowering as D
use Rattle.semantics.specs.Lowering.{Lowerings}
use Rattle.payload.specs.declared.NameRef.{NameRef}
use Rattle.lowering.specs.Pools as B
use Rattle.builder.specs.Steps as W
use Rattle.lowering.specs.Parts as L
use Rattle.lowering.specs.Parts.{Step}
use Rattle.lowering.specs.Steps as Y
use Rattle.lowering.specs.Rules as R
use Rattle.representation.proofs.Represents.{Does}
use Rattle.representation.proofs.Interning.{name_does, temp_does}
use Rattle.representation.proofs.Laws.{thens, flagged_does, same_move, handler_move, handler_left_lem}
use Rattle.representation.proofs.OpenCode.{failing_does}
use Rattle.representation.proofs.Targets.{Leads, leads}
use Rattle.representation.proofs.Forks.{fork_does}
use Rattle.representation.proofs.Loops.{loop_does}
use Rattle.representation.proofs.Each.{each_does}
use Rattle.representation.proofs.Arguments.{Child, Children}
use Rattle.representation.proofs.Sound.{Sound, node_sound, const_same}
use Rattle.representation.proofs.TargetRules.{target_same}
use Rattle.representation.proofs.Stores.{store_does}
use Rattle.representation.proofs.Kin.{one_rel, some_rel, pair_rel, two_rel, three_rel, one_left, two_left, nothing_move, constant_does, put_post_lem, post_behind, found_lem, sets_move, not_sets_move}

-- the first of some children, which is there
variable_is : (tree : List ℕ) (q n m : ℕ) → 1 ≤ m → Sound n tree q → (f : N.EachNext → Lowering) → D.variable (trees (tree_at n tree) tree m q) f ≡ D.each_of (payload_at tree q) f
unfolding D.variable trees tree_at
variable_is tree q zero m h s f = absurd s
variable_is tree q (suc n) zero h s f = absurd (omega arith)
variable_is tree q (suc n) (suc m) h s f = refl

target_is : (tree : List ℕ) (q n m : ℕ) → 1 ≤ m → Sound n tree q → (f : Lowering) (p : Post) → D.target (trees (tree_at n tree) tree m q) f p ≡ D.unless (D.target_refusal (rule_at (op_at tree q)) (payload_at tree q)) (flagged (S.sets HAS_ASSIGNMENT) (f ⨾ D.stores (rule_at (op_at tree q)) (payload_at tree q) (P.path (tree_at n tree q)) p))
unfolding D.target trees tree_at
target_is tree q zero m h s f p = absurd s
target_is tree q (suc n) zero h s f p = absurd (omega arith)
target_is tree q (suc n) (suc m) h s f p = refl

module _ (tree : List ℕ) (E : ℕ → Bool → Step) (C : ℕ → NameRef → Bool → Step) (Z : ℕ → Bool → Step) where
  statements_from_lem : (o : ℕ) {c : Counts} (xs : List Lowerings) (m q : ℕ) (l : Bool) → Children tree E C Z xs m q → Does tree (D.statements o xs l) c (R.statements_from tree E C Z o m q l)
  unfolding D.statements R.statements_from
  statements_from_lem o [] zero q l k = constant_does o
  statements_from_lem o {c} (a ∷ xs) (suc m) q l k = thens (k.0.statement_is l c) (statements_from_lem o xs m (next_at tree q) l k.1)
  statements_from_lem o xs m q l k = absurd k

  module _ (p : ℕ) (xs : List Lowerings) (k : Children tree E C Z xs (count_at tree p) (first_at tree p)) {c : Counts} (l : Bool) where
    pub coalesce_does : Does tree (P.two xs (failing 7) λ a b. fork N.handler_push N.handler_pop handler+ (a.expr l) (b.expr l) ⨾ post_instruction (L.post_bits tree p)) c (R.coalesce tree E C Z p l)
    unfolding R.coalesce word_of
    coalesce_does = two_rel tree E C Z c _ (failing_does Failed) _ xs (count_at tree p) (first_at tree p) k
        (λ a b ca cb. thens (fork_does N.handler_push N.handler_pop handler+ (leads N.handler_push 35 0 0 (λ t. refl)) (leads N.handler_pop 36 0 0 (λ t. refl)) handler_move (ca.expr_is l (handler+ c)) handler_left_lem (cb.expr_is l c)) (post_behind p))

    pub conditional_does : Does tree (P.some xs (failing 7) λ a ys. P.some ys (failing 7) λ b zs. a.expr l ⨾ fork (N.guard N.jump_if_falsy) N.jump same (b.expr l) (P.one zs (constant 0) λ c. c.expr l) ⨾ post_instruction (L.post_bits tree p)) c (R.conditional tree E C Z p l)
    unfolding R.conditional R.alternative word_of
    conditional_does = pair_rel tree E C Z c _ (failing_does Failed) _ xs (count_at tree p) (first_at tree p) k
        (λ a b zs j e ca cb ks. thens (ca.expr_is l c) (thens (fork_does (N.guard N.jump_if_falsy) N.jump same (leads (N.guard N.jump_if_falsy) 33 0 0 (λ t. refl)) (leads N.jump 32 0 0 (λ t. refl)) same_move (cb.expr_is l c) nothing_move
        (subst (λ (t : Bool). Does tree (P.one zs (constant 0) λ c. c.expr l) c (λ h. cond t (B.constant 0 h) (E (next_at tree (next_at tree (first_at tree p))) l h))) (two_left (count_at tree p) j e) (one_rel tree E C Z c _ (constant_does 0) _ zs j (next_at tree (next_at tree (first_at tree p))) ks (λ a cc. cc.expr_is l c)))) (post_behind p)))

    pub statements_does : Does tree (D.statements (offset_at tree p) xs l) c (R.statements tree E C Z p l)
    unfolding R.statements
    statements_does = statements_from_lem (offset_at tree p) xs (count_at tree p) (first_at tree p) l k

    pub return_does : Does tree (D.returning (L.post_bits tree p) xs l) c (R.ret tree E C Z p l)
    unfolding D.returning R.ret word_of
    return_does = thens (one_rel tree E C Z c _ (constant_does 0) _ xs (count_at tree p) (first_at tree p) k (λ a ca. ca.expr_is l c)) (put_post_lem p (λ q. N.return q) 46 0 0 (λ q. refl))

    pub loop_rule : Does tree (flagged (S.sets HAS_LOOPS) (P.two xs (failing 7) λ a b. a.expr l ⨾ counted_loop (b.expr true) ⨾ constant (fold (L.post_bits tree p) 0))) c (R.counted_loop tree E C Z p l)
    unfolding R.counted_loop
    loop_rule = flagged_does (S.sets HAS_LOOPS) (Y.flagged 64) (sets_move 64) (two_rel tree E C Z c _ (failing_does Failed) _ xs (count_at tree p) (first_at tree p) k
        (λ a b ca cb. thens (ca.expr_is l c) (thens (loop_does (cb.expr_is true (opens true c))) (constant_does (fold (L.post_bits tree p) 0)))))

    -- behind the variable
    each_body : {b e : Lowerings} (i : N.EachNext) (op v : ℕ) → Leads (N.each_next i) op 0 v → Child tree E C Z b (next_at tree (first_at tree p)) → Child tree E C Z e (next_at tree (next_at tree (first_at tree p)))
        → Does tree (b.expr l ⨾ eached i (e.expr true) ⨾ constant (fold (L.post_bits tree p) 0)) c (R.each tree E C Z p (L.emit_jump op 0 v) l)
    unfolding R.each
    each_body i op v leads cb ce = thens (cb.expr_is l c) (thens (each_does i leads (ce.expr_is true (opens false c))) (constant_does (fold (L.post_bits tree p) 0)))

    variable_does : (n : ℕ) → Sound n tree (first_at tree p) → length tree ≤ 6144 → {b e : Lowerings} → Child tree E C Z b (next_at tree (first_at tree p)) → Child tree E C Z e (next_at tree (next_at tree (first_at tree p)))
        → Does tree (D.each_of (payload_at tree (first_at tree p)) λ i. b.expr l ⨾ eached i (e.expr true) ⨾ constant (fold (L.post_bits tree p) 0)) c
        (R.with_variable tree (first_at tree p) (W.failed Failed) λ i. R.each tree E C Z p (L.each_next i) l)
    unfolding D.each_of L.each_next word_of
    variable_does n sound short cb ce =
        found_lem (first_at tree p) (node_sound n tree (first_at tree p) sound) short (W.failed Failed) (λ i. R.each tree E C Z p (L.each_next i) l) _ _
        (failing_does Failed)
        (λ r t. name_does r t (λ v. each_body (N.each_next_var v) 44 v (leads (N.each_next (N.each_next_var v)) 44 0 v (λ t. refl)) cb ce))
        (λ r t. temp_does r t (λ v. each_body (N.each_next_temp v) 45 v (leads (N.each_next (N.each_next_temp v)) 45 0 v (λ t. refl)) cb ce))

    -- n are the children's levels
    pub each_rule : (n : ℕ) → (1 ≤ count_at tree p → Sound n tree (first_at tree p)) → length tree ≤ 6144
        → Does tree (flagged (λ f. S.not_float_only (S.sets HAS_LOOPS f)) (P.three xs (failing 7) λ a b c. D.variable (trees (tree_at n tree) tree (count_at tree p) (first_at tree p)) λ i. b.expr l ⨾ eached i (c.expr true) ⨾ constant (fold (L.post_bits tree p) 0))) c (R.for_each tree E C Z p l)
    unfolding R.for_each
    each_rule n sound short = flagged_does (λ f. S.not_float_only (S.sets HAS_LOOPS f)) (λ s. Y.not_float_only (Y.flagged 64 s)) (not_sets_move 64)
        (three_rel tree E C Z c _ (failing_does Failed) _ xs (count_at tree p) (first_at tree p) k
        (λ a b e m ca cb ce.
        subst (λ (f : Lowering). Does tree f c (R.with_variable tree (first_at tree p) (W.failed Failed) λ i. R.each tree E C Z p (L.each_next i) l))
        (sym (variable_is tree (first_at tree p) n (count_at tree p) (omega arith) (sound (omega arith)) (λ i. b.expr l ⨾ eached i (e.expr true) ⨾ constant (fold (L.post_bits tree p) 0))))
        (variable_does n (sound (omega arith)) short cb ce)))

    -- the value: the second child, or the node's constant
    value_does : (ys : List Lowerings) (j : ℕ) → count_at tree p ≡ suc j → Children tree E C Z ys j (next_at tree (first_at tree p)) → Does tree (P.one ys (constant (P.const_of (payload_at tree p))) λ b. b.expr l) c (R.value tree E C Z p (first_at tree p) l)
    unfolding R.value
    value_does ys j e ks = rw (← one_left (count_at tree p) j e)
        (one_rel tree E C Z c _ (rw (← const_same tree p) (constant_does (P.const_of (payload_at tree p)))) _ ys j (next_at tree (first_at tree p)) ks (λ b cb. cb.expr_is l c))

    unless_does : (r : ℕ) (met : Option Refusal) → r ≡ number_of_first met → {f : Lowering} {F : Step} → Does tree f c F → Does tree (D.unless r f) c (L.unless_refused met F)
    unfolding D.unless
    unless_does r met e {f} {F} d = rw e (go met)
      where
        go : (met : Option Refusal) → Does tree (D.unless (number_of_first met) f) c (L.unless_refused met F)
        go None = d
        go (Some SmallWorkspace) = failing_does SmallWorkspace
        go (Some why) = failing_does why

    pub assign_rule : (n : ℕ) → n ≤ LEVELS → (1 ≤ count_at tree p → Sound n tree (first_at tree p)) → length tree ≤ 6144
        → Does tree (P.some xs (failing 7) λ a ys. D.target (trees (tree_at n tree) tree (count_at tree p) (first_at tree p)) (P.one ys (constant (P.const_of (payload_at tree p))) λ b. b.expr l) (L.post_bits tree p)) c (R.assignment tree E C Z n p l)
    unfolding R.assignment
    assign_rule n le sound short = some_rel tree E C Z c _ (failing_does Failed) _ xs (count_at tree p) (first_at tree p) k
        (λ a ys j e ca ks.
        let q = first_at tree p in
        let v : Lowering = P.one ys (constant (P.const_of (payload_at tree p))) λ b. b.expr l in
        rw (target_is tree q n (count_at tree p) (omega arith) (sound (omega arith)) v (L.post_bits tree p))
        (unless_does (D.target_refusal (rule_at (op_at tree q)) (payload_at tree q)) (R.target_refusal_at tree q) (target_same tree q)
        (flagged_does (S.sets HAS_ASSIGNMENT) (Y.flagged 32) (sets_move 32) (thens (value_does ys j e ks) (store_does n q p le (sound (omega arith)) short)))))
