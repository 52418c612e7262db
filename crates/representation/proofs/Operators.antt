-- Logic and arithmetic: each rule is what its definition says. Assumes nothing.
use Rattle.std.proofs.Common.{◌≡◌, refl, sym, subst, Bool, cond, List, [], ◌∷◌, ℕ, zero, suc, ◌+◌, ◌-◌, ◌<◌, arith, length, eqb, ltb, leb, lt-ltb, le-ltb, le-leb}
use Rattle.answers.specs.declared.refusals.Refusal.TheVariants as Refusal
use native.Mathlib.Decide.{dec_lt}
use borrow.Author.Tests.{lt-leb}
use Rattle.wire.specs.Bytes.{be8}
use Rattle.ast.specs.Node.{payload_at, count_at, first_at, next_at}
use Rattle.program.specs.Kinds.{USES_ARROW}
use Rattle.program.specs.Instruction as N
use Rattle.program.specs.Counts.{Counts}
use Rattle.program.specs.Image.{word_of, word, bit}
use Rattle.semantics.specs.Run.{operand+, same}
use Rattle.semantics.specs.State as S
use Rattle.semantics.specs.Payloads as P
use Rattle.semantics.specs.Pieces.{Lowering, put, failing, flagged, with_post, post_instruction, pushed, guarded, ◌⨾◌}
use Rattle.semantics.specs.Lowering as D
use Rattle.semantics.specs.Lowering.{Lowerings}
use Rattle.payload.specs.declared.NameRef.{NameRef}
use Rattle.builder.specs.Steps as W
use Rattle.lowering.specs.Parts as L
use Rattle.lowering.specs.Parts.{Step}
use Rattle.builder.specs.Steps.{still}
use Rattle.lowering.specs.Steps as Y
use Rattle.lowering.specs.Rules as R
use Rattle.representation.proofs.Represents.{Ends, Does}
use Rattle.representation.proofs.Interning.{const_does, hash_does, post_does}
use Rattle.representation.proofs.Laws.{thens, flagged_does, same_move, operand_move, popped_move, lowers, pushes}
use Rattle.representation.proofs.OpenCode.{failing_does}
use Rattle.representation.proofs.Targets.{Leads, leads}
use Rattle.representation.proofs.Branches.{instr_does, guarded_does}
use Rattle.representation.proofs.Arguments.{Child, Children, children_count}
use Rattle.representation.proofs.Sound.{as_hash_lem, as_math_lem, float_same, const_same}
use Rattle.representation.proofs.Kin.{one_rel, some_rel, two_rel, one_left, nothing_move, put_post_lem, post_behind, sets_move, not_float_move, sets_not_move, pop_one}

-- j more
abbrev ups : ℕ → ℕ → ℕ
ups zero n = n
ups (suc j) n = ups j (suc n)

ups_are : (j n : ℕ) → ups j n ≡ n + j
ups_are zero n = omega arith
ups_are (suc j) n = let h = ups_are j (suc n) in omega arith

less : (m j : ℕ) → m ≡ suc j → j ≡ m - 1
less m j e = omega arith

module _ (tree : List ℕ) (E : ℕ → Bool → Step) (C : ℕ → NameRef → Bool → Step) (Z : ℕ → Bool → Step) where
  -- a, Push, b and what takes both
  binary_does : {c : Counts} {a b : Lowerings} {g : Lowering} {G : Step} (q : ℕ) (l : Bool) → Child tree E C Z a q → Child tree E C Z b (next_at tree q) → Does tree g (operand+ c) G → Does tree (pushed (a.expr l) (b.expr l ⨾ g)) c (λ h. still (Y.popped 1) (G (R.binary tree E C Z q l h)))
  unfolding R.binary
  binary_does {c} q l ca cb d = lowers (pushes (ca.expr_is l c) ((thens (cb.expr_is l (operand+ c)) d))) (pop_one c)

  -- ---- and, or

  module _ (step : N.Guard) (last : N.Plain) (op end v : ℕ) (leads : Leads (N.guard step) op 0 v) (ends : word_of (N.plain last) ≡ word end 0 0 v) where
    pub junction_does : {c : Counts} (a : Lowerings) (ys : List Lowerings) (j q : ℕ) (l : Bool) → Child tree E C Z a q → Children tree E C Z ys j (next_at tree q) → Does tree (D.logic step last a ys l) c (R.operands tree E C Z op end v j q l)
    unfolding D.logic R.operands
    junction_does {c} a [] zero q l ca k = thens (ca.expr_is l c) (instr_does (N.plain last) ends)
    junction_does {c} a (b ∷ ys) (suc j) q l ca k = thens (ca.expr_is l c) (guarded_does step same leads same_move (junction_does b ys j (next_at tree q) l k.0 k.1) nothing_move)
    junction_does a ys j q l ca k = absurd k

  -- ---- sums

  module _ (p : ℕ) where
    addition_does : {c : Counts} (a : Lowerings) (ys : List Lowerings) (j q : ℕ) (l : Bool) → Child tree E C Z a q → Children tree E C Z ys j (next_at tree q) → Does tree (D.terms (L.post_bits tree p) a ys l) c (R.terms tree E C Z p j q l)
    unfolding D.terms R.terms word_of
    addition_does {c} a [] zero q l ca k = thens (ca.expr_is l c) (put_post_lem p (λ v. N.taking (N.add_last v)) 18 0 0 (λ v. refl))
    addition_does {c} a (b ∷ ys) (suc j) q l ca k = thens (ca.expr_is l c) (thens (instr_does (N.plain N.add_acc) refl) (addition_does b ys j (next_at tree q) l k.0 k.1))
    addition_does a ys j q l ca k = absurd k

    -- ---- host functions: j operands are left open

    hosted_ends : (f k : ℕ) {c : Counts} (a : Lowerings) (ys : List Lowerings) (j q : ℕ) (l : Bool) → Child tree E C Z a q → Children tree E C Z ys j (next_at tree q) → Ends tree (D.host_math f k (L.post_bits tree p) a ys l) c (record c { operands = ups j c.operands }) (R.host_arguments tree E C Z p f k j q l)
    unfolding D.host_math R.host_arguments word_of
    hosted_ends f k {c} a [] zero q l ca ks = thens (ca.expr_is l c) (put_post_lem p (λ v. N.taking (N.host_math f k v)) 22 k f (λ v. refl))
    hosted_ends f k {c} a (b ∷ ys) (suc j) q l ca ks = pushes (ca.expr_is l c) (hosted_ends f k b ys j (next_at tree q) l ks.0 ks.1)
    hosted_ends f k a ys j q l ca ks = absurd ks

    hosted_does : (f k : ℕ) {c : Counts} (a : Lowerings) (ys : List Lowerings) (j q : ℕ) (l : Bool) → Child tree E C Z a q → Children tree E C Z ys j (next_at tree q) → Does tree (D.host_math f k (L.post_bits tree p) a ys l) c (λ h. still (Y.popped j) (R.host_arguments tree E C Z p f k j q l h))
    hosted_does f k {c} a ys j q l ca ks = lowers (hosted_ends f k a ys j q l ca ks) (popped_move (ups j c.operands) j (ups_are j c.operands))

  -- ---- the rules

  module _ (p : ℕ) (xs : List Lowerings) (k : Children tree E C Z xs (count_at tree p) (first_at tree p)) {c : Counts} (l : Bool) where
    -- f is the form with the constant of the payload, j the instruction of two children
    pub paired_does : (f : ℕ → Lowering) (j : ℕ → N.Taking) (op sub : ℕ) → ((q : ℕ) → Does tree (f q) c (R.constant_form tree op sub p q))
        → ((q : ℕ) → word_of (N.taking (j q)) ≡ word op sub 0 q) → Does tree (D.paired f j (L.post_bits tree p) xs l) c (R.paired tree E C Z op sub p l)
    unfolding D.paired R.paired
    paired_does f j op sub df dj = some_rel tree E C Z c _ (failing_does Refusal.Failed) _ xs (count_at tree p) (first_at tree p) k λ a ys m e ca ks.
        rw (← one_left (count_at tree p) m e) (post_does (L.post_bits tree p) λ q.
        some_rel tree E C Z c _ (thens (ca.expr_is l c) (df q)) _ ys m (next_at tree (first_at tree p)) ks λ b zs i d cb ls.
        binary_does (first_at tree p) l ca cb (instr_does (N.taking (j q)) (dj q)))

    compare_const_lem : (o q : ℕ) → Does tree (D.const_operand (N.cmp_const o) (payload_at tree p) q) c (R.compare_const tree o p q)
    unfolding D.const_operand R.compare_const word_of
    compare_const_lem o q = rw (← const_same tree p) (const_does (P.const_of (payload_at tree p)) λ i. instr_does (N.plain (N.cmp_const o i q)) refl)

    equal_const_lem : (o q : ℕ) → Does tree (D.equal_const o (payload_at tree p) q) c (R.equal_const tree o p q)
    unfolding D.equal_const R.equal_const word_of
    equal_const_lem o q = as_hash_lem p
        (rw (← float_same tree p) (const_does (P.float_of (payload_at tree p)) (λ i. instr_does (N.plain (N.eq_const o i q)) refl)))
        (λ v. flagged_does S.not_float_only Y.not_float_only not_float_move (hash_does v (λ i. instr_does (N.plain (N.eq_hash o i q)) refl)))

    pub compare_does : (o : ℕ)
        → Does tree (D.paired (D.const_operand (N.cmp_const o) (payload_at tree p)) (N.cmp o) (L.post_bits tree p) xs l) c (R.paired tree E C Z 23 o p l)
    unfolding R.constant_form word_of
    compare_does o = paired_does _ (N.cmp o) 23 o (compare_const_lem o) (λ q. refl)

    pub equal_does : (o : ℕ)
        → Does tree (D.paired (D.equal_const o (payload_at tree p)) (N.eq o) (L.post_bits tree p) xs l) c (R.paired tree E C Z 25 o p l)
    unfolding R.constant_form word_of
    equal_does o = paired_does _ (N.eq o) 25 o (equal_const_lem o) (λ q. refl)

    pub and_does : Does tree (P.some xs (failing 7) λ a ys. with_post (L.post_bits tree p) λ q. D.logic (N.and_step q) (N.and_last q) a ys l) c (R.logic tree E C Z 28 30 p l)
    unfolding R.logic word_of
    and_does = some_rel tree E C Z c _ (failing_does Refusal.Failed) _ xs (count_at tree p) (first_at tree p) k (λ a ys j e ca ks. post_does (L.post_bits tree p) (λ q.
        subst (λ (m : ℕ). Does tree (D.logic (N.and_step q) (N.and_last q) a ys l) c (R.operands tree E C Z 28 30 q m (first_at tree p) l)) (less (count_at tree p) j e) (junction_does (N.and_step q) (N.and_last q) 28 30 q (leads (N.guard (N.and_step q)) 28 0 q (λ t. refl)) refl a ys j (first_at tree p) l ca ks)))

    pub or_does : Does tree (P.some xs (failing 7) λ a ys. with_post (L.post_bits tree p) λ q. D.logic (N.or_step q) (N.or_last q) a ys l) c (R.logic tree E C Z 29 31 p l)
    unfolding R.logic word_of
    or_does = some_rel tree E C Z c _ (failing_does Refusal.Failed) _ xs (count_at tree p) (first_at tree p) k (λ a ys j e ca ks. post_does (L.post_bits tree p) (λ q.
        subst (λ (m : ℕ). Does tree (D.logic (N.or_step q) (N.or_last q) a ys l) c (R.operands tree E C Z 29 31 q m (first_at tree p) l)) (less (count_at tree p) j e) (junction_does (N.or_step q) (N.or_last q) 29 31 q (leads (N.guard (N.or_step q)) 29 0 q (λ t. refl)) refl a ys j (first_at tree p) l ca ks)))

    pub bracket_does : Does tree (P.one xs (failing 7) λ a. a.expr l) c (R.bracket tree E C Z p l)
    unfolding R.bracket
    bracket_does = one_rel tree E C Z c _ (failing_does Refusal.Failed) _ xs (count_at tree p) (first_at tree p) k (λ a ca. ca.expr_is l c)

    pub unary_does : (i : ℕ → N.Plain) (op sub : ℕ) → ((q : ℕ) → word_of (N.plain (i q)) ≡ word op sub 0 q)
        → Does tree (P.one xs (failing 7) λ a. a.expr l ⨾ with_post (L.post_bits tree p) (λ q. put (N.plain (i q)))) c (R.unary tree E C Z op sub p l)
    unfolding R.unary
    unary_does i op sub e = one_rel tree E C Z c _ (failing_does Refusal.Failed) _ xs (count_at tree p) (first_at tree p) k λ a ca.
        thens (ca.expr_is l c) (put_post_lem p (λ q. N.plain (i q)) op sub 0 e)

    pub negate_does : Does tree (P.one xs (failing 7) λ a. a.expr l ⨾ with_post (L.post_bits tree p) (λ q. put (N.plain (N.negate q)))) c
        (R.unary tree E C Z 15 0 p l)
    unfolding word_of
    negate_does = unary_does N.negate 15 0 (λ q. refl)

    pub not_does : Does tree (P.one xs (failing 7) λ a. a.expr l ⨾ with_post (L.post_bits tree p) (λ q. put (N.plain (N.not q)))) c
        (R.unary tree E C Z 16 0 p l)
    unfolding word_of
    not_does = unary_does N.not 16 0 (λ q. refl)

    pub bounds_does : (i : ℕ → N.Taking) (op sub : ℕ) → ((q : ℕ) → word_of (N.taking (i q)) ≡ word op sub 0 q)
        → Does tree (P.two xs (failing 7) λ a b. D.bounds i (L.post_bits tree p) a b l) c (R.bounds tree E C Z op sub p l)
    unfolding D.bounds R.bounds
    bounds_does i op sub e = two_rel tree E C Z c _ (failing_does Refusal.Failed) _ xs (count_at tree p) (first_at tree p) k λ a b ca cb.
        binary_does (first_at tree p) l ca cb (put_post_lem p (λ q. N.taking (i q)) op sub 0 e)

    pub mul_does : Does tree (P.two xs (failing 7) λ a b. D.bounds N.mul (L.post_bits tree p) a b l) c (R.bounds tree E C Z 19 0 p l)
    unfolding word_of
    mul_does = bounds_does N.mul 19 0 (λ q. refl)

    pub div_does : Does tree (P.two xs (failing 7) λ a b. b.expr l ⨾ guarded (N.div_guard (eqb (be8 tree 0 6) 1)) operand+ (a.expr l ⨾ with_post (L.post_bits tree p) (λ q. put (N.taking (N.div q))))) c (R.div tree E C Z p l)
    unfolding R.div word_of
    div_does = two_rel tree E C Z c _ (failing_does Refusal.Failed) _ xs (count_at tree p) (first_at tree p) k
        (λ a b ca cb. thens (cb.expr_is l c) (guarded_does (N.div_guard (eqb (be8 tree 0 6) 1)) operand+ (leads (N.guard (N.div_guard (eqb (be8 tree 0 6) 1))) 20 (bit (eqb (be8 tree 0 6) 1)) 0 (λ t. refl)) operand_move (thens (ca.expr_is l (operand+ c)) (put_post_lem p (λ q. N.taking (N.div q)) 21 0 0 (λ q. refl))) (pop_one c)))

    pub add_does : Does tree (P.some xs (failing 7) λ a ys. P.some ys (a.expr l ⨾ post_instruction (L.post_bits tree p)) λ b zs. pushed (a.expr l) (D.terms (L.post_bits tree p) b zs l)) c (R.add tree E C Z p l)
    unfolding R.add
    add_does = some_rel tree E C Z c _ (failing_does Refusal.Failed) _ xs (count_at tree p) (first_at tree p) k (λ a ys j e ca ks.
        rw (← one_left (count_at tree p) j e)
        (some_rel tree E C Z c _ (thens (ca.expr_is l c) (post_behind p)) _ ys j (next_at tree (first_at tree p)) ks (λ b zs i d cb ls.
        let m : i ≡ count_at tree p - 2 = omega arith in
        subst (λ (n : ℕ). Does tree (pushed (a.expr l) (D.terms (L.post_bits tree p) b zs l)) c (λ h. still (Y.popped 1) (R.terms tree E C Z p n (next_at tree (first_at tree p)) l (still W.pushed (E (first_at tree p) l h))))) m
        (lowers (pushes (ca.expr_is l c) ((addition_does p b zs i (next_at tree (first_at tree p)) l cb ls))) (pop_one c)))))

    pub pointer_does : Does tree (D.pointer (L.post_bits tree p) xs l) c (R.pointer tree E C Z p l)
    unfolding D.pointer R.pointer word_of
    pointer_does = flagged_does (λ f. S.sets USES_ARROW (S.not_float_only f)) (λ s. Y.flagged 128 (Y.not_float_only s)) (sets_not_move 128)
        (two_rel tree E C Z c _ (failing_does Refusal.Failed) _ xs (count_at tree p) (first_at tree p) k
        (λ a b ca cb. post_does (L.post_bits tree p) (λ q. thens (ca.expr_is l c) (guarded_does (N.pointer_enter q) same (leads (N.guard (N.pointer_enter q)) 37 0 q (λ t. refl)) same_move (thens (cb.expr_is l c) (instr_does (N.plain (N.pointer_leave q)) refl)) nothing_move))))

    -- 255 arguments at most
    few : (m : ℕ) {g : Lowering} {G : Step} → Does tree g c G → Does tree (cond (leb m 255) g (failing 7)) c (λ h. cond (ltb 255 m) (W.failed Refusal.Failed h) (G h))
    few m {g} {G} d = go (dec_lt 255 m)
      where
        go : Dec (255 < m) → Does tree (cond (leb m 255) g (failing 7)) c (λ h. cond (ltb 255 m) (W.failed Refusal.Failed h) (G h))
        go (yes r) = rw (lt-leb m 255 r) (rw (lt-ltb 255 m r) (failing_does Refusal.Failed))
        go (no r) = rw (le-leb m 255 (omega arith)) (rw (le-ltb 255 m (omega arith)) d)

    pub math_does : (bits : ℕ) → Does tree (flagged (S.sets bits) (P.as_math (payload_at tree p) (failing 7) λ f. P.some xs (failing 7) λ a ys. cond (leb (length xs) 255) (D.host_math f (length xs) (L.post_bits tree p) a ys l) (failing 7))) c (R.host_math tree E C Z bits p l)
    unfolding R.host_math
    math_does bits = flagged_does (S.sets bits) (Y.flagged bits) (sets_move bits) (as_math_lem p (failing_does Refusal.Failed) (λ f.
        let e = children_count tree E C Z xs (count_at tree p) (first_at tree p) k in
        subst (λ (n : ℕ). Does tree (P.some xs (failing 7) λ a ys. cond (leb n 255) (D.host_math f n (L.post_bits tree p) a ys l) (failing 7)) c (λ h. cond (eqb (count_at tree p) 0) (W.failed Refusal.Failed h) (cond (ltb 255 (count_at tree p)) (W.failed Refusal.Failed h) (still (Y.popped (count_at tree p - 1)) (R.host_arguments tree E C Z p f (count_at tree p) (count_at tree p - 1) (first_at tree p) l h))))) (sym e)
        (some_rel tree E C Z c _ (failing_does Refusal.Failed) _ xs (count_at tree p) (first_at tree p) k (λ a ys j d ca ks.
        few (count_at tree p) (subst (λ (m : ℕ). Does tree (D.host_math f (count_at tree p) (L.post_bits tree p) a ys l) c (λ h. still (Y.popped m) (R.host_arguments tree E C Z p f (count_at tree p) m (first_at tree p) l h))) (less (count_at tree p) j d) (hosted_does p f (count_at tree p) a ys j (first_at tree p) l ca ks))))))
