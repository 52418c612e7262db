-- Two branches, one of which is taken: a jump to the second, the first, a jump behind the second, the second. Assumes nothing.
use Rattle.std.proofs.Common.{◌≡◌, refl, sym, ap, subst, ◌∙◌, false, List, [], ◌∷◌, ◌++◌, append_assoc, ℕ, suc, arith, length-append}
use Rattle.program.specs.Instruction.{Instruction}
use Rattle.program.specs.Counts.{Counts}
use Rattle.semantics.specs.Positions.{past}
use Rattle.semantics.proofs.Positions.{past_append}
use Rattle.semantics.specs.State.{Item, instr, State, raise}
use Rattle.semantics.specs.Pieces.{Lowered, emit, Lowering, fork}
use Rattle.lowering.specs.Parts as L
use Rattle.lowering.specs.Parts.{Step}
use Rattle.representation.proofs.Represents.{OpenCall, Abs, Fits, Content, Moves, Does, run, on_state}
use Rattle.representation.proofs.OpenCode.{add_item, back_add, back_code, flushed_code, flush_a, back_flush, flush_is}
use Rattle.representation.proofs.Targets.{mk, land_at, Leads, lead_front, lead_back, guarding, guards, guard_place}
use Rattle.representation.proofs.Branches as B

module _ (o k : List Item) (os : List OpenCall) (st : State) (i j : ℕ → Instruction) (up : Counts → Counts) (f g : Lowering) (c : Counts) where
  abbrev x : Lowered
  x = B.x o k os st i (up c) f

  abbrev m : ℕ
  m = past x.code (suc (past k 0))

  abbrev y : Lowered
  y = g c false (suc m) x.state

  abbrev F3 : Abs
  F3 = B.G3 o k os st i (up c) f

  abbrev F4 : Abs
  F4 = mk o (k ++ (instr (i 0) ∷ (x.code ++ (instr (j 0) ∷ [])))) false os x.state

  abbrev F5 : Abs
  F5 = mk o (k ++ (instr (i (suc m)) ∷ (x.code ++ (instr (j 0) ∷ [])))) false os x.state

  -- the code before the second jump
  abbrev before : List Item
  before = k ++ (instr (i (suc m)) ∷ x.code)

  abbrev F6 : Abs
  F6 = mk o (before ++ (instr (j 0) ∷ y.code)) false os y.state

  abbrev end : ℕ
  end = past y.code (suc m)

  abbrev F7 : Abs
  F7 = mk o (before ++ (instr (j end) ∷ y.code)) false os y.state

  step4 : add_item (instr (j 0)) F3 ≡ F4
  step4 = ap (λ (l : List Item). mk o l false os x.state) (append_assoc k (instr (i 0) ∷ x.code) (instr (j 0) ∷ []))

  pos4 : past F4.code 0 ≡ suc m
  pos4 = past_append k (instr (i 0) ∷ (x.code ++ (instr (j 0) ∷ []))) 0 ∙ past_append x.code (instr (j 0) ∷ []) (suc (past k 0))

  pos5 : past F5.code 0 ≡ suc m
  pos5 = past_append k (instr (i (suc m)) ∷ (x.code ++ (instr (j 0) ∷ []))) 0 ∙ past_append x.code (instr (j 0) ∷ []) (suc (past k 0))

  step6 : run g c F5 ≡ F6
  step6 = rw (pos5, append_assoc k (instr (i (suc m)) ∷ (x.code ++ (instr (j 0) ∷ []))), append_assoc x.code (instr (j 0) ∷ []), append_assoc k (instr (i (suc m)) ∷ x.code))

  pos_before : past before 0 ≡ m
  pos_before = past_append k (instr (i (suc m)) ∷ x.code) 0

  pos6 : past (before ++ (instr (j 0) ∷ y.code)) 0 ≡ end
  pos6 = past_append before (instr (j 0) ∷ y.code) 0 ∙ ap (λ (n : ℕ). past y.code (suc n)) pos_before

  size7 : Fits F7 → Fits F6
  size7 q = back_code F6 F7 refl refl (omega (arith, length-append before (instr (j end) ∷ y.code), length-append before (instr (j 0) ∷ y.code))) q

  size5 : Fits F5 → Fits F4
  size5 q = back_code F4 F5 refl refl (omega (arith, length-append k (instr (i (suc m)) ∷ (x.code ++ (instr (j 0) ∷ []))), length-append k (instr (i 0) ∷ (x.code ++ (instr (j 0) ∷ []))))) q

  whole : F7 ≡ mk o (k ++ (instr (i (suc m)) ∷ (x.code ++ (instr (j end) ∷ y.code)))) false os y.state
  whole = ap (λ (l : List Item). mk o l false os y.state) (append_assoc k (instr (i (suc m)) ∷ x.code) (instr (j end) ∷ y.code))

module _ {tree : List ℕ} {c : Counts} where
  pub fork_does : (i j : ℕ → Instruction) (up : Counts → Counts) {f g : Lowering} {F K U D : Step} {op sub b op' sub' b' : ℕ} → Leads i op sub b → Leads j op' sub' b'
      → Moves tree (on_state (raise (up c))) c (up c) U → Does tree f (up c) F → Moves tree (λ A. A) (up c) c D → Does tree g c K
      → Does tree (fork i j up f g) c (λ h.
      let z = D (F (U (guarding op sub b h))) in
      L.place_target (L.emit_jump op' sub' b' z).0.index (K (L.place_target (L.emit_jump op sub b h).0.index (guarding op' sub' b' z))))
  unfolding flushed_code
  fork_does i j up {f} {g} {F} {K} {U} {D} {op} {sub} {b} {op'} {sub'} {b'} ei ej mu d md dg = record {
    back = λ A q.
        let k = flushed_code A.wait A.code in
        let o = A.outer in
        let os = A.open_calls in
        let st = A.state in
        let q7 = subst (λ (B : Abs). Fits B) (sym (whole o k os st i j up f g c)) (subst (λ (B : Abs). Fits B) (flushed_is A) q) in
        let q5 = dg.back (F5 o k os st i j up f g c) (subst (λ (B : Abs). Fits B) (sym (step6 o k os st i j up f g c)) (size7 o k os st i j up f g c q7)) in
        let q3 = back_add (instr (j 0)) (F3 o k os st i j up f g c) (subst (λ (B : Abs). Fits B) (sym (step4 o k os st i j up f g c)) (size5 o k os st i j up f g c q5)) in
        back_flush A (back_add (instr (i 0)) (flush_a A) (B.guard_back i (up c) mu d A q3));
    keep = λ A h q r.
        let k = flushed_code A.wait A.code in
        let o = A.outer in
        let os = A.open_calls in
        let st = A.state in
        let X = x o k os st i j up f g c in
        let Y = y o k os st i j up f g c in
        let M = m o k os st i j up f g c in
        let E = end o k os st i j up f g c in
        let e6 = step6 o k os st i j up f g c in
        let q7 = subst (λ (B : Abs). Fits B) (sym (whole o k os st i j up f g c)) (subst (λ (B : Abs). Fits B) (flushed_is A) q) in
        let q6 = size7 o k os st i j up f g c q7 in
        let q6' = subst (λ (B : Abs). Fits B) (sym e6) q6 in
        let q5 = dg.back (F5 o k os st i j up f g c) q6' in
        let q4 = size5 o k os st i j up f g c q5 in
        let q4' = subst (λ (B : Abs). Fits B) (sym (step4 o k os st i j up f g c)) q4 in
        let q3 = back_add (instr (j 0)) (F3 o k os st i j up f g c) q4' in
        let q0 = back_add (instr (i 0)) (flush_a A) (B.guard_back i (up c) mu d A q3) in
        let z0 = F (U (guarding op sub b h)) in
        let z = D z0 in
        let r3 : Content tree c z (F3 o k os st i j up f g c) = md.keep (F3 o k os st i j up f g c) z0 q3 (B.guard_keep i (up c) ei mu d A h q3 r) in
        let r4 : Content tree c (guarding op' sub' b' z) (F4 o k os st i j up f g c) = subst (λ (B : Abs). Content tree c (guarding op' sub' b' z) B) (step4 o k os st i j up f g c) ((guards j ej).keep (F3 o k os st i j up f g c) z q4' r3) in
        let n1 = guard_place {A = A} {h = h} op sub b q0 r in
        let n2 : (L.emit_jump op' sub' b' z).0.index ≡ past (F3 o k os st i j up f g c).code 0 = guard_place {A = F3 o k os st i j up f g c} {h = z} op' sub' b' q3 r3 in
        let w = guarding op' sub' b' z in
        let r5 = land_at o k (X.code ++ (instr (j 0) ∷ [])) (instr (i 0)) (instr (i (suc M))) false os X.state w (lead_front ei (suc M) ∙ sym (lead_front ei 0)) (lead_back ei (suc M) ∙ sym (pos4 o k os st i j up f g c)) q4 r4 in
        let r5' = subst (λ (n : ℕ). Content tree c (L.place_target n w) (F5 o k os st i j up f g c)) (sym n1) r5 in
        let v = L.place_target (L.emit_jump op sub b h).0.index w in
        let r6 = subst (λ (B : Abs). Content tree c (K v) B) e6 (dg.keep (F5 o k os st i j up f g c) v q6' r5') in
        let r7 = land_at o (before o k os st i j up f g c) Y.code (instr (j 0)) (instr (j E)) false os Y.state (K v) (lead_front ej E ∙ sym (lead_front ej 0)) (lead_back ej E ∙ sym (pos6 o k os st i j up f g c)) q6 r6 in
        let n3 : (L.emit_jump op' sub' b' z).0.index ≡ past (before o k os st i j up f g c) 0 = n2 ∙ B.behind_is o k os st i (up c) f ∙ sym (pos_before o k os st i j up f g c) in
        let r8 = subst (λ (n : ℕ). Content tree c (L.place_target n (K v)) (F7 o k os st i j up f g c)) (sym n3) r7 in
        subst (λ (B : Abs). Content tree c (L.place_target (L.emit_jump op' sub' b' z).0.index (K v)) B) (whole o k os st i j up f g c ∙ sym (flushed_is A)) r8;
  }
    where
      flushed_is : (A : Abs) → let k = flushed_code A.wait A.code in run (fork i j up f g) c A ≡ mk A.outer (k ++ (instr (i (suc (m A.outer k A.open_calls A.state i j up f g c))) ∷ ((x A.outer k A.open_calls A.state i j up f g c).code ++ (instr (j (end A.outer k A.open_calls A.state i j up f g c)) ∷ (y A.outer k A.open_calls A.state i j up f g c).code)))) false A.open_calls (y A.outer k A.open_calls A.state i j up f g c).state
      flushed_is A = flush_is (λ v n s.
          let a = f (up v) false (suc n) (raise (up v) s) in
          let b = g v false (suc (past a.code (suc n))) a.state in
          emit (instr (i (suc (past a.code (suc n)))) ∷ (a.code ++ (instr (j (past b.code (suc (past a.code (suc n))))) ∷ b.code))) b.state) c A
