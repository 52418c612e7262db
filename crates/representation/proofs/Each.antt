-- ForEach: EachBegin, EachNext, the body with its Breaks and Continues resolved, the Jump back, LoopEnd. Assumes nothing.
use Rattle.std.proofs.Common.{◌≡◌, refl, sym, ap, subst, ◌∙◌, false, List, [], ◌∷◌, ◌++◌, map, append_assoc, ℕ, suc, ◌+◌, arith, length, length-append}
use lib.ListN.{length-map}
use Rattle.program.specs.Instruction.{EachNext, loop_end, each_begin, each_next, jump}
use Rattle.program.specs.Counts.{Counts}
use Rattle.program.specs.Image.{word_of}
use Rattle.semantics.specs.Positions.{past}
use Rattle.semantics.proofs.Positions.{past_append, past_length, past_map}
use Rattle.semantics.specs.Run.{opens}
use Rattle.semantics.specs.State.{Item, instr, State, raise}
use Rattle.semantics.specs.Pieces.{Lowered, emit, Lowering, aim, eached}
use Rattle.workspace.specs.Counts.{one_more}
use Rattle.builder.specs.Segments as T
use Rattle.lowering.specs.Held.{Held}
use Rattle.lowering.specs.Parts as L
use Rattle.lowering.specs.Parts.{Step}
use Rattle.builder.specs.Steps.{still}
use Rattle.lowering.specs.Steps as Y
use Rattle.representation.proofs.Represents.{OpenCall, Abs, Fits, Content, Does, run}
use Rattle.representation.proofs.Laws.{each_move, each_left}
use Rattle.representation.proofs.OpenCode.{add_item, back_add, flushed_code, flush_a, back_flush, flush_is}
use Rattle.representation.proofs.Targets.{mk, placed, land_at, aim_at, Leads, lead_front, lead_back, guarding, guards, guard_place}
use Rattle.representation.proofs.Loops.{each_leads, puts, shorter}

module _ (o k : List Item) (os : List OpenCall) (st : State) (i : EachNext) (f : Lowering) (c : Counts) where
  abbrev u : Counts
  u = opens false c

  abbrev n : ℕ
  n = past k 0

  abbrev begin : ℕ → Item
  begin t = instr (each_begin t)

  abbrev next : ℕ → Item
  next t = instr (each_next i t)

  -- EachBegin, then EachNext
  abbrev H1 : List Item
  H1 = k ++ (begin 0 ∷ [])

  abbrev H2 : List Item
  H2 = H1 ++ (next 0 ∷ [])

  abbrev x : Lowered
  x = f u false (suc (suc n)) (raise u st)

  abbrev back : ℕ
  back = past x.code (suc (suc n))

  abbrev body : List Item
  body = map (aim (suc n) (suc back)) x.code

  abbrev tail : List Item
  tail = body ++ (instr (jump (suc n)) ∷ instr loop_end ∷ [])

  at_h1 : past H1 0 ≡ suc n
  at_h1 = past_append k (begin 0 ∷ []) 0

  at_h2 : past H2 0 ≡ suc (suc n)
  at_h2 = past_append H1 (next 0 ∷ []) 0 ∙ ap suc at_h1

  step3 : run f u (mk o H2 false os (raise u st)) ≡ mk o (H2 ++ x.code) false os x.state
  step3 = ap (λ (p : ℕ). let z = f u false p (raise u st) in mk o (H2 ++ z.code) false os z.state) at_h2

  at_3 : past (H2 ++ x.code) 0 ≡ back
  at_3 = past_append H2 x.code 0 ∙ ap (λ (p : ℕ). past x.code p) at_h2

  -- behind the Jump: EachNext's target
  abbrev J : List Item
  J = (H2 ++ body) ++ (instr (jump (suc n)) ∷ [])

  split_j : (t : ℕ) → (H1 ++ (next t ∷ [])) ++ (body ++ (instr (jump (suc n)) ∷ [])) ≡ H1 ++ (next t ∷ (body ++ (instr (jump (suc n)) ∷ [])))
  split_j t = append_assoc H1 (next t ∷ []) (body ++ (instr (jump (suc n)) ∷ []))

  j_is : J ≡ H1 ++ (next 0 ∷ (body ++ (instr (jump (suc n)) ∷ [])))
  j_is = append_assoc H2 body (instr (jump (suc n)) ∷ []) ∙ split_j 0

  at_j : past (H1 ++ (next 0 ∷ (body ++ (instr (jump (suc n)) ∷ [])))) 0 ≡ suc back
  at_j = ap (λ (l : List Item). past l 0) (sym j_is) ∙ past_append (H2 ++ body) (instr (jump (suc n)) ∷ []) 0 ∙ ap suc (past_append H2 body 0 ∙ ap (λ (p : ℕ). past body p) at_h2 ∙ past_map (aim (suc n) (suc back)) x.code (suc (suc n)))

  abbrev J' : List Item
  J' = H1 ++ (next (suc back) ∷ (body ++ (instr (jump (suc n)) ∷ [])))

  -- behind LoopEnd: EachBegin's target
  abbrev Z : List Item
  Z = J' ++ (instr loop_end ∷ [])

  z_is : Z ≡ k ++ (begin 0 ∷ (next (suc back) ∷ tail))
  z_is =
      append_assoc H1 (next (suc back) ∷ (body ++ (instr (jump (suc n)) ∷ []))) (instr loop_end ∷ [])
      ∙ ap (λ (l : List Item). H1 ++ (next (suc back) ∷ l)) (append_assoc body (instr (jump (suc n)) ∷ []) (instr loop_end ∷ []))
      ∙ append_assoc k (begin 0 ∷ []) (next (suc back) ∷ tail)

  len_j : length J' ≡ length J
  len_j = let a = ap length j_is in let b = length-append H1 (next 0 ∷ (body ++ (instr (jump (suc n)) ∷ []))) in let d = length-append H1 (next (suc back) ∷ (body ++ (instr (jump (suc n)) ∷ []))) in omega arith

  at_z : past (k ++ (begin 0 ∷ (next (suc back) ∷ tail))) 0 ≡ suc (suc back)
  at_z =
      let p = past_length Z in
      let q = past_length (H1 ++ (next 0 ∷ (body ++ (instr (jump (suc n)) ∷ [])))) in
      let a = at_j in
      let l = length-append J' (instr loop_end ∷ []) in
      let b = len_j in
      let d = ap length j_is in
      ap (λ (l : List Item). past l 0) (sym z_is) ∙ omega arith

  abbrev final : List Item
  final = k ++ (begin (suc (suc back)) ∷ (next (suc back) ∷ tail))

  len_final : length final ≡ length Z
  len_final = let a = ap length z_is in let b = length-append k (begin 0 ∷ (next (suc back) ∷ tail)) in let d = length-append k (begin (suc (suc back)) ∷ (next (suc back) ∷ tail)) in omega arith

  fit_z : Fits (mk o final false os x.state) → Fits (mk o Z false os x.state)
  fit_z q = let a = len_final in shorter o Z final os x.state (omega arith) q

  fit_j : Fits (mk o final false os x.state) → Fits (mk o J' false os x.state)
  fit_j q = let b = length-append J' (instr loop_end ∷ []) in shorter o J' Z os x.state (omega arith) (fit_z q)

  fit_j0 : Fits (mk o final false os x.state) → Fits (mk o J false os x.state)
  fit_j0 q = let b = len_j in shorter o J J' os x.state (omega arith) (fit_j q)

  fit_3 : Fits (mk o final false os x.state) → Fits (mk o (H2 ++ x.code) false os x.state)
  fit_3 q =
      let a = length-append (H2 ++ body) (instr (jump (suc n)) ∷ []) in
      let b = length-append H2 body in
      let d = length-append H2 x.code in
      let e = length-map x.code (aim (suc n) (suc back)) in
      shorter o (H2 ++ x.code) J os x.state (omega arith) (fit_j0 q)

module _ {tree : List ℕ} (c : Counts) where
  each_keep : (o k : List Item) (os : List OpenCall) (st : State) (i : EachNext) (f : Lowering) {op v : ℕ} → Leads (each_next i) op 0 v → (at to : ℕ) (h : Held) → at ≡ past k 0 → to ≡ suc (past k 0)
      → Fits (mk o (final o k os st i f c) false os (x o k os st i f c).state)
      → Content tree (opens false c) h (mk o (H2 o k os st i f c ++ (x o k os st i f c).code) false os (x o k os st i f c).state)
      → Content tree (opens false c) (L.each_closed at to h) (mk o (final o k os st i f c) false os (x o k os st i f c).state)
  unfolding L.each_closed word_of
  each_keep o k os st i f ei at to h ea et q r =
      let X = x o k os st i f c in
      let s = X.state in
      let bk = back o k os st i f c in
      let bd = body o k os st i f c in
      let h2 = H2 o k os st i f c in
      let pl = L.place h.0 in
      let pp : pl ≡ bk = placed r ∙ at_3 o k os st i f c in
      let e4 : pl + 1 ≡ suc bk = omega (arith, pp) in
      let fc = (fit_3 o k os st i f c q).code in
      let l2 = length-append h2 X.code in
      let l1 = length-append (H1 o k os st i f c) (instr (each_next i 0) ∷ []) in
      let l0 = length-append k (instr (each_begin 0) ∷ []) in
      let pk = past_length k in
      let a2 = at_h2 o k os st i f c in
      let g : Held = (h.0, T.breaks_resolved h.0 (one_more to) to (pl + 1) h.1) in
      let r4 : Content tree (opens false c) g (mk o (h2 ++ bd) false os s) =
      subst (λ (m : ℕ). Content tree (opens false c) (h.0, T.breaks_resolved h.0 (one_more to) m (pl + 1) h.1) (mk o (h2 ++ bd) false os s)) (sym et)
      (subst (λ (m : ℕ). Content tree (opens false c) (h.0, T.breaks_resolved h.0 (one_more to) (suc (past k 0)) m h.1) (mk o (h2 ++ bd) false os s)) (sym e4)
      (aim_at o h2 X.code false os s h (one_more to) (suc (past k 0)) (suc bk) (omega (arith, a2, et, pk, fc, l2, l1, l0)) (fit_3 o k os st i f c q) r)) in
      let r5 = puts (jump (suc (past k 0))) (rw et) o (h2 ++ bd) os s g (fit_j0 o k os st i f c q) r4 in
      let w5 = L.instr 32 0 to 0 g in
      let j = j_is o k os st i f c in
      let r6 = land_at o (H1 o k os st i f c) (bd ++ (instr (jump (suc (past k 0))) ∷ [])) (instr (each_next i 0)) (instr (each_next i (suc bk))) false os s w5 (lead_front ei (suc bk) ∙ sym (lead_front ei 0)) (lead_back ei (suc bk) ∙ sym (at_j o k os st i f c)) (subst (λ (l : List Item). Fits (mk o l false os s)) j (fit_j0 o k os st i f c q)) (subst (λ (l : List Item). Content tree (opens false c) w5 (mk o l false os s)) j r5) in
      let r6' = subst (λ (m : ℕ). Content tree (opens false c) (L.place_target m w5) (mk o (J' o k os st i f c) false os s)) (at_h1 o k os st i f c ∙ sym et) r6 in
      let w6 = L.place_target to w5 in
      let r7 = puts loop_end refl o (J' o k os st i f c) os s w6 (fit_z o k os st i f c q) r6' in
      let w7 = L.instr 42 0 0 0 w6 in
      let z = z_is o k os st i f c in
      let r8 = land_at o k (instr (each_next i (suc bk)) ∷ tail o k os st i f c) (instr (each_begin 0)) (instr (each_begin (suc (suc bk)))) false os s w7 (lead_front each_leads (suc (suc bk)) ∙ sym (lead_front each_leads 0)) (lead_back each_leads (suc (suc bk)) ∙ sym (at_z o k os st i f c)) (subst (λ (l : List Item). Fits (mk o l false os s)) z (fit_z o k os st i f c q)) (subst (λ (l : List Item). Content tree (opens false c) w7 (mk o l false os s)) z r7) in
      subst (λ (m : ℕ). Content tree (opens false c) (L.place_target m w7) (mk o (final o k os st i f c) false os s)) (sym ea) r8

module _ {tree : List ℕ} {c : Counts} where
  pub each_does : (i : EachNext) {f : Lowering} {F : Step} {op v : ℕ} → Leads (each_next i) op 0 v → Does tree f (opens false c) F
      → Does tree (eached i f) c (λ h.
      let g = guarding 43 0 0 h in
      still Y.loop_left (L.each_closed (L.emit_jump 43 0 0 h).0.index (L.emit_jump op 0 v g).0.index (F (still Y.loop_entered (guarding op 0 v g)))))
  unfolding flushed_code
  each_does i {f} {F} {op} {v} ei d = record {
    back = λ A q.
        let k = flushed_code A.wait A.code in
        let o = A.outer in
        let os = A.open_calls in
        let st = A.state in
        back_flush A (back_add (instr (each_begin 0)) (flush_a A) (back_add (instr (each_next i 0)) (add_item (instr (each_begin 0)) (flush_a A)) (up A (subst (λ (B : Abs). Fits B) (whole A) q))));
    keep = λ A h q r.
        let k = flushed_code A.wait A.code in
        let o = A.outer in
        let os = A.open_calls in
        let st = A.state in
        let q8 = subst (λ (B : Abs). Fits B) (whole A) q in
        let A1 = add_item (instr (each_begin 0)) (flush_a A) in
        let A2 = add_item (instr (each_next i 0)) A1 in
        let q2 = up A q8 in
        let q1 = back_add (instr (each_next i 0)) A1 q2 in
        let q0 = back_add (instr (each_begin 0)) (flush_a A) q1 in
        let e3 = step3 o k os st i f c in
        let q3 = subst (λ (B : Abs). Fits B) (sym e3) (fit_3 o k os st i f c q8) in
        let g1 = guarding 43 0 0 h in
        let g2 = guarding op 0 v g1 in
        let r1 = (guards each_begin each_leads).keep A h q1 r in
        let r2 = (guards (each_next i) ei).keep A1 g1 q2 r1 in
        let n1 = guard_place {A = A} {h = h} 43 0 0 q0 r in
        let n2 : (L.emit_jump op 0 v g1).0.index ≡ suc (past k 0) = guard_place {A = A1} {h = g1} op 0 v q1 r1 ∙ at_h1 o k os st i f c in
        let z = F (still Y.loop_entered g2) in
        let r3 = each_move.keep A2 g2 (d.back _ q3) r2 in
        let r4 = subst (λ (B : Abs). Content tree (opens false c) z B) e3 (d.keep _ (still Y.loop_entered g2) q3 r3) in
        let r8 = each_keep c o k os st i f ei (L.emit_jump 43 0 0 h).0.index (L.emit_jump op 0 v g1).0.index z n1 n2 q8 r4 in
        let y = L.each_closed (L.emit_jump 43 0 0 h).0.index (L.emit_jump op 0 v g1).0.index z in
        subst (λ (B : Abs). Content tree c (still Y.loop_left y) B) (sym (whole A)) (each_left.keep _ y q8 r8);
  }
    where
      whole : (A : Abs) → let k = flushed_code A.wait A.code in run (eached i f) c A ≡ mk A.outer (final A.outer k A.open_calls A.state i f c) false A.open_calls (x A.outer k A.open_calls A.state i f c).state
      whole A = flush_is (λ v n s.
          let a = f (opens false v) false (suc (suc n)) (raise (opens false v) s) in
          let b = past a.code (suc (suc n)) in
          emit (instr (each_begin (suc (suc b))) ∷ instr (each_next i (suc b)) ∷ (map (aim (suc n) (suc b)) a.code ++ (instr (jump (suc n)) ∷ instr loop_end ∷ []))) a.state) c A

      up : (A : Abs) → let k = flushed_code A.wait A.code in Fits (mk A.outer (final A.outer k A.open_calls A.state i f c) false A.open_calls (x A.outer k A.open_calls A.state i f c).state) → Fits (add_item (instr (each_next i 0)) (add_item (instr (each_begin 0)) (flush_a A)))
      up A q =
          let k = flushed_code A.wait A.code in
          (each_move {tree = tree} {c = c}).back (add_item (instr (each_next i 0)) (add_item (instr (each_begin 0)) (flush_a A))) (d.back (mk A.outer (H2 A.outer k A.open_calls A.state i f c) false A.open_calls (raise (opens false c) A.state)) (subst (λ (B : Abs). Fits B) (sym (step3 A.outer k A.open_calls A.state i f c)) (fit_3 A.outer k A.open_calls A.state i f c q)))
