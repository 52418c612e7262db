-- Loops: LoopBegin or EachBegin, the body with its Breaks and Continues resolved, the way back, LoopEnd. Assumes nothing.
use Rattle.std.proofs.Common.{◌≡◌, refl, sym, ap, subst, ◌∙◌, true, false, List, [], ◌∷◌, ◌++◌, map, append_assoc, ℕ, suc, ◌+◌, ◌≤◌, arith, length, length-append}
use lib.ListN.{length-map}
use Rattle.program.specs.Instruction.{Instruction, loop_begin, loop_check, loop_end, each_begin}
use Rattle.program.specs.Counts.{Counts}
use Rattle.program.specs.Image.{word_of, word}
use Rattle.semantics.specs.Positions.{past}
use Rattle.semantics.proofs.Positions.{past_append, past_length, past_map}
use Rattle.semantics.specs.Run.{opens}
use Rattle.semantics.specs.State.{Item, instr, State, raise}
use Rattle.semantics.specs.Pieces.{Lowered, emit, Lowering, flush, put, aim, counted_loop}
use Rattle.workspace.specs.Counts.{one_more}
use Rattle.builder.specs.Segments as T
use Rattle.lowering.specs.Held.{Held}
use Rattle.lowering.specs.Parts as L
use Rattle.lowering.specs.Parts.{Step}
use Rattle.builder.specs.Steps.{still}
use Rattle.lowering.specs.Steps as Y
use Rattle.representation.proofs.Represents.{OpenCall, Abs, Fits, Content, Does, run}
use Rattle.representation.proofs.Laws.{loop_move, loop_left_lem}
use Rattle.representation.proofs.OpenCode.{back_add, back_code, flushed_code, flush_a, back_flush, flush_is}
use Rattle.representation.proofs.Targets.{mk, placed, land_at, aim_at, Leads, lead_front, lead_back, guarding, guard_place}
use Rattle.representation.proofs.Branches as B
use Rattle.representation.proofs.Branches.{instr_does}

pub loop_leads : Leads loop_begin 40 0 0
unfolding word_of
loop_leads = record { fields = λ t. refl }

pub each_leads : Leads each_begin 43 0 0
unfolding word_of
each_leads = record { fields = λ t. refl }

-- an instruction put where no Push waits
put_here : (i : Instruction) (c : Counts) (o k : List Item) (os : List OpenCall) (s : State) → run (put i) c (mk o k false os s) ≡ mk o (k ++ (instr i ∷ [])) false os s
unfolding flush
put_here i c o k os s = refl

module _ {tree : List ℕ} {c : Counts} where
  pub puts : (i : Instruction) {op sub a b : ℕ} → word_of i ≡ word op sub a b → (o k : List Item) (os : List OpenCall) (s : State) (h : Held) → Fits (mk o (k ++ (instr i ∷ [])) false os s) → Content tree c h (mk o k false os s) → Content tree c (L.instr op sub a b h) (mk o (k ++ (instr i ∷ [])) false os s)
  puts i {op} {sub} {a} {b} e o k os s h q r =
      let p = put_here i c o k os s in
      subst (λ (B : Abs). Content tree c (L.instr op sub a b h) B) p ((instr_does i e).keep (mk o k false os s) h (subst (λ (B : Abs). Fits B) (sym p) q) r)

-- less code, same state
pub shorter : (o k l : List Item) (os : List OpenCall) (s : State) → length k ≤ length l → Fits (mk o l false os s) → Fits (mk o k false os s)
shorter o k l os s e q = back_code (mk o k false os s) (mk o l false os s) refl refl (omega arith) q

-- ---- the counted loop

module _ (o k : List Item) (os : List OpenCall) (st : State) (f : Lowering) (c : Counts) where
  abbrev u : Counts
  u = opens true c

  abbrev x : Lowered
  x = B.x o k os st loop_begin u f

  abbrev check : ℕ
  check = past x.code (suc (past k 0))

  abbrev body : List Item
  body = map (aim check (suc check)) x.code

  -- the code up to the body, and from it on
  abbrev head : List Item
  head = k ++ (instr (loop_begin 0) ∷ [])

  abbrev tail : List Item
  tail = body ++ (instr (loop_check (suc (past k 0))) ∷ instr loop_end ∷ [])

  abbrev E6 : List Item
  E6 = ((head ++ body) ++ (instr (loop_check (suc (past k 0))) ∷ [])) ++ (instr loop_end ∷ [])

  head_at : suc (past k 0) ≡ past head 0
  head_at = sym (past_append k (instr (loop_begin 0) ∷ []) 0)

  joined : E6 ≡ k ++ (instr (loop_begin 0) ∷ tail)
  joined =
      append_assoc (head ++ body) (instr (loop_check (suc (past k 0))) ∷ []) (instr loop_end ∷ [])
      ∙ append_assoc head body (instr (loop_check (suc (past k 0))) ∷ instr loop_end ∷ [])
      ∙ append_assoc k (instr (loop_begin 0) ∷ []) tail

  at_end : past (k ++ (instr (loop_begin 0) ∷ tail)) 0 ≡ suc (suc check)
  at_end = past_append k (instr (loop_begin 0) ∷ tail) 0 ∙ past_append body (instr (loop_check (suc (past k 0))) ∷ instr loop_end ∷ []) (suc (past k 0)) ∙ ap (λ (n : ℕ). suc (suc n)) (past_map (aim check (suc check)) x.code (suc (past k 0)))

  abbrev final : List Item
  final = k ++ (instr (loop_begin (suc (suc check))) ∷ tail)

  sizes : (length (k ++ (instr (loop_begin 0) ∷ x.code)) ≤ length E6) × (length E6 ≡ length final)
  sizes =
      let j = ap length joined in
      let l1 = length-append k (instr (loop_begin 0) ∷ tail) in
      let l2 = length-append k (instr (loop_begin 0) ∷ x.code) in
      let l3 = length-append k (instr (loop_begin (suc (suc check))) ∷ tail) in
      let l4 = length-append body (instr (loop_check (suc (past k 0))) ∷ instr loop_end ∷ []) in
      let l5 = length-map x.code (aim check (suc check)) in
      (omega arith, omega arith)

  fit3 : Fits (mk o final false os x.state) → Fits (B.G3 o k os st loop_begin u f)
  fit3 q = let z = sizes in shorter o (k ++ (instr (loop_begin 0) ∷ x.code)) final os x.state (omega arith) q

module _ {tree : List ℕ} (c : Counts) where
  loop_keep : (o k : List Item) (os : List OpenCall) (st : State) (f : Lowering) (at : ℕ) (h : Held) → at ≡ past k 0 → Fits (mk o (final o k os st f c) false os (x o k os st f c).state)
      → Content tree (opens true c) h (B.G3 o k os st loop_begin (opens true c) f) → Content tree (opens true c) (L.loop_closed at h) (mk o (final o k os st f c) false os (x o k os st f c).state)
  unfolding L.loop_closed word_of
  loop_keep o k os st f at h ea q r =
      let X = x o k os st f c in
      let ck = check o k os st f c in
      let bd = body o k os st f c in
      let hd = head o k os st f c in
      let lc = instr (loop_check (suc (past k 0))) in
      let z = sizes o k os st f c in
      let q3 = fit3 o k os st f c q in
      let fc = q.code in
      let l1 = length-append k (instr (loop_begin (suc (suc ck))) ∷ tail o k os st f c) in
      let pk = past_length k in
      let e3 : k ++ (instr (loop_begin 0) ∷ X.code) ≡ hd ++ X.code = sym (append_assoc k (instr (loop_begin 0) ∷ []) X.code) in
      let p3 : L.place h.0 ≡ ck = placed r ∙ B.behind_is o k os st loop_begin (opens true c) f in
      let r3 : Content tree (opens true c) h (mk o (hd ++ X.code) false os X.state) = subst (λ (l : List Item). Content tree (opens true c) h (mk o l false os X.state)) e3 r in
      let q3' : Fits (mk o (hd ++ X.code) false os X.state) = subst (λ (l : List Item). Fits (mk o l false os X.state)) e3 q3 in
      let pl = L.place h.0 in
      let g : Held = (h.0, T.breaks_resolved h.0 (one_more at) pl (pl + 1) h.1) in
      let e4 : pl + 1 ≡ suc ck = omega (arith, p3) in
      let r4 : Content tree (opens true c) g (mk o (hd ++ bd) false os X.state) =
      subst (λ (n : ℕ). Content tree (opens true c) (h.0, T.breaks_resolved h.0 (one_more at) n (pl + 1) h.1) (mk o (hd ++ bd) false os X.state)) (sym p3)
      (subst (λ (n : ℕ). Content tree (opens true c) (h.0, T.breaks_resolved h.0 (one_more at) ck n h.1) (mk o (hd ++ bd) false os X.state)) (sym e4)
      (aim_at o hd X.code false os X.state h (one_more at) ck (suc ck) (let ha = head_at o k os st f c in omega (arith, ha, ea, pk, fc, l1)) q3' r3)) in
      let q6 : Fits (mk o (E6 o k os st f c) false os X.state) = shorter o (E6 o k os st f c) (final o k os st f c) os X.state (omega arith) q in
      let q5 : Fits (mk o ((hd ++ bd) ++ (lc ∷ [])) false os X.state) = shorter o ((hd ++ bd) ++ (lc ∷ [])) (E6 o k os st f c) os X.state (omega (arith, length-append ((hd ++ bd) ++ (lc ∷ [])) (instr loop_end ∷ []))) q6 in
      let r5 = puts (loop_check (suc (past k 0))) (let e : at + 1 ≡ suc (past k 0) = omega arith in rw e) o (hd ++ bd) os X.state g q5 r4 in
      let r6 = puts loop_end refl o ((hd ++ bd) ++ (lc ∷ [])) os X.state (L.instr 41 0 (at + 1) 0 g) q6 r5 in
      let w = L.instr 42 0 0 0 (L.instr 41 0 (at + 1) 0 g) in
      let j = joined o k os st f c in
      let r7 = land_at o k (tail o k os st f c) (instr (loop_begin 0)) (instr (loop_begin (suc (suc ck)))) false os X.state w (lead_front loop_leads (suc (suc ck)) ∙ sym (lead_front loop_leads 0)) (lead_back loop_leads (suc (suc ck)) ∙ sym (at_end o k os st f c)) (subst (λ (l : List Item). Fits (mk o l false os X.state)) j q6) (subst (λ (l : List Item). Content tree (opens true c) w (mk o l false os X.state)) j r6) in
      subst (λ (n : ℕ). Content tree (opens true c) (L.place_target n w) (mk o (final o k os st f c) false os X.state)) (sym ea) r7

module _ {tree : List ℕ} {c : Counts} where
  pub loop_does : {f : Lowering} {F : Step} → Does tree f (opens true c) F
      → Does tree (counted_loop f) c (λ h. still (λ s. Y.loop_left (Y.popped 1 s)) (L.loop_closed (L.emit_jump 40 0 0 h).0.index (F (still (λ s. Y.loop_entered (Y.operand_entered s)) (guarding 40 0 0 h)))))
  loop_does {f} {F} d = record {
    back = λ A q.
        let k = flushed_code A.wait A.code in
        back_flush A (back_add (instr (loop_begin 0)) (flush_a A) (B.guard_back loop_begin (opens true c) loop_move d A (fit3 A.outer k A.open_calls A.state f c (subst (λ (B : Abs). Fits B) (whole A) q))));
    keep = λ A h q r.
        let k = flushed_code A.wait A.code in
        let q7 = subst (λ (B : Abs). Fits B) (whole A) q in
        let q3 = fit3 A.outer k A.open_calls A.state f c q7 in
        let q0 = back_add (instr (loop_begin 0)) (flush_a A) (B.guard_back loop_begin (opens true c) loop_move d A q3) in
        let z = F (still (λ s. Y.loop_entered (Y.operand_entered s)) (guarding 40 0 0 h)) in
        let r3 = B.guard_keep loop_begin (opens true c) loop_leads loop_move d A h q3 r in
        let r7 = loop_keep c A.outer k A.open_calls A.state f (L.emit_jump 40 0 0 h).0.index z (guard_place {A = A} {h = h} 40 0 0 q0 r) q7 r3 in
        subst (λ (B : Abs). Content tree c (still (λ s. Y.loop_left (Y.popped 1 s)) (L.loop_closed (L.emit_jump 40 0 0 h).0.index z)) B) (sym (whole A)) (loop_left_lem.keep _ (L.loop_closed (L.emit_jump 40 0 0 h).0.index z) q7 r7);
  }
    where
      whole : (A : Abs) → let k = flushed_code A.wait A.code in run (counted_loop f) c A ≡ mk A.outer (k ++ (instr (loop_begin (suc (suc (check A.outer k A.open_calls A.state f c)))) ∷ tail A.outer k A.open_calls A.state f c)) false A.open_calls (x A.outer k A.open_calls A.state f c).state
      whole A = flush_is (λ v n s.
          let a = f (opens true v) false (suc n) (raise (opens true v) s) in
          let b = past a.code (suc n) in
          emit (instr (loop_begin (suc (suc b))) ∷ (map (aim b (suc b)) a.code ++ (instr (loop_check (suc n)) ∷ instr loop_end ∷ []))) a.state) c A
