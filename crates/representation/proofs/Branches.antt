-- One law for each way of branching: a guard, two branches, breaks. Assumes nothing.
use Rattle.std.proofs.Common.{rules, ◌≡◌, refl, sym, subst, ◌∙◌, Bool, true, false, cond, List, [], ◌∷◌, ◌++◌, append_assoc, ℕ, suc, arith, length-append}
use Rattle.program.specs.Instruction.{Instruction, Guard, guard, plain, const, push_const, halt}
use Rattle.program.specs.Counts.{Counts}
use Rattle.program.specs.Image.{word_of, Word, word}
use Rattle.semantics.specs.Positions.{past}
use Rattle.semantics.proofs.Positions.{past_append}
use Rattle.semantics.specs.State.{Item, instr, State, raise}
use Rattle.semantics.specs.Pieces.{Lowered, emit, Lowering, flush, put, put_const, guarded, jumps}
use Rattle.builder.specs.Fields.{set_waiting}
use Rattle.builder.specs.Steps as W
use Rattle.lowering.specs.Held.{Held}
use Rattle.lowering.specs.Parts as L
use Rattle.lowering.specs.Parts.{Step, front}
use Rattle.representation.proofs.Represents.{front_of, back_of, OpenCall, Abs, Fits, Content, Moves, Does, run, on_state}
use Rattle.representation.proofs.Laws.{waits, ends}
use Rattle.representation.proofs.OpenCode.{add_item, back_add, back_code, emits, flushed_code, flush_a, back_flush, flush_is, item_does, put_does, stopped}
use Rattle.representation.proofs.Targets.{mk, land_at, Leads, lead_front, lead_back, guarding, guards, guard_place}

-- an instruction of these fields
pub instr_does : {tree : List ℕ} {c : Counts} (i : Instruction) {op sub a b : ℕ} → word_of i ≡ word op sub a b → Does tree (put i) c (L.instr op sub a b)
unfolding L.instr
instr_does {tree} {c} i {op} {sub} {a} {b} e = subst (λ (w : Word). Does tree (put i) c (W.put (front w.opcode w.sub w.b) w.a)) e (put_does i)

-- ---- Break and Continue

pub jump_out_lem : {tree : List ℕ} {c : Counts} (x : Item) (waits l : Bool) {w : ℕ} → front_of x ≡ w → back_of x ≡ 0 → Does tree (jumps x l) c (L.jump_out w l)
unfolding jumps L.jump_out W.put word_of
jump_out_lem {tree} {c} x b true {w} e d = subst (λ (v : ℕ). Does tree (λ k. flush λ n s. emit (x ∷ []) s) c (λ h. W.emitted v 0 (W.flushed h))) e (subst (λ (v : ℕ). Does tree (λ k. flush λ n s. emit (x ∷ []) s) c (λ h. W.emitted (front_of x) v (W.flushed h))) d (item_does x))
jump_out_lem {tree} {c} x b false e d = instr_does halt refl

-- ---- a constant

abbrev const_item : Bool → ℕ → Item
const_item true k = instr (push_const k)
const_item false k = instr (plain (const k))

abbrev const_a : Bool → ℕ → Abs → Abs
const_a b k A = record { outer = A.outer; code = A.code ++ (const_item b k ∷ []); wait = false; open_calls = A.open_calls; state = A.state }

const_same : (k : ℕ) (c : Counts) (b : Bool) (A : Abs) → const_a b k A ≡ record { outer = A.outer; code = A.code ++ (put_const k c b (past A.code 0) A.state).code; wait = false; open_calls = A.open_calls; state = (put_const k c b (past A.code 0) A.state).state }
unfolding put_const
const_same k c true A = refl
const_same k c false A = refl

const_run : (k : ℕ) (c : Counts) (b : Bool) (A : Abs) → A.wait ≡ b → const_a b k A ≡ run (put_const k) c A
const_run k c b A e = subst (λ (w : Bool). const_a w k A ≡ run (put_const k) c A) e (const_same k c A.wait A)

const_keep : {tree : List ℕ} {c : Counts} (k : ℕ) (b : Bool) (A : Abs) (h : Held) → h.0.code.waiting ≡ b → Fits (const_a b k A) → Content tree c h A
    → Content tree c (cond b (W.emitted 0x0e00_0000 k (set_waiting false h.0, h.1)) (W.emitted 0x0100_0000 k h)) (const_a b k A)
unfolding word_of
const_keep {tree} {c} k true A h e f r = (emits {tree = tree} {c = c} (const_item true k)).keep (waits false A) (set_waiting false h.0, h.1) f (stopped A h r)
const_keep {tree} {c} k false A h e f r =
    let r0 : Content tree c h (waits false A) = search rules in
    (emits {tree = tree} {c = c} (const_item false k)).keep (waits false A) h f r0

pub const_does : {tree : List ℕ} {c : Counts} (k : ℕ) → Does tree (put_const k) c (W.put_const k)
unfolding W.put_const
const_does {tree} {c} k = ends _ (λ A. const_run k c A.wait A refl) (record {
  back = λ A f. back_code A (const_a A.wait k A) refl refl (omega (arith, length-append A.code (const_item A.wait k ∷ []))) f;
  keep = λ A h f r. let e = r.tables.code_held.waiting_is in subst (λ (w : Bool). Content tree c (cond w (W.emitted 0x0e00_0000 k (set_waiting false h.0, h.1)) (W.emitted 0x0100_0000 k h)) (const_a A.wait k A)) (sym e) (const_keep k A.wait A h e f r);
})

-- ---- a guard

module _ (o k : List Item) (os : List OpenCall) (st : State) (i : ℕ → Instruction) (u : Counts) (f : Lowering) where
  abbrev pub x : Lowered
  x = f u false (suc (past k 0)) (raise u st)

  abbrev pub behind : ℕ
  behind = past x.code (suc (past k 0))

  abbrev pub G1 : Abs
  G1 = mk o (k ++ (instr (i 0) ∷ [])) false os st

  abbrev pub G2 : Abs
  G2 = mk o (k ++ (instr (i 0) ∷ [])) false os (raise u st)

  abbrev pub G3 : Abs
  G3 = mk o (k ++ (instr (i 0) ∷ x.code)) false os x.state

  pub step3 : run f u G2 ≡ G3
  step3 = rw (past_append k (instr (i 0) ∷ []) 0, append_assoc k (instr (i 0) ∷ []))

  pub behind_is : past (k ++ (instr (i 0) ∷ x.code)) 0 ≡ behind
  behind_is = past_append k (instr (i 0) ∷ x.code) 0

  pub same_size : (t : ℕ) → Fits (mk o (k ++ (instr (i t) ∷ x.code)) false os x.state) → Fits G3
  same_size t q = back_code G3 (mk o (k ++ (instr (i t) ∷ x.code)) false os x.state) refl refl (omega (arith, length-append k (instr (i t) ∷ x.code), length-append k (instr (i 0) ∷ x.code))) q

module _ {tree : List ℕ} {c : Counts} where
  -- from before the guard up to behind what it guards, the target still open
  pub guard_back : (i : ℕ → Instruction) (u : Counts) {f : Lowering} {F U : Step} → Moves tree (on_state (raise u)) c u U → Does tree f u F → (A : Abs)
      → let K = flushed_code A.wait A.code in Fits (G3 A.outer K A.open_calls A.state i u f) → Fits (add_item (instr (i 0)) (flush_a A))
  guard_back i u {f} mu d A q =
      let K = flushed_code A.wait A.code in
      mu.back (G1 A.outer K A.open_calls A.state i u f) (d.back (G2 A.outer K A.open_calls A.state i u f) (subst (λ (B : Abs). Fits B) (sym (step3 A.outer K A.open_calls A.state i u f)) q))

  pub guard_keep : (i : ℕ → Instruction) (u : Counts) {f : Lowering} {F U : Step} {op sub b : ℕ} → Leads i op sub b → Moves tree (on_state (raise u)) c u U → Does tree f u F → (A : Abs) (h : Held)
      → let K = flushed_code A.wait A.code in Fits (G3 A.outer K A.open_calls A.state i u f) → Content tree c h A → Content tree u (F (U (guarding op sub b h))) (G3 A.outer K A.open_calls A.state i u f)
  guard_keep i u {f} {F} {U} {op} {sub} {b} e mu d A h q r =
      let K = flushed_code A.wait A.code in
      let e3 = step3 A.outer K A.open_calls A.state i u f in
      let q3 = subst (λ (B : Abs). Fits B) (sym e3) q in
      let q2 = d.back (G2 A.outer K A.open_calls A.state i u f) q3 in
      let q1 = mu.back (G1 A.outer K A.open_calls A.state i u f) q2 in
      let r1 = (guards i e).keep A h q1 r in
      let r2 = mu.keep (G1 A.outer K A.open_calls A.state i u f) (guarding op sub b h) q2 r1 in
      subst (λ (B : Abs). Content tree u (F (U (guarding op sub b h))) B) e3 (d.keep (G2 A.outer K A.open_calls A.state i u f) (U (guarding op sub b h)) q3 r2)

  pub guarded_does : (g : Guard) (up : Counts → Counts) {f : Lowering} {F U D : Step} {op sub b : ℕ} → Leads (guard g) op sub b → Moves tree (on_state (raise (up c))) c (up c) U → Does tree f (up c) F → Moves tree (λ A. A) (up c) c D
      → Does tree (guarded g up f) c (λ h. L.place_target (L.emit_jump op sub b h).0.index (D (F (U (guarding op sub b h)))))
  guarded_does g up {f} {F} {U} {D} {op} {sub} {b} e mu d md = record {
    back = λ A q.
        let K = flushed_code A.wait A.code in
        let t = behind A.outer K A.open_calls A.state (guard g) (up c) f in
        back_flush A (back_add (instr (guard g 0)) (flush_a A) (guard_back (guard g) (up c) mu d A (same_size A.outer K A.open_calls A.state (guard g) (up c) f t (subst (λ (B : Abs). Fits B) (whole A) q))));
    keep = λ A h q r.
        let K = flushed_code A.wait A.code in
        let t = behind A.outer K A.open_calls A.state (guard g) (up c) f in
        let X = x A.outer K A.open_calls A.state (guard g) (up c) f in
        let q3 = same_size A.outer K A.open_calls A.state (guard g) (up c) f t (subst (λ (B : Abs). Fits B) (whole A) q) in
        let q0 = back_add (instr (guard g 0)) (flush_a A) (guard_back (guard g) (up c) mu d A q3) in
        let y = D (F (U (guarding op sub b h))) in
        let r3 = md.keep (G3 A.outer K A.open_calls A.state (guard g) (up c) f) (F (U (guarding op sub b h))) q3 (guard_keep (guard g) (up c) e mu d A h q3 r) in
        let r4 = land_at A.outer K X.code (instr (guard g 0)) (instr (guard g t)) false A.open_calls X.state y (lead_front e t ∙ sym (lead_front e 0)) (lead_back e t ∙ sym (behind_is A.outer K A.open_calls A.state (guard g) (up c) f)) q3 r3 in
        subst (λ (B : Abs). Content tree c (L.place_target (L.emit_jump op sub b h).0.index y) B) (sym (whole A))
        (subst (λ (n : ℕ). Content tree c (L.place_target n y) (mk A.outer (K ++ (instr (guard g t) ∷ X.code)) false A.open_calls X.state)) (sym (guard_place op sub b q0 r)) r4);
  }
    where
      whole : (A : Abs) → let K = flushed_code A.wait A.code in run (guarded g up f) c A ≡ mk A.outer (K ++ (instr (guard g (behind A.outer K A.open_calls A.state (guard g) (up c) f)) ∷ (x A.outer K A.open_calls A.state (guard g) (up c) f).code)) false A.open_calls (x A.outer K A.open_calls A.state (guard g) (up c) f).state
      whole A = flush_is (λ k n s. let z = f (up k) false (suc n) (raise (up k) s) in emit (instr (guard g (past z.code (suc n))) ∷ z.code) z.state) c A
