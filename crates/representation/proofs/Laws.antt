-- Steps put together, and steps beside the words: the waiting Push, counters, flags, refusals. Assumes nothing.
use Rattle.std.proofs.Common.{rules, Option, None, Some, ◌≡◌, refl, sym, subst, Bool, true, false, List, append_assoc, ℕ, ◌+◌}
use Rattle.std.specs.Option.{option_or}
use Rattle.answers.specs.Refusals.{number_of, number_of_first}
use Rattle.answers.specs.declared.refusals.Refusal.{Refusal}
use Rattle.answers.specs.declared.refusals.Refusal.TheVariants.{SmallWorkspace}
use Rattle.program.specs.Counts.{Counts}
use Rattle.semantics.proofs.Positions.{past_append}
use Rattle.semantics.specs.Run.{operand+, handler+, opens}
use Rattle.semantics.specs.State.{Flags, set_flags, raise, fail, first}
use Rattle.semantics.specs.Pieces.{Lowering, ◌⨾◌, pushed, flagged}
use Rattle.lowering.specs.Held as B
use Rattle.builder.specs.Steps as W
use Rattle.lowering.specs.Held.{Held}
use Rattle.lowering.specs.Steps as L
use Rattle.lowering.specs.Parts.{Step}
use Rattle.builder.specs.Steps.{still}
use Rattle.representation.proofs.Represents.{Abs, Fits, Content, Moves, Ends, Does, run, on_state}

-- ---- putting together

module _ {tree : List ℕ} where
  pub ends : (f : Lowering) {c d : Counts} {G : Abs → Abs} {F : Step} → ((A : Abs) → G A ≡ run f c A) → Moves tree G c d F → Ends tree f c d F
  ends f {c} {d} {G} {F} e m = record {
    back = λ A k. m.back A (subst (λ (B : Abs). Fits B) (sym (e A)) k);
    keep = λ A h k r. subst (λ (B : Abs). Content tree d (F h) B) (e A) (m.keep A h (subst (λ (B : Abs). Fits B) (sym (e A)) k) r);
  }

  pub moves : {f : Lowering} {c d : Counts} {F : Step} → Ends tree f c d F → Moves tree (run f c) c d F
  moves m = record { back = m.back; keep = m.keep }

  pub both : {G H : Abs → Abs} {c d e : Counts} {F K : Step} → Moves tree G c d F → Moves tree H d e K → Moves tree (λ A. H (G A)) c e (λ h. K (F h))
  both {G} {H} {F = F} m n = record {
    back = λ A k. m.back A (n.back (G A) k);
    keep = λ A h k r. n.keep (G A) (F h) k (m.keep A h (n.back (G A) k) r);
  }

  pub thens : {f g : Lowering} {c d : Counts} {F K : Step} → Does tree f c F → Ends tree g c d K → Ends tree (f ⨾ g) c d (λ h. K (F h))
  thens m n = ends _ (λ A. rw (past_append A.code, append_assoc A.code)) (both (moves m) (moves n))

  -- what was left open is closed
  pub lowers : {f : Lowering} {c d : Counts} {F K : Step} → Ends tree f c d F → Moves tree (λ A. A) d c K → Does tree f c (λ h. K (F h))
  lowers m n = ends _ (λ A. refl) (both (moves m) n)

-- ---- beside the words

abbrev pub waits : Bool → Abs → Abs
waits b A = record { outer = A.outer; code = A.code; wait = b; open_calls = A.open_calls; state = A.state }

module _ {tree : List ℕ} {c : Counts} where
  -- flags: what the builder does to bits and float_loop is what m does
  pub flags_move : (m : Flags → Flags) (M : B.State → B.State) → ((s : B.State) (f : Flags) → s.flags.bits ≡ f.bits → s.flags.float_loop ≡ f.float_loop → ((M s).flags.bits ≡ (m f).bits) × ((M s).flags.float_loop ≡ (m f).float_loop))
      → ((s : B.State) → M s ≡ record s { flags = (M s).flags }) → Moves tree (on_state (λ s. set_flags (m s.flags) s)) c c (still M)
  flags_move m M e only = search rules

  pub flagged_does : (m : Flags → Flags) (M : B.State → B.State) {f : Lowering} {F : Step} → Moves tree (on_state (λ s. set_flags (m s.flags) s)) c c (still M) → Does tree f c F → Does tree (flagged m f) c (λ h. F (still M h))
  flagged_does m M v d = ends _ (λ A. refl) (both v (moves d))

-- ---- refusals

-- the first number stays where the first refusal does
first_met : (met : Option Refusal) (why : Refusal) → number_of_first (option_or met (Some why)) ≡ first (number_of_first met) (number_of why)
unfolding first
first_met None why = refl
first_met (Some SmallWorkspace) why = refl
first_met (Some met) why = refl

module _ {tree : List ℕ} {c : Counts} where
  pub fails_move : (why : Refusal) → Moves tree (on_state (fail (number_of why))) c c (still (W.refused why))
  unfolding W.refused
  fails_move why = search (rules, first_met)

-- ---- counters

module _ {tree : List ℕ} {c : Counts} where
  -- nothing more is open, and the deepest is as deep
  pub same_move : Moves tree (on_state (raise c)) c c (λ h. h)
  same_move = search rules

  pub operand_move : Moves tree (on_state (raise (operand+ c))) c (operand+ c) (still L.operand_entered)
  unfolding L.operand_entered
  operand_move = search rules

  pub handler_move : Moves tree (on_state (raise (handler+ c))) c (handler+ c) (still L.handler_entered)
  unfolding L.handler_entered
  handler_move = search rules

  pub loop_move : Moves tree (on_state (raise (opens true c))) c (opens true c) (still (λ s. L.loop_entered (L.operand_entered s)))
  unfolding L.operand_entered L.loop_entered opens
  loop_move = search rules

  pub each_move : Moves tree (on_state (raise (opens false c))) c (opens false c) (still L.loop_entered)
  unfolding L.loop_entered opens
  each_move = search rules

  -- so many operands taken
  pub popped_move : (m n : ℕ) → m ≡ c.operands + n → Moves tree (λ A. A) (record c { operands = m }) c (still (L.popped n))
  unfolding L.popped
  popped_move m n e = search rules

  pub handler_left_lem : Moves tree (λ A. A) (handler+ c) c (still L.handler_left)
  unfolding L.handler_left
  handler_left_lem = search rules

  pub loop_left_lem : Moves tree (λ A. A) (opens true c) c (still (λ s. L.loop_left (L.popped 1 s)))
  unfolding L.popped L.loop_left opens
  loop_left_lem = search rules

  pub each_left : Moves tree (λ A. A) (opens false c) c (still L.loop_left)
  unfolding L.loop_left opens
  each_left = search rules

  push_move : Moves tree (λ A. waits true (on_state (raise (operand+ c)) A)) c (operand+ c) (still W.pushed)
  unfolding W.pushed
  push_move = search rules

  pub pushes : {f g : Lowering} {d : Counts} {F K : Step} → Does tree f c F → Ends tree g (operand+ c) d K → Ends tree (pushed f g) c d (λ h. K (still W.pushed (F h)))
  pushes m n = ends _ (λ A. rw (past_append A.code, append_assoc A.code)) (both (moves m) (both push_move (moves n)))
