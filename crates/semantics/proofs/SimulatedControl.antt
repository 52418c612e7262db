use mathlib.Core.Path.{◌≡◌, refl}
use mathlib.Core.Bool.{Bool, true, false}
use mathlib.Core.List.{List, [], ◌∷◌, map}
use Prim.Native.Nat.{ℕ, zero, suc, ◌≤◌}
use native.Mathlib.Omega.{arith}
use lib.ListN.{length}
use Rattle.program.specs.Instruction.{Reading, Guard, jump_if_falsy, EachNext, reading, guard, loop_end, jump, handler_push, handler_pop, loop_check, return, each_next}
use Rattle.program.specs.Counts.{Counts}
use Rattle.program.specs.Program.{Program, code_at, post_at}
use Rattle.semantics.proofs.Bounds.{left, Less}
use Rattle.semantics.proofs.Positions.{past_map, past_append}
use Rattle.semantics.proofs.Simulation.{has_handler, Place, at}
use Rattle.semantics.specs.Link.{relocate, settle}
use Rattle.semantics.specs.Machine.{loop, perhaps, reading_action, guard_action, guard_up, each_action, Open, handler, Frame, machine, Next, go, missed, cut, check, close, execute, dry}
use Rattle.semantics.specs.Pieces.{Lowering, put, fork}
use Rattle.semantics.specs.Positions.{◌⊕◌, past}
use Rattle.semantics.specs.Run.{e_jump_if_falsy, e_loop_begin, e_loop_check, e_each_begin, Run, set_counts, set_outcomes, note, handler+, handler-, same, opens, count, pick, Result}
use Rattle.semantics.specs.State.{Item, instr, to_cleanup, to_check, State, raise}
use Rattle.semantics.specs.Walk.{coalesce, Completion, normal, missing, broke, again, returned, halted, out, Walking, Scope, in_a_loop, in_a_handler, returns, misses, loads, conditional, otherwise, ends, round, checks, rounds, nexts}
use Rattle.semantics.specs.Walk as K
use Rattle.semantics.specs.Pieces as Q
use Rattle.semantics.proofs.Simulation as Z

-- Outcomes, guards, branches, `??` and loops: the step machine agrees with the walk. Assumes nothing.

module _ (P : Program) (E : ℕ) (r : Result) where
  infixr 40 ◌⟫◌
  ◌⟫◌ : {s t u : State} → Z.Step P E r s t → Z.Step P E r t u → Z.Step P E r s u
  ◌⟫◌ a b = Z.◌⟫◌ P E r a b

  -- an outcome is drawn on both sides
  pub pick_ends : (e : Scope) (κ : Place) (k : ℕ) (outcomes : List Bool) (w : Run) (good bad : Walking) (good' bad' : Run → Next)
      → ((w : Run) → suc (length w.outcomes) ≤ length outcomes → Z.After P E r e κ k (good w) → Z.Ends P E r (good' w)) → ((w : Run) → Z.After P E r e κ k (bad w) → Z.Ends P E r (bad' w))
      → Z.After P E r e κ k (pick outcomes w out good bad) → Z.Ends P E r (pick outcomes w dry good' bad')
  unfolding pick
  pick_ends e κ k [] w good bad good' bad' h₁ h₂ q = q
  pick_ends e κ k (true ∷ outcomes) w good bad good' bad' h₁ h₂ q = h₁ (set_outcomes outcomes w) (omega arith) q
  pick_ends e κ k (false ∷ outcomes) w good bad good' bad' h₁ h₂ q = h₂ (set_outcomes outcomes w) q

  pub missed_none : (es : List Open) (w : Run) (fs : List Frame) (on : Next) → has_handler es ≡ false → missed es w fs on ≡ on
  unfolding missed has_handler
  missed_none [] w fs on h = refl
  missed_none (loop k c ∷ es) w fs on h = missed_none es w fs on h
  missed_none (handler t c ∷ es) w fs on h = cc

  pub miss_ends : (e : Scope) (κ : Place) (k : ℕ) (w : Run) (b : Bool) → e.handler ≡ b → has_handler κ.control ≡ b → Z.After P E r e κ k (misses b w) → Z.Ends P E r (missed κ.control w κ.frames (go (machine (κ.base ⊕ k) w κ.control κ.frames)))
  unfolding misses
  miss_ends e κ k w true h z q = (rw h at q) _
  miss_ends e κ k w false h z q = rw (missed_none κ.control w κ.frames _ z) q

  pub perhaps_ends : (e : Scope) (κ : Place) (k : ℕ) → Z.Fits P E r e κ → (w : Run) → Z.After P E r e κ k (K.perhaps e w) → Z.Ends P E r (perhaps (κ.base ⊕ k) w κ.control κ.frames)
  perhaps_ends e κ k z w q = pick_ends e κ k w.outcomes w normal (misses e.handler) _ _ (λ w i q. q) (λ w q. miss_ends e κ k w e.handler refl z q) q

  pub may_s : {e : Scope} (i : Reading) → Z.Sim P E r e (put (reading i)) (loads e (reading_action P i))
  unfolding settle relocate execute
  may_s {e} i = Z.flushed P E r (record { grow = λ c n s. Z.stay P E r s; sim = λ c n s x κ y z w q. Z.ends_at P E r (κ.base ⊕ n) y.0 (perhaps_ends e κ (suc n) z _ q) })

  pub ret_s : {e : Scope} (p : ℕ) → Z.Sim P E r e (put (return p)) (returns (post_at P p))
  unfolding settle relocate execute
  ret_s p = Z.flushed P E r (record { grow = λ c n s. Z.stay P E r s; sim = λ c n s x κ y z w q. Z.ends_at P E r (κ.base ⊕ n) y.0 q })

  pub break_s : (e : Scope) (l : Bool) → e.loop ≡ l → Z.Sim P E r e (Q.jumps to_cleanup l) (K.jumps broke l)
  unfolding settle relocate execute Q.jumps K.jumps
  break_s e true h = Z.flushed P E r (record { grow = λ c n s. Z.stay P E r s; sim = λ c n s x κ y z w q. Z.ends_at P E r (κ.base ⊕ n) y.0 ((rw h at q) κ.control refl) })
  break_s e false h = Z.flushed P E r (record { grow = λ c n s. Z.stay P E r s; sim = λ c n s x κ y z w q. Z.ends_at P E r (κ.base ⊕ n) y.0 q })

  pub continue_s : (e : Scope) (l : Bool) → e.loop ≡ l → Z.Sim P E r e (Q.jumps to_check l) (K.jumps again l)
  unfolding settle relocate execute Q.jumps K.jumps
  continue_s e true h = Z.flushed P E r (record { grow = λ c n s. Z.stay P E r s; sim = λ c n s x κ y z w q. Z.ends_at P E r (κ.base ⊕ n) y.0 ((rw h at q) κ.control refl) })
  continue_s e false h = Z.flushed P E r (record { grow = λ c n s. Z.stay P E r s; sim = λ c n s x κ y z w q. Z.ends_at P E r (κ.base ⊕ n) y.0 q })

  -- a no skips the rest
  pub guarded_s : {e : Scope} (g : Guard) {f : Lowering} {u : Walking} → Z.Sim P E r e f u → Z.Sim P E r e (Q.guarded g (guard_up g) f) (K.guarded (guard_action P g) (guard_up g) u)
  unfolding settle relocate execute
  guarded_s {e} g {f} {u} a = Z.flushed P E r (record {
    grow = λ c n s. Z.raised P E r _ s ⟫ a.grow _ _ _ _;
    sim = λ c n s x κ y z w q.
        Z.ends_at P E r (κ.base ⊕ n) y.0 (pick_ends e κ _ w.outcomes (note (guard_action P g) w) (λ w. u (count (guard_up g) w)) normal _ _
        (λ w i q. a.sim (guard_up g c) false (suc n) (raise (guard_up g c) s) x κ y.1 z _ q) (λ w q. q) q);
  })

  -- two branches
  pub shift : (e : Scope) (κ : Place) (n k : ℕ) → ((w : Run) → Z.From P E r κ k w → Z.From P E r κ n w) → (x : Completion) → Z.After P E r e κ k x → Z.After P E r e κ n x
  shift e κ n k h (normal w) q = h w q
  shift e κ n k h _ q = q

  pub branch_s : {e : Scope} {f g : Lowering} {u v : Walking} → Z.Sim P E r e f u → Z.Sim P E r e g v → Z.Sim P E r e (fork (guard jump_if_falsy) jump same f g) (conditional u v)
  unfolding settle relocate execute guard_action guard_up
  branch_s {e} {f} {g} {u} {v} a b = Z.flushed P E r (record {
    grow = λ c n s. Z.raised P E r _ s ⟫ a.grow _ _ _ _ ⟫ b.grow _ _ _ _;
    sim = λ c n s x κ y z w q.
        let m = f c false (suc n) (raise c s) in
        let i = past m.code (suc n) in
        let k = g c false (suc i) m.state in
        let j = past k.code (suc i) in
        let d = instr (jump j) ∷ k.code in
        let y' = Z.has_right P E r κ (suc n) m.code d y.1 in
        Z.ends_at P E r (κ.base ⊕ n) y.0 (pick_ends e κ j w.outcomes (note e_jump_if_falsy w) u v _ _
        (λ w t q. a.sim c false (suc n) (raise c s) ((b.grow _ _ _ _).back x) κ (Z.has_left P E r κ (suc n) m.code d y.1) z w (shift e κ i j (λ w q. Z.ends_at P E r (κ.base ⊕ i) y'.0 q) (u w) q))
        (λ w q. b.sim c false (suc i) m.state x κ y'.1 z w q)
        (rw (past_append m.code d) at q));
  })

  -- the first child of a `??`
  abbrev pub handling : ℕ → Counts → Place → Place
  handling t c κ = record { base = κ.base; check_at = κ.check_at; cleanup_at = κ.cleanup_at; control = handler t c ∷ κ.control; frames = κ.frames }

  pub otherwise_after : (e : Scope) (κ : Place) (c : Counts) (n m k : ℕ) (v : Walking)
      → ((w : Run) → Z.From P E r κ k (count handler- w) → Z.From P E r (handling (κ.base ⊕ m) c κ) n w) → ((w : Run) → Z.After P E r e κ k (v w) → Z.From P E r κ m w)
      → (x : Completion) → Z.After P E r e κ k (otherwise c v x) → Z.After P E r (in_a_handler e) (handling (κ.base ⊕ m) c κ) n x
  unfolding otherwise missed cut
  otherwise_after e κ c n m k v h g (normal w) q = h w q
  otherwise_after e κ c n m k v h g (missing w) q = λ on. g (set_counts c w) q
  otherwise_after e κ c n m k v h g _ q = q

  pub coalesce_s : {e : Scope} {f g : Lowering} {u v : Walking} → Z.Sim P E r (in_a_handler e) f u → Z.Sim P E r e g v → Z.Sim P E r e (fork handler_push handler_pop handler+ f g) (coalesce u v)
  unfolding settle relocate execute has_handler
  coalesce_s {e} {f} {g} {u} {v} a b = Z.flushed P E r (record {
    grow = λ c n s. Z.raised P E r _ s ⟫ a.grow _ _ _ _ ⟫ b.grow _ _ _ _;
    sim = λ c n s x κ y z w q.
        let m = f (handler+ c) false (suc n) (raise (handler+ c) s) in
        let i = past m.code (suc n) in
        let k = g c false (suc i) m.state in
        let j = past k.code (suc i) in
        let d = instr (handler_pop j) ∷ k.code in
        let y' = Z.has_right P E r κ (suc n) m.code d y.1 in
        Z.ends_at P E r (κ.base ⊕ n) y.0
        (a.sim (handler+ c) false (suc n) (raise (handler+ c) s) ((b.grow _ _ _ _).back x) (handling (κ.base ⊕ suc i) w.counts κ) (Z.has_left P E r κ (suc n) m.code d y.1) refl _
        (otherwise_after e κ w.counts i (suc i) j v (λ w q. Z.ends_at P E r (κ.base ⊕ i) y'.0 q) (λ w q. b.sim c false (suc i) m.state x κ y'.1 z w q) (u (count handler+ w)) (rw (past_append m.code d) at q)));
  })

  -- loops: what follows the body is at k, LoopEnd at l
  abbrev pub looping : Bool → ℕ → ℕ → Counts → Place → Place
  looping x k l c κ = record { base = κ.base; check_at = k; cleanup_at = l; control = loop x c ∷ κ.control; frames = κ.frames }

  module _ (e : Scope) (κ : Place) (x : Bool) (c : Counts) (k l : ℕ) (at_end : code_at P (κ.base ⊕ l) ≡ loop_end) where
    end_ends : (es : List Open) → cut es ≡ loop x c ∷ κ.control → (w : Run) → Z.After P E r e κ (suc l) (ends x c w) → Z.Ends P E r (go (machine (κ.base ⊕ l) w es κ.frames))
    unfolding execute close
    end_ends es h w q = Z.ends_at P E r (κ.base ⊕ l) at_end (rw h q)

    -- what follows a body with at most m outcomes left
    abbrev NextOk : ℕ → Walking → Type 0
    NextOk m next = (es : List Open) → cut es ≡ loop x c ∷ κ.control → (w : Run) → length w.outcomes ≤ m → Z.After P E r e κ (suc l) (next w) → Z.Ends P E r (go (machine (κ.base ⊕ k) w es κ.frames))

    round_after : (m n : ℕ) (next : Walking) → NextOk m next → ((w : Run) → Z.Ends P E r (go (machine (κ.base ⊕ k) w (loop x c ∷ κ.control) κ.frames)) → Z.From P E r (looping x k l c κ) n w)
        → (y : Completion) → left y ≤ m → Z.After P E r e κ (suc l) (round x c next y) → Z.After P E r (in_a_loop e) (looping x k l c κ) n y
    unfolding round missed cut
    round_after m n next h i (normal w) j q = i w (h (loop x c ∷ κ.control) refl w j q)
    round_after m n next h i (broke w) j q = λ es p. end_ends es p w q
    round_after m n next h i (again w) j q = λ es p. h es p w j q
    round_after m n next h i _ j q = q

  module _ (e : Scope) (κ : Place) (c : Counts) (n k : ℕ) (at_check : code_at P (κ.base ⊕ k) ≡ loop_check (κ.base ⊕ n)) (at_end : code_at P (κ.base ⊕ suc k) ≡ loop_end) where
    check_ok : (m : ℕ) (more : Walking) → ((w : Run) → suc (length w.outcomes) ≤ m → Z.After P E r e κ (suc (suc k)) (more w) → Z.From P E r (looping true k (suc k) c κ) n w) → NextOk e κ true c k (suc k) at_end m (checks c more)
    unfolding execute check cut
    check_ok m more h es i w l q = Z.ends_at P E r (κ.base ⊕ k) at_check (rw i
        (pick_ends e κ (suc (suc k)) w.outcomes (note e_loop_check (set_counts c w)) more (ends true c) _ _ (λ w j q. h w (omega arith) q) (λ w q. end_ends e κ true c k (suc k) at_end (loop true c ∷ κ.control) refl w q) q))

    rounds_ends : (u : Walking) → Less u → ((w : Run) → Z.After P E r (in_a_loop e) (looping true k (suc k) c κ) k (u w) → Z.From P E r (looping true k (suc k) c κ) n w)
        → (m : ℕ) (w : Run) → length w.outcomes ≤ m → Z.After P E r e κ (suc (suc k)) (rounds c u m w) → Z.From P E r (looping true k (suc k) c κ) n w
    unfolding rounds
    rounds_ends u l h zero w i q = h w (round_after e κ true c k (suc k) at_end zero k _ (check_ok zero out (λ w j q. absurd (omega arith))) (λ w q. q) (u w) (let j = l w in omega arith) q)
    rounds_ends u l h (suc m) w i q = h w (round_after e κ true c k (suc k) at_end (suc m) k _ (check_ok (suc m) (rounds c u m) (λ w j q. rounds_ends u l h m w (omega arith) q)) (λ w q. q) (u w) (let j = l w in omega arith) q)

  module _ (e : Scope) (κ : Place) (c : Counts) (i : EachNext) (n k : ℕ) (at_next : code_at P (κ.base ⊕ n) ≡ each_next i (κ.base ⊕ suc k)) (at_back : code_at P (κ.base ⊕ k) ≡ jump (κ.base ⊕ n)) (at_end : code_at P (κ.base ⊕ suc k) ≡ loop_end) where
    nexts_ok : (u : Walking) → Less u → ((w : Run) → Z.After P E r (in_a_loop e) (looping false n (suc k) c κ) k (u w) → Z.From P E r (looping false n (suc k) c κ) (suc n) w)
        → (m : ℕ) → NextOk e κ false c n (suc k) at_end m (nexts (each_action P i) c u m)
    unfolding nexts execute check cut
    nexts_ok u l h zero es p w j q = Z.ends_at P E r (κ.base ⊕ n) at_next (rw p
        (pick_ends e κ (suc (suc k)) w.outcomes (note (each_action P i) (set_counts c w)) out (ends false c) _ _ (λ w t q. absurd (omega arith)) (λ w q. end_ends e κ false c n (suc k) at_end (loop false c ∷ κ.control) refl w q) q))
    nexts_ok u l h (suc m) es p w j q = Z.ends_at P E r (κ.base ⊕ n) at_next (rw p
        (pick_ends e κ (suc (suc k)) w.outcomes (note (each_action P i) (set_counts c w)) (λ w. round false c (nexts (each_action P i) c u m) (u w)) (ends false c) _ _
        (λ w t q. h w (round_after e κ false c n (suc k) at_end m k _ (nexts_ok u l h m) (λ w q. Z.ends_at P E r (κ.base ⊕ k) at_back q) (u w) (let t' = l w in omega arith) q))
        (λ w q. end_ends e κ false c n (suc k) at_end (loop false c ∷ κ.control) refl w q) q))

  pub aim_has : (κ : Place) (x : Bool) (k l n : ℕ) (d : List Item) (c : Counts) → Z.Has P E r κ n (map (Q.aim k l) d) → Z.Has P E r (looping x k l c κ) n d
  unfolding settle relocate
  aim_has κ x k l n [] c h = tt
  aim_has κ x k l n (instr i ∷ d) c h = (h.0, aim_has κ x k l (suc n) d c h.1)
  aim_has κ x k l n (_ ∷ d) c h = (h.0, aim_has κ x k l (suc n) d c h.1)

  pub looped_s : {e : Scope} {f : Lowering} {u : Walking} → Less u → Z.Sim P E r (in_a_loop e) f u → Z.Sim P E r e (Q.counted_loop f) (K.counted_loop u)
  unfolding settle relocate execute has_handler
  looped_s {e} {f} {u} less a = Z.flushed P E r (record {
    grow = λ c n s. Z.raised P E r _ s ⟫ a.grow _ _ _ _;
    sim = λ c n s x κ y z w q.
        let m = f (opens true c) false (suc n) (raise (opens true c) s) in
        let k = past m.code (suc n) in
        let b = map (Q.aim k (suc k)) m.code in
        let d = instr (loop_check (suc n)) ∷ instr loop_end ∷ [] in
        let y' : Z.Has P E r κ k d = rw (past_map (Q.aim k (suc k)) m.code (suc n)) at (Z.has_right P E r κ (suc n) b d y.1) in
        Z.ends_at P E r (κ.base ⊕ n) y.0 (pick_ends e κ (suc (suc k)) w.outcomes (note e_loop_begin w) (λ w. rounds (opens true w.counts) u (length w.outcomes) (count (opens true) w)) normal _ _
        (λ w t q. let c' = opens true w.counts in
        rounds_ends e κ c' (suc n) k y'.0 y'.1.0 u less
        (a.sim (opens true c) false (suc n) (raise (opens true c) s) x (looping true k (suc k) c' κ) (aim_has κ true k (suc k) (suc n) m.code c' (Z.has_left P E r κ (suc n) b d y.1)) z)
        (length w.outcomes) (count (opens true) w) (omega arith) q)
        (λ w q. q)
        (rw (past_append b d (suc n), past_map (Q.aim k (suc k)) m.code (suc n)) at q));
  })

  pub eached_s : {e : Scope} (i : EachNext) {f : Lowering} {u : Walking} → Less u → Z.Sim P E r (in_a_loop e) f u → Z.Sim P E r e (Q.eached i f) (K.eached (each_action P i) u)
  unfolding settle relocate execute has_handler cut
  eached_s {e} i {f} {u} less a = Z.flushed P E r (record {
    grow = λ c n s. Z.raised P E r _ s ⟫ a.grow _ _ _ _;
    sim = λ c n s x κ y z w q.
        let m = f (opens false c) false (suc (suc n)) (raise (opens false c) s) in
        let k = past m.code (suc (suc n)) in
        let b = map (Q.aim (suc n) (suc k)) m.code in
        let d = instr (jump (suc n)) ∷ instr loop_end ∷ [] in
        let y' : Z.Has P E r κ k d = rw (past_map (Q.aim (suc n) (suc k)) m.code (suc (suc n))) at (Z.has_right P E r κ (suc (suc n)) b d y.1.1) in
        Z.ends_at P E r (κ.base ⊕ n) y.0 (pick_ends e κ (suc (suc k)) w.outcomes (note e_each_begin w) (λ w. nexts (each_action P i) (opens false w.counts) u (length w.outcomes) (count (opens false) w)) normal _ _
        (λ w t q. let c' = opens false w.counts in
        nexts_ok e κ c' i (suc n) k y.1.0 y'.0 y'.1.0 u less
        (a.sim (opens false c) false (suc (suc n)) (raise (opens false c) s) x (looping false (suc n) (suc k) c' κ) (aim_has κ false (suc n) (suc k) (suc (suc n)) m.code c' (Z.has_left P E r κ (suc (suc n)) b d y.1.1)) z)
        (length w.outcomes) (loop false c' ∷ κ.control) refl (count (opens false) w) (omega arith) q)
        (λ w q. q)
        (rw (past_append b d (suc (suc n)), past_map (Q.aim (suc n) (suc k)) m.code (suc (suc n))) at q));
  })
