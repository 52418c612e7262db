-- Instructions that do not wait are passed. Assumes nothing.
use mathlib.Core.Path.{◌≡◌, ap, refl, ◌∙◌}
use mathlib.Core.List.{List}
use Prim.Native.Nat.{ℕ, zero, suc, ◌+◌, ◌*◌, ◌<◌}
use native.Mathlib.Omega.{arith}
use lib.ListN.{get_or}
use borrow.Author.Tests.{ne_eqb}
use Rattle.code.specs.Segments.{break_resolved, range_resolved, BREAK, CONTINUE}
use Rattle.code.proofs.Runs.{aim_next}

module _ (ws : List ℕ) (at check cleanup : ℕ) where
  idle_one : (k : ℕ) → get_or ws (k * 2) 0 < 2147483648 → ws ≡ break_resolved ws k check cleanup
  unfolding break_resolved
  idle_one k h = rw (ne_eqb (get_or ws (k * 2) 0) BREAK (λ e. omega arith), ne_eqb (get_or ws (k * 2) 0) CONTINUE (λ e. omega arith)) refl

  -- those that do not wait are left as they are
  pub idle_range : (n : ℕ) → ((k : ℕ) → k < n → get_or ws (at * 2 + 2 * k) 0 < 2147483648) → ws ≡ range_resolved ws at n check cleanup
  unfolding range_resolved
  idle_range zero h = refl
  idle_range (suc n) h =
      let e : at * 2 + 2 * n ≡ (at + n) * 2 = omega arith in
      let f : n + 1 ≡ suc n = omega arith in
      let idle = idle_one (at + n) (rw e at (h n (omega arith))) in
      aim_next check cleanup ws at n (idle_range n (λ k i. h k (omega arith))) idle ∙ ap (λ (j : ℕ). range_resolved ws at j check cleanup) f
