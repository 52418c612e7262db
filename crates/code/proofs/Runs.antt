-- A run over words is its first part, and then the rest on what that made. Assumes nothing.
use mathlib.Core.Path.{◌≡◌, refl, sym, ◌∙◌}
use mathlib.Core.List.{List}
use Prim.Native.Nat.{ℕ, zero, suc, ◌+◌, ◌*◌}
use native.Mathlib.Omega.{arith}
use Rattle.code.specs.Segments.{break_resolved, range_resolved, relocated_one, relocated_range}

module _ (check cleanup : ℕ) where
  aim_parts : (words : List ℕ) (at n m : ℕ)
      → range_resolved words at (n + m) check cleanup ≡ range_resolved (range_resolved words at n check cleanup) (at + n) m check cleanup
  unfolding range_resolved
  aim_parts words at zero m =
      let e : 0 + m ≡ m = omega arith in
      let f : at + 0 ≡ at = omega arith in
      rw (e, f) refl
  aim_parts words at (suc n) m =
      let e : suc n + m ≡ suc (n + m) = omega arith in
      let f : at + suc n ≡ suc at + n = omega arith in
      rw (e, f) (aim_parts (break_resolved words at check cleanup) (suc at) n m)

  -- n instructions are aimed, and then the next m
  pub aim_more : (words : List ℕ) {now next : List ℕ} (at n m k l : ℕ)
      → now ≡ range_resolved words at n check cleanup
      → next ≡ range_resolved now k m check cleanup
      → k ≡ at + n → l ≡ n + m
      → next ≡ range_resolved words at l check cleanup
  aim_more words at n m k l e f g h = f ∙ rw (e, g, h) (sym (aim_parts words at n m))

  -- or the next one
  pub aim_next : (words : List ℕ) {now next : List ℕ} (at n : ℕ)
      → now ≡ range_resolved words at n check cleanup
      → next ≡ break_resolved now (at + n) check cleanup
      → next ≡ range_resolved words at (n + 1) check cleanup
  unfolding range_resolved
  aim_next words at n e f = aim_more words at n 1 _ _ e f refl refl

module _ (by : ℕ) where
  move_parts : (words : List ℕ) (from to n m : ℕ)
      → relocated_range words from to (n + m) by ≡ relocated_range (relocated_range words from to n by) (from + n * 2) (to + n * 2) m by
  unfolding relocated_range
  move_parts words from to zero m =
      let e : 0 + m ≡ m = omega arith in
      let f : from + 0 * 2 ≡ from = omega arith in
      let g : to + 0 * 2 ≡ to = omega arith in
      rw (e, f, g) refl
  move_parts words from to (suc n) m =
      let e : suc n + m ≡ suc (n + m) = omega arith in
      let f : from + suc n * 2 ≡ from + 2 + n * 2 = omega arith in
      let g : to + suc n * 2 ≡ to + 2 + n * 2 = omega arith in
      rw (e, f, g) (move_parts (relocated_one words from to by) (from + 2) (to + 2) n m)

  -- n instructions are moved, and then the next one
  pub move_next : (words : List ℕ) {now next : List ℕ} (from to n : ℕ)
      → now ≡ relocated_range words from to n by
      → next ≡ relocated_one now (from + n * 2) (to + n * 2) by
      → next ≡ relocated_range words from to (n + 1) by
  unfolding relocated_range
  move_next words from to n e f = f ∙ rw e (sym (move_parts words from to n 1))
