-- An image that is right to some levels is right to more. Assumes nothing.
use mathlib.Core.Path.{◌≡◌, refl, sym}
use mathlib.Core.Bool.{Bool, true, true≢false}
use Prim.Native.Nat.{ℕ, zero, suc, ◌-◌, ◌≤◌}
use native.Mathlib.Nat.{le_of_suc-le-suc, not-suc-le-zero}
use native.Mathlib.Omega.{arith}
use native.Mathlib.Numerals.{sub-one}
use mathlib.Core.List.{List}
use lib.ListN.{length}
use Rattle.ast.specs.Header.{LEVELS, ALL_LEVELS}
use Rattle.ast.specs.Node.{count_at, first_at, next_at}
use Rattle.ast.specs.Questions.{row, filled, rooted, shallow}
use Rattle.ast.proofs.Accepted.{row_says}

-- a row stays right where the test of the inside passes more
more_row : (f g : ℕ → Bool) (s : List ℕ) → ((q : ℕ) → f q ≡ true → g q ≡ true)
    → (n p e : ℕ) → row f s n p e ≡ true → row g s n p e ≡ true
unfolding row
more_row f g s more zero p e h = h
more_row f g s more (suc n) p e h =
    let x = row_says f s n p e h in
    rw (x.0, more p x.1, row) (more_row f g s more n (next_at s p) e x.2)

more_filled : (s : List ℕ) (l m : ℕ) → l ≤ m → (p : ℕ) → filled l s p ≡ true → filled m s p ≡ true
unfolding filled
more_filled s zero m h p t = absurd (true≢false (sym t))
more_filled s (suc l) zero h p t = absurd (not-suc-le-zero h)
more_filled s (suc l) (suc m) h p t =
    more_row (filled l s) (filled m s) s (more_filled s l m (le_of_suc-le-suc h)) (count_at s p) (first_at s p) (next_at s p) t

pub more_levels : (s : List ℕ) (l m : ℕ) → l ≤ m → rooted l s ≡ true → rooted m s ≡ true
unfolding rooted
more_levels s l m h = more_row (filled l s) (filled m s) s (more_filled s l m h) 1 7 (length s)

pub all_levels : (s : List ℕ) → shallow s ≡ true → rooted ALL_LEVELS s ≡ true
unfolding shallow
all_levels s h = more_levels s LEVELS ALL_LEVELS (omega arith) h

-- a node that is right inside has children that are so to a level less
pub next_level : (l : ℕ) (s : List ℕ) (p : ℕ) → (l ≡ 0 → ⊥)
    → filled l s p ≡ row (filled (l - 1) s) s (count_at s p) (first_at s p) (next_at s p)
unfolding filled
next_level zero s p f = absurd (f refl)
next_level (suc l) s p f = rw (sub-one (suc l))
