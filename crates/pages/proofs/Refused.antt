-- Which lists are refused. Assumes nothing.
use Rattle.std.proofs.Common.{◌≡◌, refl, Bool, true, false, cond, ◌&&◌, List, [], ◌∷◌, ℕ, zero, suc, ◌≤◌, ◌<◌, arith, length, get_or, leb, le-leb, leb-true}
use Rattle.std.proofs.lemmas.Bool.{lt-leb}
use Rattle.pages.specs.Answer.{small, packed, refused, answer}

both : (s t : Bool) → (s && t) ≡ true → (s ≡ true) × (t ≡ true)
both true true h = (refl, refl)
both true false h = cc
both false t h = cc

and_false : (s t : Bool) → t ≡ false → (s && t) ≡ false
and_false true t h = h
and_false false t h = refl

-- no image is above 4,096 bytes, or one is
small_at : (xs : List ℕ) → small xs ≡ true → (j : ℕ) → get_or xs j 0 ≤ 4096
small_at [] h j = omega arith
small_at (x ∷ xs) h zero = leb-true x 4096 (both _ _ h).0
small_at (x ∷ xs) h (suc j) = small_at xs (both (leb x 4096) _ h).1 j

small_all : (xs : List ℕ) → ((j : ℕ) → get_or xs j 0 ≤ 4096) → small xs ≡ true
small_all [] h = refl
small_all (x ∷ xs) h = rw (le-leb x 4096 (h 0), small_all xs (λ j. h (suc j)))

small_not : (xs : List ℕ) (j : ℕ) → 4096 < get_or xs j 0 → small xs ≡ false
small_not [] j h = absurd (omega arith)
small_not (x ∷ xs) zero h = rw (lt-leb x 4096 h)
small_not (x ∷ xs) (suc j) h = and_false (leb x 4096) (small xs) (small_not xs j h)

-- a list that is not refused
taken_by : (t : Bool) (xs : List ℕ) (b : ℕ) → (cond t (packed xs b) refused).number ≡ 0 → t ≡ true
unfolding refused
taken_by true xs b h = refl
taken_by false xs b h = absurd (omega arith)

module _ (xs : List ℕ) (b : ℕ) (taken : (answer xs b).number ≡ 0) where
  passed : (leb (length xs) 32 && small xs) ≡ true
  unfolding answer
  passed = taken_by (leb (length xs) 32 && small xs) xs b taken

  pub few : length xs ≤ 32
  few = leb-true (length xs) 32 (both (leb (length xs) 32) (small xs) passed).0

  pub low : (j : ℕ) → get_or xs j 0 ≤ 4096
  low = small_at xs (both (leb (length xs) 32) (small xs) passed).1

  pub is_packed : answer xs b ≡ packed xs b
  unfolding answer
  is_packed = rw passed

module _ (xs : List ℕ) (b : ℕ) where
  pub many : 32 < length xs → answer xs b ≡ refused
  unfolding answer
  many h = rw (lt-leb (length xs) 32 h)

  pub large : (j : ℕ) → 4096 < get_or xs j 0 → answer xs b ≡ refused
  unfolding answer
  large j h = rw (and_false (leb (length xs) 32) (small xs) (small_not xs j h))

  pub no_other : length xs ≤ 32 → ((j : ℕ) → get_or xs j 0 ≤ 4096) → (answer xs b).number ≡ 0
  unfolding answer packed
  no_other h k = rw (le-leb (length xs) 32 h, small_all xs k)
