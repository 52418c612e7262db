-- What a search comes to: the first hit, and the slot of a key in a list of entries. Assumes nothing.
use mathlib.Core.Path.{◌≡◌, refl, sym, ap, ◌∙◌}
use mathlib.Core.Bool.{Bool, true, false, cond}
use mathlib.Core.List.{List, [], ◌∷◌}
use Prim.Native.Nat.{ℕ, zero, suc, ◌+◌, ◌≤◌, ◌<◌}
use native.Mathlib.Omega.{arith}
use native.Mathlib.Decide.{dec_lt}
use lib.ListN.{length, get_or}
use Rattle.lowering.specs.Search.{seek}

module _ (hit : ℕ → Bool) where
  -- the first hit of a run, or its end where there is none, is what the search comes to
  pub seek_first : (n i r : ℕ) → i ≤ r → r ≤ i + n → ((j : ℕ) → i ≤ j → j < r → hit j ≡ false) → (r < i + n → hit r ≡ true) → seek hit n i ≡ r
  unfolding seek
  seek_first zero i r l u b h = omega arith
  seek_first (suc n) i r l u b h = go (dec_lt i r) (λ k. seek_first n (suc i) r k (omega arith) (λ j m. b j (omega arith)) (λ m. h (omega arith)))
    where
      go : Dec (i < r) → (i < r → seek hit n (suc i) ≡ r) → cond (hit i) i (seek hit n (suc i)) ≡ r
      go (yes k) f = rw (b i (omega arith) k) (f k)
      go (no k) f = let e : i ≡ r = omega arith in rw (ap hit e ∙ h (omega arith)) e

-- whether a decision is yes
abbrev pub same : {P : Type 0} → Dec P → Bool
same (yes p) = true
same (no h) = false

-- a test that holds where the decision is yes, and only there, is that decision
pub same_is : {P : Type 0} (b : Bool) (d : Dec P) → (b ≡ true → P) → (P → b ≡ true) → b ≡ same d
same_is b (yes p) f g = g p
same_is true (no h) f g = absurd (h (f refl))
same_is false (no h) f g = refl

-- for any way to find the slot of v's key that goes through the entries from the front
module _ {A K : Type 0} (key : A → K) (dec : (a b : K) → Dec (a ≡ b)) (v : A) (slot : ℕ → List A → ℕ) (none : (n : ℕ) → slot n [] ≡ n) (some : (n : ℕ) (x : A) (xs : List A) → slot n (x ∷ xs) ≡ elim (dec (key x) (key v)) [ yes p ↦ n | no h ↦ slot (suc n) xs ]) where
  from : (hit : ℕ → Bool) (n : ℕ) (xs : List A) → ((i : ℕ) → i < length xs → hit (n + i) ≡ same (dec (key (get_or xs i v)) (key v))) → seek hit (length xs) n ≡ slot n xs
  unfolding seek
  from hit n [] h = sym (none n)
  from hit n (x ∷ xs) h = go (dec (key x) (key v)) (ap hit (omega arith) ∙ h 0 (omega arith)) (from hit (suc n) xs (λ i l. ap hit (omega arith) ∙ h (suc i) (omega arith))) ∙ sym (some n x xs)
    where
      go : (d : Dec (key x ≡ key v)) → hit n ≡ same d → seek hit (length xs) (suc n) ≡ slot (suc n) xs → cond (hit n) n (seek hit (length xs) (suc n)) ≡ elim d [ yes p ↦ n | no q ↦ slot (suc n) xs ]
      go (yes p) e m = rw e
      go (no q) e m = rw e m

  -- where the entries' keys are what the search looks at, it comes to the slot
  pub seek_slot : (hit : ℕ → Bool) (xs : List A) → ((i : ℕ) → i < length xs → hit i ≡ same (dec (key (get_or xs i v)) (key v))) → seek hit (length xs) 0 ≡ slot 0 xs
  seek_slot hit xs h = from hit 0 xs (λ i l. ap hit (omega arith) ∙ h i l)
