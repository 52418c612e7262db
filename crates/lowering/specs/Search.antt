-- The search for an entry of a region, from the front. Definitions only.
use Rattle.std.specs.Prelude.{◌≡◌, Bool, true, false, cond, ◌&&◌, List, [], ◌∷◌, ℕ, zero, suc, ◌+◌, ◌*◌, ◌<◌, ◌≤◌, eqb, get_or, Option, MatchOption}

-- the first of the n numbers from i on at which hit holds, or the one after them
unfoldable pub seek : (ℕ → Bool) → ℕ → ℕ → ℕ
seek hit zero i = i
seek hit (suc n) i = cond (hit i) i (seek hit n (suc i))

-- what finding gives: the first of n numbers at which hit holds, or none where it holds at none of them
abbrev pub Finds : (ℕ → Bool) → ℕ → Option ℕ → Type 0
Finds hit n r = MatchOption r (seek hit n 0 ≡ n) (λ i. (seek hit n 0 ≡ i) × (i < n))

-- the words from a place on begin with those of a key
unfoldable pub stands : List ℕ → ℕ → List ℕ → Bool
stands W at [] = true
stands W at (a ∷ key) = eqb (get_or W at 0) a && stands W (at + 1) key

-- entry i of a region of entries of so many words has the key
unfoldable pub hit : List ℕ → ℕ → ℕ → List ℕ → ℕ → Bool
hit W from width key i = stands W (from + width * i) key

-- none of the entries from i up to n is a hit
abbrev pub NoneHas : (ℕ → Bool) → ℕ → ℕ → Type 0
NoneHas test i n = (k : ℕ) → i ≤ k → k < n → test k ≡ false

-- none of n words from a place on, stride apart, is the key
abbrev pub Without : List ℕ → ℕ → ℕ → ℕ → ℕ → Type 0
Without W at stride key n = (k : ℕ) → k < n → eqb (get_or W (at + stride * k) 0) key ≡ false

-- none of n, if so answered
abbrev pub NoneIs : List ℕ → ℕ → ℕ → ℕ → ℕ → Bool → Type 0
NoneIs W at stride key n r = r ≡ true → Without W at stride key n
