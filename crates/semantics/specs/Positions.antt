-- Positions in a list, and pools of entries with keys. Definitions only.
use Rattle.std.specs.Prelude.{◌≡◌, List, [], ◌∷◌, ℕ, zero, suc}
use Rattle.std.proofs.Common.{ap}
use Rattle.std.proofs.Math.Decide.{ℕ_discrete}

infixl 60 ◌⊕◌
-- a sum that computes at its second argument's suc
abbrev pub ◌⊕◌ : ℕ → ℕ → ℕ
◌⊕◌ b zero = b
◌⊕◌ b (suc n) = suc (b ⊕ n)

-- the position after a list that begins at n
abbrev pub past : {A : Type 0} → List A → ℕ → ℕ
past [] n = n
past (x ∷ xs) n = past xs (suc n)

-- a pool is searched by key: where the entry of v's key is or will be, and the pool with such an entry (the first one stays)
module _ {A K : Type 0} (key : A → K) (dec : (a b : K) → Dec (a ≡ b)) where
  unfoldable pub slot : A → ℕ → List A → ℕ
  slot v n [] = n
  slot v n (x ∷ xs) = elim (dec (key x) (key v)) [ yes p ↦ n | no h ↦ slot v (suc n) xs ]

  unfoldable pub intern : A → List A → List A
  intern v [] = v ∷ []
  intern v (x ∷ xs) = elim (dec (key x) (key v)) [ yes p ↦ x ∷ xs | no h ↦ x ∷ intern v xs ]

-- keys that are two numbers
unfoldable pub pair_discrete : (a b : ℕ × ℕ) → Dec (a ≡ b)
pair_discrete a b = elim (ℕ_discrete a.0 b.0) [
  | yes p ↦ elim (ℕ_discrete a.1 b.1) [ yes q ↦ yes (λ i. (p i, q i)) | no q ↦ no (λ e. q (ap (λ x. x.1) e)) ]
  | no p ↦ no (λ e. p (ap (λ x. x.0) e))
]
