-- Bytes that are laid over a list from a place on, as far as it reaches, and entries one behind the other. Definitions only.
use Rattle.std.specs.Prelude.{◌≡◌, List, [], ◌∷◌, ◌++◌, ℕ, zero, suc, ◌+◌, length}
use Rattle.std.proofs.lemmas.List.Edits.{sets}

-- t is s with the bytes vs from at on, as far as s reaches, and r is the place behind them
pub record Wrote (s : List ℕ) (at : ℕ) (vs : List ℕ) (t : List ℕ) (r : ℕ) : Type 0 where
  pub bytes : t ≡ sets s at vs
  pub next : r ≡ at + length vs

-- f 0, f 1, .. f (n - 1), one behind the other
unfoldable pub cat : (ℕ → List ℕ) → ℕ → List ℕ
cat f zero = []
cat f (suc n) = cat f n ++ f n

-- lists one behind the other, then r
unfoldable pub joined : List (List ℕ) → List ℕ → List ℕ
joined [] r = r
joined (vs ∷ vss) r = vs ++ joined vss r
