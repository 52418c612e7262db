-- Bytes that were read. Definitions only.
use Rattle.std.specs.Prelude.{List, ℕ, ◌≡◌, ◌+◌, ◌<◌, get_or}
use Rattle.wire.specs.Bytes.{be8}

-- the first n of bs are the bytes of s from p + k on
abbrev pub AreAt : List ℕ → ℕ → ℕ → ℕ → List ℕ → Type 0
AreAt s p k n bs = (i : ℕ) → i < n → get_or bs i 0 ≡ be8 s p (k + i)
