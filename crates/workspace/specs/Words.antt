-- What is made of words. Definitions only.
use Rattle.std.specs.Prelude.{ℕ, ◌+◌, ◌/◌, ◌%◌}

-- a target with a start added
abbrev pub plus : ℕ → ℕ → ℕ
plus a b = (a + b) % 4294967296

-- a hash is two words, the high one first
abbrev pub high : ℕ → ℕ
high v = v / 4294967296

abbrev pub low : ℕ → ℕ
low v = v % 4294967296
