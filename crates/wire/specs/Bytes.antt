-- Bytes, and the big-endian numbers in them. Definitions only.
use Rattle.std.specs.Prelude.{List, [], ◌∷◌, ℕ, zero, suc, ◌+◌, ◌*◌, ◌/◌, ◌%◌, ◌^◌, ◌<◌, min, length, get_or}

-- a list of numbers is one of bytes
abbrev pub Bytes : List ℕ → Type 0
Bytes [] = Unit {0}
Bytes (b ∷ s) = (b < 256) × Bytes s

-- the byte at p + k, and the numbers of 2, 4 and 8 bytes from there on; past the end every byte reads 0
abbrev pub be8 : List ℕ → ℕ → ℕ → ℕ
be8 s p k = get_or s (p + k) 0

unfoldable pub be16 : List ℕ → ℕ → ℕ → ℕ
be16 s p k = be8 s p k * 256 + be8 s p (k + 1)

unfoldable pub be32 : List ℕ → ℕ → ℕ → ℕ
be32 s p k = be8 s p k * 16777216 + be8 s p (k + 1) * 65536 + be8 s p (k + 2) * 256 + be8 s p (k + 3)

unfoldable pub be64 : List ℕ → ℕ → ℕ → ℕ
be64 s p k = be32 s p k * 4294967296 + be32 s p (k + 4)

-- the place k bytes after p, or the end where that is nearer
abbrev pub reach : List ℕ → ℕ → ℕ → ℕ
reach s p k = min (p + k) (length s)

-- v as k bytes, the highest first, in front of what follows
unfoldable pub be : ℕ → ℕ → List ℕ → List ℕ
be zero v r = r
be (suc k) v r = v / 256 ^ k ∷ be k (v % 256 ^ k) r
