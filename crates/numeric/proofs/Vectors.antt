-- Worked folds, which antt computes from the definition. Assumes nothing.
use mathlib.Core.Path.{◌≡◌, refl}
use mathlib.Core.List.{List, [], ◌∷◌, map}
use Prim.Native.Nat.{ℕ}
use lib.Ieee.{to_bits, of_bits, add, mul}
use Rattle.numeric.specs.Post.{is_identity, scaled, fold}
use Rattle.numeric.specs.PostOp.{post}

-- raw, scale, offset, and what they fold to
record Fold : Type 0 where
  raw : ℕ
  scale : ℕ
  offset : ℕ
  folded : ℕ

abbrev vector : ℕ → ℕ → ℕ → ℕ → Fold
vector r s o f = record { raw = r; scale = s; offset = o; folded = f }

abbrev vectors : List Fold
vectors =
    -- 3 * 2 + 1
    vector 0x40400000 0x40000000 0x3f800000 0x40e00000
    -- a NaN under the identity keeps its payload, with offset -0.0 too; under another post it is 7FC00000
    ∷ vector 0x7fa12345 0x3f800000 0 0x7fa12345
    ∷ vector 0xffa12345 0x3f800000 0x80000000 0xffa12345
    ∷ vector 0x7fa12345 0x3f800000 0x3f800000 0x7fc00000
    -- a NaN as scale, and as offset
    ∷ vector 0x3f800000 0xffc00001 0 0x7fc00000
    ∷ vector 0x3f800000 0x40000000 0x7f800001 0x7fc00000
    -- -0.0 under the identity; plus 1.0; times 2.0, plus 0.0 and plus -0.0
    ∷ vector 0x80000000 0x3f800000 0 0x80000000
    ∷ vector 0x80000000 0x3f800000 0x3f800000 0x3f800000
    ∷ vector 0x80000000 0x40000000 0 0
    ∷ vector 0x80000000 0x40000000 0x80000000 0x80000000
    -- the smallest subnormal doubled; halved, a tie that goes to zero; three of it halved, a tie that goes to two
    ∷ vector 1 0x40000000 0 2
    ∷ vector 1 0x3f000000 0 0
    ∷ vector 3 0x3f000000 0 2
    -- (1 + 2^-23)^2 - 1: the product is rounded first, then the sum
    ∷ vector 0x3f800001 0x3f800001 0xbf800000 0x34800000
    -- the largest number times 2.0 and times -2.0; infinity less infinity; infinity times 0.0
    ∷ vector 0x7f7fffff 0x40000000 0 0x7f800000
    ∷ vector 0x7f7fffff 0xc0000000 0 0xff800000
    ∷ vector 0x7f800000 0x40000000 0xff800000 0x7fc00000
    ∷ vector 0x7f800000 0 0 0x7fc00000
    ∷ []

folds : map (λ v. fold (post v.scale v.offset) v.raw) vectors ≡ map (λ v. v.folded) vectors
unfolding fold scaled is_identity to_bits of_bits add mul
folds = refl
