-- A post: its scale and offset as bit patterns, the identity, and the fold of a constant. Definitions only.
use Rattle.std.specs.Prelude.{ℕ, Bool, ◌&&◌, ◌||◌, cond, eqb}
use Rattle.std.specs.Float.{binary32}
use Rattle.std.specs.Float.Ieee.{of_bits, to_bits, add, mul}

-- 01, The tree image: "scale and offset as `f32` bits (4 each)"
pub record Post : Type 0 where
  pub scale : ℕ
  pub offset : ℕ

-- slot 0: scale 1.0, offset 0.0
abbrev pub identity : Post
identity = record { scale = 0x3f80_0000; offset = 0 }

-- 01, Modules: "scale 1.0 with offset 0.0 or -0.0 is identity"
unfoldable pub is_identity : Post → Bool
is_identity p = eqb p.scale 0x3f80_0000 && (eqb p.offset 0 || eqb p.offset 0x8000_0000)

-- 01, Modules: "one binary32 product, then one binary32 sum, each rounded to nearest, ties to even, subnormals kept;
-- a NaN result is 7FC00000": every NaN's pattern reads as the one NaN, whose pattern is that
unfoldable pub scaled : Post → ℕ → ℕ
scaled p raw = to_bits binary32 (add binary32 (mul binary32 (of_bits binary32 raw) (of_bits binary32 p.scale)) (of_bits binary32 p.offset))

-- the constant `raw` with the post folded in; the identity leaves its bits as they are
unfoldable pub fold : Post → ℕ → ℕ
fold p raw = cond (is_identity p) raw (scaled p raw)
