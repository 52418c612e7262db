-- A post as a record of two floats, and as the record of its two bit patterns that the code holds. Definitions only.
use Rattle.std.specs.Prelude.{ℕ, Bool, ◌&&◌, cond}
use Rattle.std.specs.Float.{binary32}
use Rattle.std.specs.Float.Ieee.{of_bits, to_bits, add, mul, eq}
use Rattle.numeric.specs.Post.{Post}
use Rattle.numeric.specs.declared.PostBits.{PostBits}
use Rattle.numeric.specs.declared.PostOp.{PostOp}

-- the post of two bit patterns
abbrev pub post : ℕ → ℕ → Post
post s o = record { scale = s; offset = o }

-- the post that the code's pair of patterns stands for
abbrev pub patterns : PostBits → Post
patterns p = post p.scale p.offset

-- the floats of a post's patterns
abbrev pub post_of : Post → PostOp
post_of p = record { scale = of_bits binary32 p.scale; offset = of_bits binary32 p.offset }

-- the patterns of a post's floats; a NaN's is 7FC00000
abbrev pub patterns_of : PostOp → Post
patterns_of p = post (to_bits binary32 p.scale) (to_bits binary32 p.offset)

-- 1.0 and 0.0 by their patterns; `eq` takes -0.0 for 0.0
unfoldable pub identity_op : PostOp → Bool
identity_op p = eq p.scale (of_bits binary32 0x3f80_0000) && eq p.offset (of_bits binary32 0)

unfoldable pub scaled_op : PostOp → ℕ → ℕ
scaled_op p raw = to_bits binary32 (add binary32 (mul binary32 (of_bits binary32 raw) p.scale) p.offset)

unfoldable pub fold_op : PostOp → ℕ → ℕ
fold_op p raw = cond (identity_op p) raw (scaled_op p raw)
