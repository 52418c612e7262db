-- A folded constant is a number of four bytes. Assumes nothing.
use Prim.Native.Nat.{ℕ, ◌^◌, ◌<◌}
use mathlib.Core.Bool.{Bool, true, false, cond}
use lib.Ieee.{binary32, of_bits, mul}
use lib.Ieee.Bits.{to_bits-lt}
use lib.Ieee.Fits.{add-fits}
use Rattle.numeric.specs.Post.{Post, is_identity, scaled, fold}

pub scaled_fits : (p : Post) (raw : ℕ) → scaled p raw < 2 ^ 32
unfolding scaled
scaled_fits p raw = to_bits-lt binary32 _ (add-fits binary32 (mul binary32 (of_bits binary32 raw) (of_bits binary32 p.scale)) (of_bits binary32 p.offset))

pub fold_fits : (p : Post) (raw : ℕ) → raw < 2 ^ 32 → fold p raw < 2 ^ 32
unfolding fold
fold_fits p raw h = pick (is_identity p)
  where
    pick : (b : Bool) → cond b raw (scaled p raw) < 2 ^ 32
    pick true = h
    pick false = scaled_fits p raw

-- the same, as a width in bytes
pub fold_fits_four : (p : Post) (raw : ℕ) → raw < 256 ^ 4 → fold p raw < 256 ^ 4
fold_fits_four p raw h = fold_fits p raw h
