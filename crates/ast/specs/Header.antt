-- The header of a tree image: its fields, the bytes and levels that an image may have, and the two settings. Definitions only.
use Rattle.std.specs.Prelude.{Bool, List, ℕ, eqb}
use Rattle.wire.specs.Bytes.{be8, be32}

-- 01, The tree image: "Byte 0 is 1."
abbrev pub VERSION : ℕ
VERSION = 1

abbrev pub version_of : List ℕ → ℕ
version_of s = be8 s 0 0

-- 01, The tree image: "A 4-byte length of all that follows."
abbrev pub rest_of : List ℕ → ℕ
rest_of s = be32 s 0 1

-- 01, The tree image: "Arrays byte (0 Unresolved, 1 FromHost)."
abbrev pub arrays_of : List ℕ → ℕ
arrays_of s = be8 s 0 5

-- 01, The tree image: "Divisor byte (0 Signed, 1 Absolute)"
abbrev pub divisor_of : List ℕ → ℕ
divisor_of s = be8 s 0 6

pub record Settings : Type 0 where
  pub from_host : Bool
  pub absolute : Bool

unfoldable pub settings : List ℕ → Settings
settings s = record { from_host = eqb (arrays_of s) 1; absolute = eqb (divisor_of s) 1 }

-- 01, The tree image: "Then the root node."
abbrev pub ROOT : ℕ
ROOT = 7

-- 01, Nine questions, 2: "5 to 6,144 bytes"; the shortest has a version and a length alone
abbrev pub SHORTEST : ℕ
SHORTEST = 5

abbrev pub LONGEST : ℕ
LONGEST = 6144

-- 02, C-12: "That becomes the limit in question 4: level 31 passes, level 32 gives 4"; 01: "the root is level 1"
abbrev pub LEVELS : ℕ
LEVELS = 31

-- a node takes 16 bytes or more, so the longest image holds no more levels
abbrev pub ALL_LEVELS : ℕ
ALL_LEVELS = 383
