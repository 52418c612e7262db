-- Counts compared count by count: at most is transitive, the greater of two is above both, and what fits its field. Assumes nothing.
use mathlib.Core.Path.{◌≡◌}
use native.Mathlib.Omega.{arith}
use Rattle.std.specs.Prelude.{max}
use Rattle.program.specs.Counts.{Counts, all, pairwise, EachCount, AtMost}
use Rattle.program.specs.Fits.{FitCounts}

pub same_counts : {a b : Counts} → EachCount (λ m n. m ≡ n) a b → a ≡ b
same_counts h = λ i. record { operands = h.operands i; loops = h.loops i; handlers = h.handlers i }

pub transitive : {a b c : Counts} → AtMost a b → AtMost b c → AtMost a c
transitive h k = omega arith

pub below_left : (a c : Counts) → AtMost a (pairwise max a c)
below_left a c = omega arith

pub below_right : (a c : Counts) → AtMost c (pairwise max a c)
below_right a c = omega arith

-- 65,535 is the most that 2 bytes hold
pub counts_fit : {d : Counts} → AtMost d (all 65535) → FitCounts d
counts_fit h = omega arith

pub counts_fitted : {d : Counts} → FitCounts d → AtMost d (all 65535)
counts_fitted h = omega arith
