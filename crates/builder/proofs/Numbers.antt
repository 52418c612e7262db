-- Refusals that are numbers, where 0 says that there is none: the first one stays. Assumes nothing.
use Rattle.std.proofs.Common.{Option, None, Some}
use Rattle.std.specs.Option.{option_or}
use Rattle.std.proofs.Math.Dec.{eqb-suc-zero}
use mathlib.Core.Path.{◌≡◌, refl}
use mathlib.Core.Bool.{cond}
use Prim.Native.Nat.{ℕ, zero, suc}
use lib.Dec.{eqb}

-- the number of what may be a refusal
abbrev pub as_number : Option ℕ → ℕ
as_number None = 0
as_number (Some n) = n

pub first_number : (r : Option ℕ) (n : ℕ) → (r ≡ Some 0 → ⊥) → as_number (option_or r (Some n)) ≡ cond (eqb (as_number r) 0) n (as_number r)
first_number None n some = refl
first_number (Some zero) n some = absurd (some refl)
first_number (Some (suc k)) n some = rw (eqb-suc-zero k) refl
