-- 01, The program image: "Sub: .. Signed 0, Absolute 1"; ast's Subs has the other numbers. Definitions only.
use Rattle.std.specs.Prelude.{ℕ}
use Rattle.program.specs.declared.subs.Divisor.{Divisor}
use Rattle.program.specs.declared.subs.Divisor.TheVariants.{Signed, Absolute}

abbrev pub divisor_of : Divisor → ℕ
divisor_of Signed = 0
divisor_of Absolute = 1
