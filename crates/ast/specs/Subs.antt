-- 01, The program image: "Sub: Lt 0, Le 1, Ge 2, Gt 3; Eq 0, Ne 1". Definitions only.
use Rattle.std.specs.Prelude.{ℕ}
use Rattle.ast.specs.declared.subs.Comparison.{Comparison}
use Rattle.ast.specs.declared.subs.Comparison.TheVariants.{Lt, Le, Ge, Gt}
use Rattle.ast.specs.declared.subs.Equality.{Equality}
use Rattle.ast.specs.declared.subs.Equality.TheVariants.{Eq, Ne}

abbrev pub comparison_of : Comparison → ℕ
comparison_of Lt = 0
comparison_of Le = 1
comparison_of Ge = 2
comparison_of Gt = 3

abbrev pub equality_of : Equality → ℕ
equality_of Eq = 0
equality_of Ne = 1
