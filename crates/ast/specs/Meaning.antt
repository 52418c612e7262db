-- The rule that each case of the code's enum is. Definitions only.
use Rattle.std.specs.Prelude.{ℕ, ◌≡◌, true, false, get_or}
use Rattle.ast.specs.Rules as U
use Rattle.ast.specs.Subs.{comparison_of, equality_of}
use Rattle.ast.specs.declared.rules.Plain.{Plain}
use Rattle.ast.specs.declared.rules.Plain.TheVariants as P
use Rattle.ast.specs.declared.rules.Rule.{Rule}
use Rattle.ast.specs.declared.rules.Rule.TheVariants as R

abbrev pub plain_meaning : Plain → U.Plain
plain_meaning P.Array = U.array
plain_meaning P.UsesArrays = U.uses_arrays
plain_meaning P.UsesResources = U.uses_resources
plain_meaning P.Float = U.float
plain_meaning P.String = U.string
plain_meaning P.Resource = U.resource
plain_meaning P.This = U.this
plain_meaning P.Load = U.load
plain_meaning P.Query = U.query
plain_meaning (P.Compare o) = U.compare (comparison_of o)
plain_meaning (P.Equal o) = U.equal (equality_of o)
plain_meaning P.And = U.logic true
plain_meaning P.Or = U.logic false
plain_meaning P.Coalesce = U.coalesce
plain_meaning P.Conditional = U.conditional
plain_meaning P.Statements = U.statements
plain_meaning P.Loop = U.loop
plain_meaning P.ForEach = U.for_each
plain_meaning P.Break = U.break
plain_meaning P.Continue = U.continue
plain_meaning P.Assign = U.assign
plain_meaning P.Bracket = U.bracket
plain_meaning P.Negate = U.unary true
plain_meaning P.Not = U.unary false
plain_meaning P.Add = U.add
plain_meaning P.Mul = U.mul
plain_meaning P.Div = U.div
plain_meaning P.HostMath = U.host_math false
plain_meaning P.HostMathVolatile = U.host_math true
plain_meaning P.Generic = U.generic
plain_meaning P.Refused = U.refused

abbrev pub meaning : Rule → U.Rule
meaning R.Return = U.return
meaning R.Member = U.member
meaning R.Entity = U.entity
meaning R.Pointer = U.pointer
meaning (R.Plain r) = U.plain (plain_meaning r)

-- the rule of that number
abbrev pub HasNumber : ℕ → Rule → Type 0
HasNumber number r = meaning r ≡ get_or U.rules number (U.plain U.refused)
