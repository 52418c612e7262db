use Rattle.std.proofs.Common.{arith, sym}
use Rattle.std.proofs.lemmas.List.{get_or-map, get_or_past}
use Rattle.ast.specs.Rules.{rules, plain, refused}
use Rattle.ast.specs.Meaning.{meaning}
use Rattle.ast.specs.declared.rules.Rule.TheVariants.{Return}
use Rattle.ast.specs.declared.rules.TheConstants.{BY_NUMBER}
use Rattle.ast.proofs.rules.RuleFromU8.from.Goals as goal

pub returns-then-place-lt53 : goal.returns-then-place-lt53
unfolding rules
returns-then-place-lt53 c =
    rw c.from-place.ensures
    (sym (get_or-map meaning BY_NUMBER c.args.number Return (plain refused) (omega (arith, c.from-place.ensures, c.if-place-lt53.true))))

pub returns : goal.returns
unfolding rules
returns c = sym (get_or_past rules c.args.number _ (omega (arith, c.from-place.ensures, c.if-place-lt53.false)))
