use mathlib.Core.Path.{◌∙◌}
use Rattle.ast.proofs.WholeTable.{rules, rule_at_lem}
use Rattle.ast.proofs.rule_number.Goals as goal

pub returns : goal.returns
unfolding rules
returns c = c.rule_in.ensures ∙ rule_at_lem c.args.op c.ranges.op.fits
