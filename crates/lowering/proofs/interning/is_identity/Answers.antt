use mathlib.Core.Path.{ap, ◌∙◌}
use native.Mathlib.Omega.{arith}
use Rattle.numeric.specs.PostOp.{patterns, identity_op}
use Rattle.numeric.proofs.Identity.{identity_is}
use Rattle.lowering.proofs.interning.is_identity.Goals as goal

pub returns : goal.returns
returns c = c.is_identity.ensures ∙ ap identity_op c.requires ∙ identity_is (patterns c.args.bits) (omega arith) (omega arith)
