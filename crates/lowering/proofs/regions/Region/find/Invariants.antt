use lib.ListN.{take}
use Rattle.lowering.specs.Search.{hit, NoneHas}
use Rattle.lowering.proofs.regions.Region.find.Given as goal

abbrev pub invariant-loop-i : goal.invariant-loop-i
invariant-loop-i g l = NoneHas (hit l.ws l.self.from g.row.WIDTH (take g.row.KEY l.words)) 0 l.i
