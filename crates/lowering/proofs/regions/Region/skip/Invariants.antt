use Prim.Native.Nat.{◌*◌}
use lib.ListN.{take}
use Rattle.lowering.specs.Search.{hit, NoneHas}
use Rattle.lowering.proofs.regions.Region.skip.Given as goal

abbrev pub invariant-loop-k : goal.invariant-loop-k
invariant-loop-k g l = NoneHas (hit l.ws l.self.from g.row.WIDTH (take g.row.KEY l.words)) (g.row.STEP * l.first) (g.row.STEP * l.k)
