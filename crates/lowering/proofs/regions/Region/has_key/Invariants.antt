use Rattle.lowering.proofs.Hits.{Stood}
use Rattle.lowering.proofs.regions.Region.has_key.Given as goal

abbrev pub invariant-loop-j : goal.invariant-loop-j
invariant-loop-j g l = Stood l.ws l.at g.row.KEY l.words l.j
