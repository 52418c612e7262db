use mathlib.Core.Path.{◌≡◌}
use mathlib.Core.Bool.{false}
use Rattle.lowering.specs.Search.{Without}
use Rattle.lowering.proofs.pools.none_is.Given as goal

abbrev pub invariant-loop-i : goal.invariant-loop-i
invariant-loop-i g l = l.some ≡ false → Without l.ws l.at g.row.WIDTH l.key l.i
