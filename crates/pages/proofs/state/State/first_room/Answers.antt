use mathlib.Core.Path.{◌∙◌}
use native.Mathlib.Omega.{arith}
use Rattle.std.proofs.Common.{rules}
use Rattle.pages.proofs.Rooms.{goes_on}
use Rattle.pages.proofs.state.State.first_room.Goals as goal

pub loop-p-preserved : goal.loop-p-preserved
loop-p-preserved c = c.loop-p.invariant ∙ goes_on _ _ _ _ (omega arith) (search rules)
