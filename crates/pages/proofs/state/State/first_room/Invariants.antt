use Rattle.std.proofs.Common.{◌≡◌, ◌-◌}
use Rattle.pages.specs.State.{first_room}
use Rattle.pages.proofs.state.State.first_room.Given as goal

abbrev pub invariant-loop-p : goal.invariant-loop-p
invariant-loop-p l = first_room l.self.free l.size 0 l.self.opened ≡ first_room l.self.free l.size l.p (l.self.opened - l.p)
