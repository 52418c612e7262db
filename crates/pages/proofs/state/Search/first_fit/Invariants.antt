use Rattle.std.proofs.Common.{◌≡◌, ◌≤◌, take, drop}
use Rattle.pages.specs.State.{empty, started}
use Rattle.pages.proofs.state.Search.first_fit.Given as goal

abbrev pub invariant-loop-i : goal.invariant-loop-i
invariant-loop-i l = (l.state.opened ≤ l.i) × (started (take l.count l.images) empty ≡ started (drop l.i (take l.count l.images)) l.state)
