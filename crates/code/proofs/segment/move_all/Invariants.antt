use mathlib.Core.Path.{◌≡◌}
use Rattle.code.specs.Segments.{relocated_range}
use Rattle.code.proofs.segment.move_all.Given as goal

abbrev pub invariant-loop-i : goal.invariant-loop-i
invariant-loop-i l = l.ws ≡ relocated_range l.fn.ws l.from l.to l.i l.by
