use mathlib.Core.Path.{◌≡◌}
use Rattle.code.specs.Segments.{range_resolved}
use Rattle.code.proofs.segment.resolve_each.Given as goal

abbrev pub invariant-loop-i : goal.invariant-loop-i
invariant-loop-i l = l.ws ≡ range_resolved l.fn.ws l.from l.i l.ends.check l.ends.cleanup
