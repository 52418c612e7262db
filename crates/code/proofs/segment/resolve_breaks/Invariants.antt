use mathlib.Core.Path.{◌≡◌}
use Prim.Native.Nat.{◌*◌, min}
use Rattle.code.specs.Segments.{range_resolved}
use Rattle.code.proofs.segment.resolve_breaks.Given as goal

abbrev pub invariant-loop-k : goal.invariant-loop-k
invariant-loop-k l = l.ws ≡ range_resolved l.fn.ws l.start (min (l.k * 8) l.all) l.ends.check l.ends.cleanup
