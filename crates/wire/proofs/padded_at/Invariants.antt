use Rattle.std.proofs.Common.{◌≡◌, length}
use Rattle.wire.specs.Reads.{AreAt}
use Rattle.wire.proofs.padded_at.Given as goal

abbrev pub invariant-loop-i : goal.invariant-loop-i
invariant-loop-i g l = (length l.bytes ≡ g.row.N) × AreAt l.fn.s l.fn.p l.fn.k l.i l.bytes
