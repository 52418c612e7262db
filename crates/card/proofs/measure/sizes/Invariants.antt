use Rattle.std.proofs.Common.{◌≡◌, ◌*◌, ◌≤◌, length}
use Rattle.card.specs.Written.{cat}
use Rattle.card.proofs.measure.sizes.Given as goal

abbrev pub invariant-loop-i : goal.invariant-loop-i
invariant-loop-i g l = (l.sum ≡ length (cat (g.E.Entries.bytes_of l.entries) l.i)) × (l.sum ≤ 1048576 * l.i)
