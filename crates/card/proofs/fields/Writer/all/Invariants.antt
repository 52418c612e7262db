use Rattle.std.proofs.Common.{◌*◌}
use Rattle.card.specs.Written.{cat}
use Rattle.card.specs.Puts.{Puts}
use Rattle.card.proofs.fields.Writer.all.Given as goal

abbrev pub invariant-loop-i : goal.invariant-loop-i
invariant-loop-i g l = let e = g.E.Entries in Puts l.initial.w l.w (cat (e.bytes_of l.entries) l.i) (e.most * l.i)
