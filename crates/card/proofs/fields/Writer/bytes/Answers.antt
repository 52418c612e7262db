use Rattle.std.proofs.Common.{refl, arith}
use Rattle.card.proofs.Copied.{copied}
use Rattle.card.proofs.fields.Writer.bytes.Goals as goal

pub returns-then-k-room : goal.returns-then-k-room
returns-then-k-room c = record {
  same = refl;
  wrote = rw c.from-k.ensures (copied _ _ _ _ _ _ _ _ (omega arith) (omega arith) (omega arith) (omega arith) c.copy_from_slice.ensures.after);
  within = omega arith;
}
