use native.Mathlib.Omega.{arith}
use Rattle.lowering.proofs.Skipped.{key_missed}
use Rattle.lowering.proofs.regions.Region.none_has.Goals as goal

pub returns-then-none_is : goal.returns-then-none_is
returns-then-none_is g c e =
    let w = c.args.self.now.within in
    key_missed c.args.ws.now _ _ _ c.args.words.now c.loop-j.j _ g.row.STEP c.loop-j-test.true (omega arith) (rw c.place-at.ensures at (c.none_is.ensures c.if-none_is.true))
