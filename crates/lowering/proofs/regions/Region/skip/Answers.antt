use native.Mathlib.Omega.{arith}
use Rattle.std.proofs.Common.{rules}
use lib.ListN.{length, take}
use Rattle.lowering.specs.Search.{hit}
use Rattle.lowering.proofs.Skipped.{none_more, step_within}
use Rattle.lowering.proofs.regions.Region.skip.Goals as goal

pub loop-k-preserved : goal.loop-k-preserved
loop-k-preserved g c k a b =
    let s = c.args.self.now in
    none_more (hit c.args.ws.now s.from g.row.WIDTH (take g.row.KEY c.args.words.now)) _ _ _ c.loop-k.invariant (c.none_has.ensures c.if-not-none_has.false) k a (omega arith)

pub none_has-requires : goal.none_has-requires
none_has-requires g c =
    let s = c.args.self.now in
    let w = step_within s.from g.row.WIDTH g.row.STEP c.loop-k.k c.args.n (length c.args.ws.now) c.loop-k-test.true (omega (arith, c.place.ensures, c.if-ws-place.false)) in
    search rules
