use mathlib.Core.Path.{sym, ◌∙◌}
use native.Mathlib.Omega.{arith}
use lib.ListN.{take}
use Rattle.lowering.specs.Search.{hit}
use Rattle.lowering.proofs.Slots.{seek_first}
use Rattle.lowering.proofs.regions.Region.find.Goals as goal

pub returns-then-has_key : goal.returns-then-has_key
returns-then-has_key g c =
    (seek_first _ c.args.n 0 c.loop-i.i (omega arith) (omega arith) c.loop-i.invariant (λ l. sym c.has_key.ensures ∙ c.if-has_key.true), c.loop-i-test.true)

pub returns : goal.returns
returns g c =
    let l = c.skip-i.ensures.0 in
    seek_first (hit c.args.ws.now c.args.self.now.from g.row.WIDTH (take g.row.KEY c.args.words.now)) c.args.n 0 c.args.n (omega arith) (omega arith) (λ k a b. c.loop-i.invariant k a (omega arith)) (λ b. absurd (omega arith))
