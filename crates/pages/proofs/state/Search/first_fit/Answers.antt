use mathlib.Core.Path.{refl, sym, ap, ◌∙◌}
use native.Mathlib.Omega.{arith}
use Rattle.std.proofs.Common.{rules, ◌≡◌, ◌+◌, max}
use Rattle.pages.proofs.Rooms.{one_more, none_left}
use Rattle.pages.proofs.state.Search.first_fit.Goals as goal

pub loop-i-preserved : goal.loop-i-preserved
loop-i-preserved c =
    let l = c.loop-i.invariant in
    let o : c.put.new.self.opened ≡ max c.loop-i.state.opened (c.first_room-p.result + 1) = ap (λ s. s.opened) c.put.ensures in (
      omega (arith, o, l.0, c.first_room-p.ensures.1),
      l.1 ∙ one_more c.args.images.now c.loop-i.i c.args.count c.loop-i.state _ _ _ _ (omega arith) (search rules) refl c.first_room-p.ensures.0 c.put.ensures,
    )

pub returns : goal.returns
returns c =
    let e : c.loop-i.i ≡ c.args.count = omega (arith, c.loop-i-test.false, c.loop-i.auto.i-end) in
    sym (rw e at c.loop-i.invariant.1 ∙ none_left c.args.images.now c.args.count c.loop-i.state)
