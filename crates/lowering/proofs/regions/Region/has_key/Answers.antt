use mathlib.Core.Path.{◌≡◌, sym, ◌∙◌}
use Prim.Native.Nat.{◌-◌}
use native.Mathlib.Omega.{arith}
use borrow.Author.Tests.{ne_eqb}
use Rattle.lowering.specs.Search.{stands, hit}
use Rattle.lowering.proofs.Hits.{stands_false, stood_on}
use Rattle.lowering.proofs.regions.Region.has_key.Goals as goal

pub returns-then-word-words : goal.returns-then-word-words
unfolding hit
returns-then-word-words g c =
    let w = c.args.self.now.within in
    sym (stands_false c.args.ws.now _ _ c.args.words.now c.loop-j.j c.loop-j-test.true (omega arith) (rw (← c.place-at.ensures, ← c.word.ensures) (ne_eqb _ _ c.if-word-words.true)))

pub loop-j-preserved : goal.loop-j-preserved
loop-j-preserved g c =
    let w = c.args.self.now.within in
    stood_on c.args.ws.now _ _ c.args.words.now c.loop-j.j c.loop-j-test.true (omega arith) (sym c.word.ensures ∙ c.if-word-words.false) c.loop-j.invariant

pub returns : goal.returns
unfolding hit stands
returns g c =
    let e : g.row.KEY - c.loop-j.j ≡ 0 = omega arith in
    sym (rw (← c.place-at.ensures) (rw e at c.loop-j.invariant))
