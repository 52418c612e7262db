use mathlib.Core.Path.{◌≡◌, sym, ap, ◌∙◌}
use Prim.Native.Nat.{◌-◌}
use Rattle.std.specs.Prelude.{Some}
use Rattle.ast.specs.Meaning.{meaning}
use Rattle.ast.specs.Node.{first_at}
use Rattle.lowering.specs.Rules.{path_end}
use Rattle.lowering.proofs.Paths.{goes_on}
use Rattle.lowering.proofs.assign.+path_end.Goals as goal

pub returns : goal.returns
returns t c =
    let a = c.args in
    let s = a.node.image.now.now in
    let z = c.if-levels-eq0.false in
    let below : path_end s (a.levels - 1) (first_at s a.node.at) ≡ Some c.in_ok-e.e =
    sym (ap (λ n. path_end n.image.now.now (a.levels - 1) n.at) c.first.ensures.0) ∙ sym c.path_end.ensures ∙ c.in_ok-e.was in
    let link = sym c.rule.ensures ∙ ap meaning c.in-Member.is in
    let on = goes_on s a.levels a.node.at z link c.payload_of-p.ensures c.in-Member-p.is c.count.ensures c.if-count-eq0.false below in
    rw c.saturating_add.ensures on
