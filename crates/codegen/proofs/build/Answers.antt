use Rattle.std.proofs.Common.{List, ℕ, ◌++◌, drop, ap, arith}
use Rattle.codegen.specs.Build.{shown}
use Rattle.codegen.proofs.Outcome.{all_bytes, built, too_short}
use Rattle.codegen.proofs.build.Goals as goal

pub returns-in_default : goal.returns-in_default
returns-in_default c = too_short c.args.tree.now c.args.workspace.now c.args.out.now c.in_default.ensures.cases

pub returns : goal.returns
returns c =
    let a = c.args in
    built a.tree.now a.workspace.now a.out.now _ _ (shown c.inside.result)
    (all_bytes a.tree.now (λ i l. omega (arith, c.type_inv.tree i)))
    c.in-Some.ensures.cases.enough
    c.inside.ensures.0
    (ap (λ (l : List ℕ). l ++ drop 16384 a.workspace.now) c.inside.ensures.1)
