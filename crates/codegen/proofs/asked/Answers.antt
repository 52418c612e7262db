use Rattle.std.proofs.lemmas.Result.{err_from_is_err_and}
use Rattle.codegen.proofs.Outcome.{refused_early_as}
use Rattle.codegen.proofs.asked.Goals as goal

pub returns-in_err-check_image : goal.returns-in_err-check_image
returns-in_err-check_image c =
    let p = err_from_is_err_and c.from_residual.result c.from_residual.ensures.1 in
    rw (p.1, p.2) (refused_early_as c.args.tree.now c.args.out.now c.in_err-check_image.field-0.0 c.in_err-check_image.ensures)
