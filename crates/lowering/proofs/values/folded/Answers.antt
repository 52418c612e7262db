use mathlib.Core.Path.{ap, ◌∙◌}
use native.Mathlib.Omega.{arith}
use Rattle.numeric.specs.Post.{Post, fold}
use Rattle.numeric.specs.PostOp.{patterns, fold_op}
use Rattle.numeric.specs.declared.PostOp.{PostOp}
use Rattle.numeric.proofs.Identity.{fold_is}
use Rattle.lowering.proofs.values.folded.Goals as goal

pub returns : goal.returns
returns c =
    let raw = c.args.raw in
    let bits = c.bits_of in
    c.fold.ensures ∙ ap (λ (q : PostOp). fold_op q raw) c.from.ensures ∙ fold_is (patterns bits.result) raw (omega arith) (omega arith) ∙ ap (λ (p : Post). fold p raw) bits.ensures
