use native.Mathlib.Omega.{arith}
use Rattle.pages.specs.Answer.{shown, packed}
use Rattle.pages.proofs.Whole.{too_many, too_large, taken}
use Rattle.pages.proofs.pack.Goals as goal

pub returns-then-sizes-gt-IMAGES-clause-answer : goal.returns-then-sizes-gt-IMAGES-clause-answer
unfolding shown
returns-then-sizes-gt-IMAGES-clause-answer c = too_many _ _ (omega arith)

pub returns-then-not-is_small-clause-answer : goal.returns-then-not-is_small-clause-answer
unfolding shown
returns-then-not-is_small-clause-answer c = too_large _ _ c.if-not-is_small.ensures

pub returns-clause-answer : goal.returns-clause-answer
unfolding shown packed
returns-clause-answer c =
    rw (c.above.ensures, c.listed-pages.ensures.0, c.searched-steps.ensures, c.pages_needed.ensures) (taken c.args.sizes.now c.args.budget c.if-sizes-gt-IMAGES.false c.if-not-is_small.ensures)
