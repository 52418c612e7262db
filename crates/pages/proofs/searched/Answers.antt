use mathlib.Core.Path.{refl, ◌∙◌}
use Rattle.std.proofs.Common.{rules, ◌≡◌}
use Rattle.pages.specs.Order.{order}
use Rattle.pages.specs.State.{start}
use Rattle.pages.specs.Searched.{left_from}
use Rattle.pages.proofs.Whole.{none_placed}
use Rattle.pages.proofs.searched.Goals as goal

pub returns-then-is_empty : goal.returns-then-is_empty
returns-then-is_empty c = rw c.new-search.ensures.3 (rw c.order_of.ensures (none_placed c.args.sizes.now c.args.budget (search rules)))

pub returns : goal.returns
returns c =
    let n = c.new-search.ensures in
    let left : left_from 0 c.new-search.result ≡ order c.args.sizes.now = rw (n.1, n.0) c.order_of.ensures in
    let first : c.new-search.result.best ≡ start c.args.sizes.now = n.3 ∙ rw c.order_of.ensures refl in
    rw (c.search-taken.ensures.steps, c.search-taken.ensures.left, first, left, n.2) refl
