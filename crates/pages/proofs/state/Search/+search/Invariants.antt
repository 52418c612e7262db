use Rattle.std.proofs.Common.{◌+◌, ◌-◌, ◌*◌}
use Rattle.pages.specs.Searched.{left_from, Searched}
use Rattle.pages.proofs.Turns.{turns}
use Rattle.pages.proofs.state.Search.+search.Given as goal

abbrev pub decreases-on_page : goal.decreases-on_page
decreases-on_page l = 2 * (l.self.now.count - l.i)

abbrev pub decreases-search : goal.decreases-search
decreases-search l = 2 * (l.self.now.count - l.i) + 1

abbrev pub invariant-search-loop-p : goal.invariant-search-loop-p
invariant-search-loop-p l = Searched l.fn.self (turns (left_from l.i l.fn.self) l.fn.self.placed l.p) l.budget l.self l.steps
