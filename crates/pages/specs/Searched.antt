-- What the code's search does. Definitions only.
use Rattle.std.specs.Prelude.{ℕ, ◌≡◌, min, List, length, take, drop}
use Rattle.pages.specs.declared.order.Image.{Image}
use Rattle.pages.specs.declared.state.Search.{Search}
use Rattle.pages.specs.Search.{Visit, fewest, packings}

-- the images that are left from place i of the order on
abbrev pub left_from : ℕ → Search → List Image
left_from i s = drop i (take s.count s.images)

-- from s to t in at most `budget` of these steps: so many were taken, the best packing met is kept, and all else is as it was
pub record Searched (s : Search) (vs : List Visit) (budget : ℕ) (t : Search) (taken : ℕ) : Type 0 where
  pub steps : taken ≡ min budget (length vs)
  pub left : t ≡ record s { best = fewest s.best (packings (take budget vs)) }
