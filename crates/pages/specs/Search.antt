-- The search: "placements are tried in that order, page by page, an open page before one new page, each placement costing one step, up to a budget".
-- Definitions only.
use Rattle.std.specs.Prelude.{ℕ, ◌+◌, min, Bool, true, false, cond, List, [], ◌∷◌, length, take, ltb}
use Rattle.std.specs.List.{flat_map, range_with_len, fold}
use Rattle.pages.specs.declared.order.Image.{Image}
use Rattle.pages.specs.declared.state.State.{State}
use Rattle.pages.specs.Order.{order}
use Rattle.pages.specs.State.{empty, put, has_room, start}

-- a step: an image was placed; these images are still to be placed
pub record Visit : Type 0 where
  pub left : List Image
  pub state : State

-- a page with room is a step, and then come the steps below it; "a page without room is passed over and costs no step"
unfoldable pub tried : Bool → (State → List Visit) → List Image → State → List Visit
tried false below bs st = []
tried true below bs st = record { left = bs; state = st } ∷ below st

-- all steps, "depth first over all such placements": the open pages in order, and then one new page
unfoldable pub visits : List Image → State → List Visit
visits [] st = []
visits (a ∷ bs) st = flat_map (λ p. tried (has_room a p st) (visits bs) bs (put a p st)) (range_with_len 0 (st.opened + 1))

-- those that begin with the first of the images on page p
unfoldable pub on_page : List Image → ℕ → State → List Visit
on_page [] p st = []
on_page (a ∷ bs) p st = tried true (visits bs) bs (put a p st)

abbrev pub all_visits : List ℕ → List Visit
all_visits xs = visits (order xs) empty

-- the packings among some steps: no image is left
unfoldable pub ended : List Image → State → List State → List State
ended [] st ss = st ∷ ss
ended (a ∷ bs) st ss = ss

unfoldable pub packings : List Visit → List State
packings [] = []
packings (v ∷ vs) = ended v.left v.state (packings vs)

-- the packings met within the budget
abbrev pub met : List ℕ → ℕ → List State
met xs budget = packings (take budget (all_visits xs))

-- "the first packing met with the fewest pages"
abbrev pub better : State → State → State
better best st = cond (ltb st.opened best.opened) st best

abbrev pub fewest : State → List State → State
fewest best ss = fold better best ss

-- "the start included at no steps"
abbrev pub best : List ℕ → ℕ → State
best xs budget = fewest (start xs) (met xs budget)

-- "the steps taken, which equal those of the written search"
abbrev pub steps : List ℕ → ℕ → ℕ
steps xs budget = min budget (length (all_visits xs))
