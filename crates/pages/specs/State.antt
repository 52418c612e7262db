-- Images on pages, and the start. Definitions only.
use Rattle.std.specs.Prelude.{ℕ, zero, suc, ◌+◌, ◌-◌, max, Bool, cond, List, [], ◌∷◌, replicate, get_or, set, leb}
use Rattle.pages.specs.declared.order.Image.{Image}
use Rattle.pages.specs.declared.state.State.{State}
use Rattle.pages.specs.declared.state.There.{There}
use Rattle.pages.specs.Order.{order}

-- no image is placed, and no page is open
abbrev pub empty : State
empty = record { free = replicate 32 4096; pages = replicate 32 0; opened = 0 }

-- what a placement of an image on page p changes, and the state with that changed
abbrev pub there : Image → ℕ → State → There
there a p st = record { room = get_or st.free p 0; page = get_or st.pages a.index 0; opened = st.opened }

abbrev pub put_back : Image → ℕ → There → State → State
put_back a p t st = record { free = set st.free p t.room; pages = set st.pages a.index t.page; opened = t.opened }

-- the image goes on page p
abbrev pub put : Image → ℕ → State → State
put a p st = put_back a p (record { room = get_or st.free p 0 - a.size; page = p; opened = max st.opened (p + 1) }) st

-- whether page p has room for an image
abbrev pub has_room : Image → ℕ → State → Bool
has_room a p st = leb a.size (get_or st.free p 0)

-- the first of the q pages from p on that has so many bytes left, else the page behind them
unfoldable pub first_room : List ℕ → ℕ → ℕ → ℕ → ℕ
first_room free s p zero = p
first_room free s p (suc q) = cond (leb s (get_or free p 0)) p (first_room free s (suc p) q)

-- "each on the first page with room"
unfoldable pub started : List Image → State → State
started [] st = st
started (a ∷ bs) st = started bs (put a (first_room st.free a.size 0 st.opened) st)

abbrev pub start : List ℕ → State
start xs = started (order xs) empty
