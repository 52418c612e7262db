-- The first packing that the search completes is the start again. Assumes nothing.
use Rattle.std.proofs.Common.{◌≡◌, refl, sym, ap, subst, ◌∙◌, Bool, true, false, cond, List, [], ◌∷◌, ◌++◌, ℕ, zero, suc, ◌+◌, ◌≤◌, ◌<◌, arith, length, get_or, le-leb, add-one}
use Rattle.std.specs.List.{range_with_len, flat_map}
use Rattle.pages.specs.declared.order.Image.{Image}
use Rattle.pages.specs.declared.state.State.{State}
use Rattle.pages.specs.Order.{order}
use Rattle.pages.specs.State.{empty, put, has_room, first_room, started, start}
use Rattle.pages.specs.Search.{Visit, tried, visits, all_visits, ended, packings}
use Rattle.pages.proofs.Turns.{packings_append}
use Rattle.pages.proofs.Sorted.{length_order}
use Rattle.pages.proofs.Packed.{Fit, Good, room_behind, first_good, order_fit, empty_good}

-- the first page with room, and then the others
module _ (a : Image) (left : List Image) (st : State) where
  abbrev on : ℕ → List Visit
  on p = tried (has_room a p st) (visits left) left (put a p st)

  abbrev From : ℕ → List State
  From p = ended left (put a p st) (packings (visits left (put a p st)))

  by_room : (p f : ℕ) (rest : List Visit) (c : Bool) → ((ss : List State) × (packings rest ≡ From f ++ ss))
      → (ss : List State) × (packings (tried c (visits left) left (put a p st) ++ rest) ≡ From (cond c p f) ++ ss)
  unfolding tried packings
  by_room p f rest true r = (packings rest, packings_append (tried true (visits left) left (put a p st)) rest)
  by_room p f rest false r = r

  pages_first : (p q e : ℕ) → p + q ≡ e → a.size ≤ get_or st.free e 0
      → (ss : List State) × (packings (flat_map on (range_with_len p (suc q))) ≡ From (first_room st.free a.size p q) ++ ss)
  unfolding first_room tried packings
  pages_first p zero e z h =
      let y : e ≡ p = omega arith in
      let l : a.size ≤ get_or st.free p 0 = rw y at h in
      ([], rw (le-leb a.size (get_or st.free p 0) l) (packings_append (tried true (visits left) left (put a p st)) []))
  pages_first p (suc q) e z h =
      let f = first_room st.free a.size (suc p) q in
      let F : ℕ → Type 0 = λ n. (ss : List State) × (packings (flat_map on (range_with_len n (suc q))) ≡ From f ++ ss) in
      by_room p f _ (has_room a p st) (subst F (sym (add-one p)) (pages_first (suc p) q e (omega arith) h))

module _ (o : List Image) (fit : Fit o) where
  started_first : (left : List Image) (st : State) → Good o left st → (ss : List State) × (ended left st (packings (visits left st)) ≡ started left st ∷ ss)
  unfolding visits ended started packings
  started_first [] st g = ([], refl)
  started_first (a ∷ left) st g =
      let r = pages_first a left st 0 st.opened st.opened (omega arith) (room_behind o fit a left st g) in
      let i = started_first left (put a (first_room st.free a.size 0 st.opened) st) (first_good o fit a left st g) in
      (i.0 ++ r.0, rw (add-one st.opened) (r.1 ∙ ap (λ w. w ++ r.0) i.1))

some_left : (left : List Image) (st : State) (ss : List State) → 0 < length left → ended left st ss ≡ ss
unfolding ended
some_left [] st ss h = absurd (omega arith)
some_left (a ∷ left) st ss h = refl

-- Of a list with an image the search meets the start before any other packing.
pub start_again : (xs : List ℕ) → length xs ≤ 32 → ((j : ℕ) → get_or xs j 0 ≤ 4096) → 0 < length xs
    → (ss : List State) × (packings (all_visits xs) ≡ start xs ∷ ss)
start_again xs few low some =
    let i = started_first (order xs) (order_fit xs few low) (order xs) empty (empty_good xs few low) in
    (i.0, sym (some_left (order xs) empty _ (omega (arith, length_order xs))) ∙ i.1)
