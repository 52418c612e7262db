-- What holds of every answer. Assumes nothing.
use Rattle.std.proofs.Common.{◌≡◌, List, ◌∷◌, ◌++◌, map, ℕ, suc, ◌+◌, ◌-◌, ◌≤◌, ◌<◌, min, true, arith, length, get_or, take}
use Rattle.std.specs.List.{All, range_with_len}
use Rattle.std.specs.List.Sorted.{IsPermutation}
use Rattle.std.proofs.lemmas.List.Elements.{All-from_recursion}
use Rattle.pages.specs.declared.order.Image.{Image}
use Rattle.pages.specs.declared.state.State.{State}
use Rattle.pages.specs.Order.{before, image, order}
use Rattle.pages.specs.State.{start}
use Rattle.pages.specs.Search.{all_visits, packings, met, best}
use Rattle.pages.specs.Packs.{Packs, Packed}
use Rattle.pages.specs.Answer.{needed, packed, refused, answer}
use Rattle.pages.proofs.Budget as Budget
use Rattle.pages.proofs.Least as Least
use Rattle.pages.proofs.Sorted as Sorted
use Rattle.pages.proofs.Packed as Packings
use Rattle.pages.proofs.First as First
use Rattle.pages.proofs.Fewest as Fewest
use Rattle.pages.proofs.Refused as Refused

-- A larger budget never gives more pages.
pub larger_budget : (xs : List ℕ) (b c : ℕ) → b ≤ c → (answer xs c).opened ≤ (answer xs b).opened
larger_budget = Budget.larger_budget

-- No packing of these images, whatever way it was found, has fewer pages than ours less `above`.
pub no_packing_below : (xs : List ℕ) (b : ℕ) (page : ℕ → ℕ) (k : ℕ) → Packs xs page k → (answer xs b).opened ≤ k + (answer xs b).above
no_packing_below = Least.none_below

-- Of a list that is not refused
module _ (xs : List ℕ) (b : ℕ) (taken : (answer xs b).number ≡ 0) where
  is_packed : answer xs b ≡ packed xs b
  is_packed = Refused.is_packed xs b taken

  few : length xs ≤ 32
  few = Refused.few xs b taken

  low : (j : ℕ) → get_or xs j 0 ≤ 4096
  low = Refused.low xs b taken

  -- Every packing met, the start included, is a packing, and its pages are numbered as they are opened.
  pub every_met_packs : All (λ st. Packed xs st.pages st.opened) (start xs ∷ met xs b)
  every_met_packs = All-from_recursion (λ st. Packed xs st.pages st.opened) (start xs ∷ met xs b) (Packings.each_packs xs few low b)

  -- So is the answer.
  pub answer_packs : Packed xs (answer xs b).pages (answer xs b).opened
  unfolding packed
  answer_packs = rw is_packed (Packings.best_packs xs few low b)

  -- As many pages are listed as there are images.
  pub pages_listed : length (answer xs b).pages ≡ length xs
  unfolding packed
  pages_listed = rw is_packed (Packings.best_listed xs few low b)

  -- The pages are those of the best packing met, for each image of the list.
  pub pages_are : (answer xs b).pages ≡ take (length xs) (best xs b).pages
  unfolding packed
  pages_are = rw is_packed

  -- They are as many as it opened.
  pub opened_is : (answer xs b).opened ≡ (best xs b).opened
  unfolding packed
  opened_is = rw is_packed

  -- The best is the first packing met with the fewest pages, the start included: those before it have more, and those behind it as many or more.
  pub first_fewest : (us : List State) × (ts : List State) × (start xs ∷ met xs b ≡ us ++ best xs b ∷ ts)
      × All (λ st. (answer xs b).opened < st.opened) us × All (λ st. (answer xs b).opened ≤ st.opened) ts
  unfolding packed
  first_fewest =
      let f = Fewest.first_fewest (start xs) (met xs b) in
      rw is_packed (f.0, f.1, f.2, All-from_recursion _ f.0 f.3, All-from_recursion _ f.1 f.4)

  -- `above` is by how much the pages are above the total size divided by 4,096, rounded up.
  pub above_is : (answer xs b).opened ≡ needed xs + (answer xs b).above
  unfolding packed
  above_is =
      let l = Least.least xs (λ j. get_or (answer xs b).pages j 0) (answer xs b).opened answer_packs.packs in
      let e : (answer xs b).above ≡ (answer xs b).opened - needed xs = rw is_packed in
      omega arith

  -- The steps are those of the written search, up to the budget.
  pub steps_are : (answer xs b).steps ≡ min b (length (all_visits xs))
  unfolding packed
  steps_are = rw is_packed

  -- If there is an image, the search meets the start before any other packing.
  pub start_again : 0 < length xs → (ss : List State) × (packings (all_visits xs) ≡ start xs ∷ ss)
  start_again = First.start_again xs few low

-- Each page of a packing has an image.
pub no_page_empty : (xs at : List ℕ) (k : ℕ) → Packed xs at k → (p : ℕ) → p < k → (j : ℕ) × (j < length xs) × (get_or at j 0 ≡ p)
no_page_empty = Packings.no_page_empty

-- More than 32 images are refused.
pub refused_many : (xs : List ℕ) (b : ℕ) → 32 < length xs → answer xs b ≡ refused
refused_many = Refused.many

-- A list with an image above 4,096 bytes is refused.
pub refused_large : (xs : List ℕ) (b j : ℕ) → 4096 < get_or xs j 0 → answer xs b ≡ refused
refused_large = Refused.large

-- No other list is refused.
pub no_other_refused : (xs : List ℕ) (b : ℕ) → length xs ≤ 32 → ((j : ℕ) → get_or xs j 0 ≤ 4096) → (answer xs b).number ≡ 0
no_other_refused = Refused.no_other

-- The order has each image of the list once.
pub order_each_once : (xs : List ℕ) → IsPermutation (map (image xs) (range_with_len 0 (length xs))) (order xs)
order_each_once = Sorted.order_moves

-- Each image of the order goes before the next one: it is larger, or as large and earlier in the list.
pub order_sorted : (xs : List ℕ) (i : ℕ) (d : Image) → suc i < length xs → before (get_or (order xs) i d) (get_or (order xs) (suc i) d) ≡ true
order_sorted = Sorted.order_sorted
