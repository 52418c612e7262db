-- A larger budget never gives more pages. Assumes nothing.
use Rattle.std.proofs.Common.{◌≡◌, ap, ◌∙◌, Bool, true, false, cond, ◌&&◌, List, ◌++◌, ℕ, ◌+◌, ◌-◌, ◌≤◌, arith, length, leb, take, drop, take-add}
use Rattle.std.proofs.lemmas.List.Sums.{fold-append}
use Rattle.pages.specs.declared.state.State.{State}
use Rattle.pages.specs.State.{start}
use Rattle.pages.specs.Search.{packings, all_visits, met, better, fewest, best}
use Rattle.pages.specs.Answer.{small, packed, refused, answer}
use Rattle.pages.proofs.Turns.{packings_append}
use Rattle.pages.proofs.Fewest.{fewest_le}

-- the packings met with a smaller budget are the first of those met with a larger one
met_more : (xs : List ℕ) (b d : ℕ) → met xs (b + d) ≡ met xs b ++ packings (take d (drop b (all_visits xs)))
met_more xs b d = rw (take-add b d (all_visits xs), packings_append)

fewer_pages : (xs : List ℕ) (b c : ℕ) → b ≤ c → (best xs c).opened ≤ (best xs b).opened
fewer_pages xs b c h =
    let e : b + (c - b) ≡ c = omega arith in
    let more = packings (take (c - b) (drop b (all_visits xs))) in
    let f = rw e at (ap (fewest (start xs)) (met_more xs b (c - b)) ∙ fold-append better (start xs) (met xs b) more) in
    omega (arith, ap (λ (s : State). s.opened) f, fewest_le (best xs b) more)

answered : (t : Bool) (xs : List ℕ) (b c : ℕ) → b ≤ c → (cond t (packed xs c) refused).opened ≤ (cond t (packed xs b) refused).opened
unfolding packed
answered true xs b c h = fewer_pages xs b c h
answered false xs b c h = omega arith

-- A larger budget never gives more pages.
pub larger_budget : (xs : List ℕ) (b c : ℕ) → b ≤ c → (answer xs c).opened ≤ (answer xs b).opened
unfolding answer
larger_budget xs b c h = answered (leb (length xs) 32 && small xs) xs b c h
