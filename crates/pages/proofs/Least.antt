-- No packing is further below ours than `above`. Assumes nothing.
use Rattle.std.proofs.Common.{◌≡◌, Bool, true, false, cond, ◌&&◌, List, ℕ, zero, suc, ◌+◌, ◌≤◌, ◌<◌, arith, length, get_or, leb}
use Rattle.pages.specs.Packs.{upto, part, load, Packs}
use Rattle.pages.specs.Answer.{needed, small, packed, refused, answer}
use Rattle.pages.proofs.Sums.{upto_none, upto_add, upto_le, upto_one, sum_is}

-- the bytes of the first n images are those on the pages, added up
pages_sum : (xs : List ℕ) (page : ℕ → ℕ) (k n : ℕ) → ((j : ℕ) → j < n → page j < k) → upto (λ p. upto (part xs page p) n) k ≡ upto (λ j. get_or xs j 0) n
unfolding upto
pages_sum xs page k zero h = upto_none k
pages_sum xs page k (suc n) h =
    let one = upto_one (page n) (get_or xs n 0) k (h n (omega arith)) in
    let rest = pages_sum xs page k n (λ j l. h j (omega arith)) in
    omega (arith, upto_add (λ p. part xs page p n) (λ p. upto (part xs page p) n) k, one, rest)

-- Any packing has as many pages as the total size divided by 4,096, rounded up, or more.
pub least : (xs : List ℕ) (page : ℕ → ℕ) (k : ℕ) → Packs xs page k → needed xs ≤ k
least xs page k h = omega (arith, pages_sum xs page k (length xs) h.within, upto_le (λ p. load xs page p) k h.room, sum_is xs)

above_by : (t : Bool) (xs : List ℕ) (b k : ℕ) → needed xs ≤ k → (cond t (packed xs b) refused).opened ≤ k + (cond t (packed xs b) refused).above
unfolding packed refused
above_by true xs b k h = omega arith
above_by false xs b k h = omega arith

-- No packing of these images has fewer pages than ours less `above`.
pub none_below : (xs : List ℕ) (b : ℕ) (page : ℕ → ℕ) (k : ℕ) → Packs xs page k → (answer xs b).opened ≤ k + (answer xs b).above
unfolding answer
none_below xs b page k h = above_by (leb (length xs) 32 && small xs) xs b k (least xs page k h)
