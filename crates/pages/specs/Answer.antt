-- The answer. Definitions only.
use Rattle.std.specs.Prelude.{ℕ, ◌+◌, ◌-◌, ◌/◌, Bool, cond, ◌&&◌, List, [], length, take, leb, ltb, Result, Ok, Err}
use Rattle.pages.specs.declared.BadList.{BadList}
use Rattle.pages.specs.declared.BadList.TheVariants.{TooManyImages, ImageTooLarge}
use Rattle.std.specs.List.{list_all, sum}
use Rattle.pages.specs.declared.Packing.{Packing}
use Rattle.pages.specs.Search.{best, steps}

-- the answer to a list: 0 or a refusal's number, each image's page in list order, how many pages, the steps taken, and the pages above the bound
pub record Answer : Type 0 where
  pub number : ℕ
  pub pages : List ℕ
  pub opened : ℕ
  pub steps : ℕ
  pub above : ℕ

-- "the total size divided by 4,096, rounded up"
abbrev pub needed : List ℕ → ℕ
needed xs = (sum xs + 4095) / 4096

-- no image is "above 4,096 bytes"
abbrev pub small : List ℕ → Bool
small xs = list_all (λ x. leb x 4096) xs

unfoldable pub packed : List ℕ → ℕ → Answer
packed xs budget = record {
  number = 0;
  pages = take (length xs) (best xs budget).pages;
  opened = (best xs budget).opened;
  steps = steps xs budget;
  above = (best xs budget).opened - needed xs;
}

-- the number of the refusal
abbrev pub REFUSED : ℕ
REFUSED = 19

-- "more than 32 images, or one above 4,096 bytes, gives 19, with an empty packing and both numbers 0"
unfoldable pub refused : Answer
refused = record { number = REFUSED; pages = []; opened = 0; steps = 0; above = 0 }

unfoldable pub answer : List ℕ → ℕ → Answer
answer xs budget = cond (leb (length xs) 32 && small xs) (packed xs budget) refused

-- the numbers of what the code answers
unfoldable pub shown : List ℕ → Result Packing BadList → Answer
shown xs (Ok p) = record { number = 0; pages = take (length xs) p.pages; opened = p.opened; steps = p.steps; above = p.above }
shown xs (Err why) = refused

-- which of the two checks the list does not pass; the first of them where it passes neither
abbrev pub reason : List ℕ → BadList
reason xs = cond (ltb 32 (length xs)) TooManyImages ImageTooLarge
