-- Where each section of the image begins, counted from the back. Definitions only.
use Rattle.std.specs.Prelude.{List, [], ◌∷◌, ℕ, ◌+◌, ◌-◌, length, take, drop}
use Rattle.card.specs.declared.Sections.{Sections}
use Rattle.card.specs.declared.measure.Sums.{Sums}
use Rattle.card.specs.Image.{closing_bytes, sections_of, image_of}

-- 02, C-20: "the nine section sizes are added up from calls to code": one step of the sum over a section, those behind it first
unfoldable pub sum_of : List (List ℕ) → ℕ
sum_of [] = 0
sum_of (section ∷ behind) = length section + sum_of behind

-- the running sum that ends with section k, counted from 0
unfoldable pub sum_to : List ℕ → List ℕ → Sections → ℕ → ℕ
sum_to tree ws c k = sum_of (drop k (sections_of tree ws c))

unfoldable pub sums_of : List ℕ → List ℕ → Sections → Sums
sums_of tree ws c = record {
  code = sum_to tree ws c 0;
  consts = sum_to tree ws c 1;
  posts = sum_to tree ws c 2;
  hashes = sum_to tree ws c 3;
  names = sum_to tree ws c 4;
  temps = sum_to tree ws c 5;
  members = sum_to tree ws c 6;
  stores = sum_to tree ws c 7;
  calls = sum_to tree ws c 8;
}

-- 02, C-20: "each section begins at the image's length less the closing fields less the running sum that ends with it"
unfoldable pub closing_start : List ℕ → List ℕ → Sections → ℕ
closing_start tree ws c = length (image_of tree ws c) - length (closing_bytes c)

unfoldable pub start_from_back : List ℕ → List ℕ → Sections → ℕ → ℕ
start_from_back tree ws c k = closing_start tree ws c - sum_to tree ws c k

-- the same place from the front: behind byte 0, the length's 4 bytes and the sections before it
unfoldable pub start_from_front : List ℕ → List ℕ → Sections → ℕ → ℕ
start_from_front tree ws c k = 1 + 4 + sum_of (take k (sections_of tree ws c))
