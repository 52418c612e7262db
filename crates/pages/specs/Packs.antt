-- What a packing is. Definitions only.
use Rattle.std.specs.Prelude.{ℕ, zero, suc, ◌+◌, ◌≤◌, ◌<◌, max, ◌≡◌, cond, List, [], ◌∷◌, length, get_or, eqb}
use Rattle.pages.specs.declared.order.Image.{Image}
use Rattle.pages.specs.Order.{order}

-- f 0, f 1, .. up to n of them, added up
unfoldable pub upto : (ℕ → ℕ) → ℕ → ℕ
upto f zero = 0
upto f (suc n) = f n + upto f n

-- the bytes of image j that lie on page p, and all bytes on page p
abbrev pub part : List ℕ → (ℕ → ℕ) → ℕ → ℕ → ℕ
part xs page p j = cond (eqb (page j) p) (get_or xs j 0) 0

abbrev pub load : List ℕ → (ℕ → ℕ) → ℕ → ℕ
load xs page p = upto (part xs page p) (length xs)

-- each image has one of k pages, and no page has more than 4,096 bytes
pub record Packs (xs : List ℕ) (page : ℕ → ℕ) (k : ℕ) : Type 0 where
  pub within : (j : ℕ) → j < length xs → page j < k
  pub room : (p : ℕ) → load xs page p ≤ 4096

-- image by image, on an open page or on one new page: k are open before, m behind
unfoldable pub Opens : (ℕ → ℕ) → List Image → ℕ → ℕ → Type 0
Opens page [] k m = k ≡ m
Opens page (a ∷ bs) k m = (page a.index ≤ k) × Opens page bs (max k (page a.index + 1)) m

-- a packing whose pages are numbered as they are opened
pub record Packed (xs at : List ℕ) (k : ℕ) : Type 0 where
  pub packs : Packs xs (λ j. get_or at j 0) k
  pub opens : Opens (λ j. get_or at j 0) (order xs) 0 k
