-- Sums, over the images of a list in any order. Assumes nothing.
use Rattle.std.proofs.Common.{◌≡◌, refl, Bool, true, false, cond, List, [], ◌∷◌, ◌++◌, ℕ, zero, suc, ◌+◌, ◌*◌, ◌≤◌, ◌<◌, arith, length, get_or, eqb, sum}
use Rattle.std.proofs.lemmas.Bool.Decides.{nat_tests}
use Rattle.std.proofs.lemmas.List.Sums.{sum_by-cons}
use Rattle.pages.specs.declared.order.Image.{Image}
use Rattle.pages.specs.Order.{before, insert, image, ordered}
use Rattle.pages.specs.Packs.{upto}

-- a number of each image, added up
unfoldable pub over : (Image → ℕ) → List Image → ℕ
over f [] = 0
over f (a ∷ bs) = f a + over f bs

pub over_append : (f : Image → ℕ) (bs cs : List Image) → over f (bs ++ cs) ≡ over f bs + over f cs
unfolding over
over_append f [] cs = omega arith
over_append f (b ∷ bs) cs = omega (arith, over_append f bs cs)

swapped : (f : Image → ℕ) (c : Bool) (a b : Image) → f (cond c a b) + f (cond c b a) ≡ f a + f b
swapped f true a b = refl
swapped f false a b = omega arith

over_insert : (f : Image → ℕ) (a : Image) (bs : List Image) → over f (insert a bs) ≡ f a + over f bs
unfolding insert over
over_insert f a [] = refl
over_insert f a (b ∷ bs) = let c = before a b in omega (arith, over_insert f (cond c b a) bs, swapped f c a b)

-- over the order it is the sum over the list
pub over_ordered : (f : Image → ℕ) (xs : List ℕ) (n : ℕ) → over f (ordered xs n) ≡ upto (λ j. f (image xs j)) n
unfolding ordered over upto
over_ordered f xs zero = refl
over_ordered f xs (suc n) = omega (arith, over_insert f (image xs n) (ordered xs n), over_ordered f xs n)

pub upto_none : (k : ℕ) → upto (λ p. 0) k ≡ 0
unfolding upto
upto_none zero = refl
upto_none (suc k) = omega (arith, upto_none k)

pub upto_same : (f g : ℕ → ℕ) (k : ℕ) → ((p : ℕ) → p < k → f p ≡ g p) → upto f k ≡ upto g k
unfolding upto
upto_same f g zero h = refl
upto_same f g (suc k) h = omega (arith, h k, upto_same f g k (λ p l. h p (omega arith)))

pub upto_add : (f g : ℕ → ℕ) (k : ℕ) → upto (λ p. f p + g p) k ≡ upto f k + upto g k
unfolding upto
upto_add f g zero = refl
upto_add f g (suc k) = omega (arith, upto_add f g k)

pub upto_le : (f : ℕ → ℕ) (k : ℕ) → ((p : ℕ) → f p ≤ 4096) → upto f k ≤ 4096 * k
unfolding upto
upto_le f zero h = omega arith
upto_le f (suc k) h = omega (arith, upto_le f k h, h k)

-- a number that stands at one place only
pub upto_out : (q s k : ℕ) → k ≤ q → upto (λ p. cond (eqb q p) s 0) k ≡ 0
unfolding upto
upto_out q s zero h = refl
upto_out q s (suc k) h = grind (arith, nat_tests, upto_out q s k (omega arith))

pub upto_one : (q s k : ℕ) → q < k → upto (λ p. cond (eqb q p) s 0) k ≡ s
unfolding upto
upto_one q s zero h = absurd (omega arith)
upto_one q s (suc k) h = grind (arith, nat_tests, upto_out q s k, λ (l : q < k). upto_one q s k l)

upto_front : (f : ℕ → ℕ) (n : ℕ) → upto f (suc n) ≡ f 0 + upto (λ j. f (suc j)) n
unfolding upto
upto_front f zero = refl
upto_front f (suc n) = omega (arith, upto_front f n)

pub sum_is : (xs : List ℕ) → sum xs ≡ upto (λ j. get_or xs j 0) (length xs)
unfolding upto
sum_is [] = refl
sum_is (x ∷ xs) = omega (arith, sum_by-cons (λ n. n) x xs, sum_is xs, upto_front (λ j. get_or (x ∷ xs) j 0) (length xs))
