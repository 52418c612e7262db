-- What a writer wrote, its reader reads back: the law of each combinator. Assumes nothing.
use mathlib.Core.Path.{◌≡◌, refl, ap, ◌∙◌}
use mathlib.Core.List.{List, [], ◌∷◌}
use Prim.Native.Nat.{ℕ, zero, suc, ◌+◌, ◌*◌, ◌^◌, ◌/◌, ◌%◌, ◌<◌}
use native.Mathlib.Nat.{div-add-mod', mod-lt, one-le-pow, pow-suc, pow-zero}
use native.Mathlib.Omega.{arith}
use lib.ListN.{length}
use Rattle.wire.specs.Bytes.{be}
use Rattle.wire.specs.Reader.{Got, got, ◌and◌, number, u, entries, times, list, lists}

-- the value a, written in front of any bytes, is read back, and the bytes are left
abbrev pub Back : {A : Type 0} → (A → List ℕ → List ℕ) → (List ℕ → Got A) → A → Type 0
Back put get a = (r : List ℕ) → get (put a r) ≡ got a r

pub pow_pos : (k : ℕ) → 0 < 256 ^ k
pow_pos k = one-le-pow k 256 (omega arith)

-- one law for every width
pub number_back : (k a v : ℕ) → v < 256 ^ k → (r : List ℕ) → number k a (be k v r) ≡ got (a * 256 ^ k + v) r
unfolding be number
number_back zero a v h r = ap (λ n. got n r) (rw pow-zero (let i : v < 1 = rw pow-zero at h in omega arith))
number_back (suc k) a v h r = number_back k (a * 256 + v / 256 ^ k) (v % 256 ^ k) (mod-lt v (pow_pos k)) r ∙ ap (λ n. got n r) (rw pow-suc (omega (arith, div-add-mod' v (256 ^ k))))

pub u_back : (k v : ℕ) → v < 256 ^ k → Back (be k) (u k) v
u_back k v h r = number_back k 0 v h r ∙ ap (λ n. got n r) (omega arith)

pub and_back : {A B : Type 0} (f : List ℕ → Got A) (g : A → List ℕ → Got B) {bytes : List ℕ} {a : A} {r : List ℕ} {z : Got B} → f bytes ≡ got a r → g a r ≡ z → (f and g) bytes ≡ z
unfolding ◌and◌
and_back f g p q = ap (λ x. g x.val x.rest) p ∙ q

module _ {A : Type 0} (put : A → List ℕ → List ℕ) (get : List ℕ → Got A) where
  -- each entry is read back
  abbrev pub All : List A → Type 0
  All [] = Unit {0}
  All (a ∷ xs) = Back put get a × All xs

  pub times_back : (xs : List A) → All xs → (r : List ℕ) → times get (length xs) (entries put xs r) ≡ got xs r
  unfolding entries times
  times_back [] h r = refl
  times_back (a ∷ xs) h r = and_back _ _ (h.0 (entries put xs r)) (and_back _ _ (times_back xs h.1 r) refl)

  pub list_back : (k : ℕ) (xs : List A) → length xs < 256 ^ k → All xs → Back (list put k) (lists get k) xs
  unfolding list lists
  list_back k xs h i r = and_back _ _ (u_back k (length xs) h (entries put xs r)) (times_back xs i r)
