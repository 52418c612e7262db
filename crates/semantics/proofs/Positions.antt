-- Positions and pools: what stands where. Assumes nothing.
use mathlib.Core.Path.{◌≡◌, refl, ap, ◌∙◌}
use mathlib.Core.List.{List, [], ◌∷◌, ◌++◌, map, append-nil}
use Prim.Native.Nat.{ℕ, suc, ◌+◌}
use native.Mathlib.Omega.{arith}
use lib.ListN.{length, get_or, length-append}
use lib.Seq.{append_snoc, get_or_at}
use Rattle.semantics.specs.Positions.{◌⊕◌, past, slot, intern}

module _ {A : Type 0} where
  pub past_append : (xs ys : List A) (n : ℕ) → past (xs ++ ys) n ≡ past ys (past xs n)
  past_append [] ys n = refl
  past_append (x ∷ xs) ys n = past_append xs ys (suc n)

  pub past_plus : (xs : List A) (n : ℕ) → past xs n ≡ n + length xs
  past_plus [] n = omega arith
  past_plus (x ∷ xs) n = let h = past_plus xs (suc n) in omega arith

  pub past_length : (xs : List A) → past xs 0 ≡ length xs
  past_length xs = let h = past_plus xs 0 in omega arith

  -- f has the list's entries from position n on
  abbrev pub Holds : (ℕ → A) → ℕ → List A → Type 0
  Holds f n [] = Unit {0}
  Holds f n (x ∷ xs) = (f n ≡ x) × Holds f (suc n) xs

  pub holds_left : (f : ℕ → A) (n : ℕ) (xs ys : List A) → Holds f n (xs ++ ys) → Holds f n xs
  holds_left f n [] ys h = tt
  holds_left f n (x ∷ xs) ys h = (h.0, holds_left f (suc n) xs ys h.1)

  pub holds_right : (f : ℕ → A) (n : ℕ) (xs ys : List A) → Holds f n (xs ++ ys) → Holds f (past xs n) ys
  holds_right f n [] ys h = h
  holds_right f n (x ∷ xs) ys h = holds_right f (suc n) xs ys h.1

pub past_map : {A B : Type 0} (f : A → B) (xs : List A) (n : ℕ) → past (map f xs) n ≡ past xs n
past_map f [] n = refl
past_map f (x ∷ xs) n = past_map f xs (suc n)

-- a pool: what holds of an empty one, of one whose first entry has the key, and further on of one more, holds of every one
module _ {A K : Type 0} (key : A → K) (dec : (a b : K) → Dec (a ≡ b)) (v : A) (R : ℕ → List A → List A → ℕ → Type 0) (none : (n : ℕ) → R n [] (v ∷ []) n)
    (found : (n : ℕ) (x : A) (xs : List A) → key x ≡ key v → R n (x ∷ xs) (x ∷ xs) n) (further : (n : ℕ) (x : A) (xs ys : List A) (k : ℕ) → R (suc n) xs ys k → R n (x ∷ xs) (x ∷ ys) k) where
  pub interning : (n : ℕ) (xs : List A) → R n xs (intern key dec v xs) (slot key dec v n xs)
  unfolding intern slot
  interning n [] = none n
  interning n (x ∷ xs) = go (dec (key x) (key v)) (interning (suc n) xs)
    where
      go : (d : Dec (key x ≡ key v)) → R (suc n) xs (intern key dec v xs) (slot key dec v (suc n) xs) → R n (x ∷ xs) (elim d [ yes p ↦ x ∷ xs | no h ↦ x ∷ intern key dec v xs ]) (elim d [ yes p ↦ n | no h ↦ slot key dec v (suc n) xs ])
      go (yes p) i = found n x xs p
      go (no p) i = further n x xs _ _ i

-- what the program shows of an entry hangs on its key alone
module _ {A B K : Type 0} (key : A → K) (dec : (a b : K) → Dec (a ≡ b)) (shown : A → B) (f : ℕ → B) where
  pub intern_grows : (v : A) (n : ℕ) (xs : List A) → Holds f n (map shown (intern key dec v xs)) → Holds f n (map shown xs)
  intern_grows v = interning key dec v (λ n xs ys k. Holds f n (map shown ys) → Holds f n (map shown xs)) (λ n h. tt) (λ n x xs p h. h) (λ n x xs ys k i h. (h.0, i h.1))

  pub intern_has : ((a b : A) → key a ≡ key b → shown a ≡ shown b) → (v : A) (n : ℕ) (xs : List A) → Holds f n (map shown (intern key dec v xs)) → f (slot key dec v n xs) ≡ shown v
  intern_has e v = interning key dec v (λ n xs ys k. Holds f n (map shown ys) → f k ≡ shown v) (λ n h. h.0) (λ n x xs p h. h.0 ∙ e x v p) (λ n x xs ys k i h. i h.1)

-- lists by index
module _ {A : Type 0} where
  pub in_list : (d : A) (before xs behind : List A) (n : ℕ) → length before ≡ n → Holds (λ i. get_or (before ++ (xs ++ behind)) i d) n xs
  in_list d before [] behind n h = tt
  in_list d before (x ∷ xs) behind n h = (get_or_at before x (xs ++ behind) d n h, rw append_snoc at (in_list d (before ++ (x ∷ [])) xs behind (suc n) (simp length-append (omega arith))))

  pub whole_list : (d : A) (xs : List A) → Holds (λ i. get_or xs i d) 0 xs
  whole_list d xs = rw (append-nil xs) at (in_list d [] xs [] 0 refl)

  pub holds_map : {B : Type 0} (g : A → B) (f : ℕ → A) (n : ℕ) (xs : List A) → Holds f n xs → Holds (λ i. g (f i)) n (map g xs)
  holds_map g f n [] h = tt
  holds_map g f n (x ∷ xs) h = (ap g h.0, holds_map g f (suc n) xs h.1)

  pub shifted : (f : ℕ → A) (b n : ℕ) (xs : List A) → Holds f (b ⊕ n) xs → Holds (λ i. f (b ⊕ i)) n xs
  shifted f b n [] h = tt
  shifted f b n (x ∷ xs) h = (h.0, shifted f b (suc n) xs h.1)

  pub plus_past : (b : ℕ) (xs : List A) (n : ℕ) → b ⊕ past xs n ≡ past xs (b ⊕ n)
  plus_past b [] n = refl
  plus_past b (x ∷ xs) n = plus_past b xs (suc n)

  pub length_past : (before xs : List A) (n : ℕ) → length before ≡ n → length (before ++ xs) ≡ past xs n
  length_past before xs n h = simp length-append (let p = past_plus xs n in omega arith)
