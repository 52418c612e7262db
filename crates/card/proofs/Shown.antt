-- The entries that a workspace shows are written as the program's image has them: numbers, words, hashes and texts. Assumes nothing.
use mathlib.Core.Path.{◌≡◌, refl, ap, ap₂, sym, ◌∙◌}
use mathlib.Core.List.{List, [], ◌∷◌, ◌++◌, append_assoc, append-nil}
use Prim.Native.Nat.{ℕ, zero, suc, ◌+◌, ◌*◌, ◌^◌, ◌<◌}
use native.Mathlib.Numerals.{add-one}
use native.Mathlib.Nat.{add-zero}
use native.Mathlib.Omega.{arith}
use lib.ListN.{length, get_or}
use Rattle.wire.specs.Bytes.{be8, be}
use Rattle.wire.specs.Reader.{entries, list}
use Rattle.wire.proofs.Numbers.{be_append, be_eight}
use Rattle.numeric.specs.Post.{Post, identity}
use Rattle.program.specs.Image.{put_post, put_text}
use Rattle.program.specs.Fits.{Below, Every, FitPost}
use Rattle.card.specs.Written.{cat}
use Rattle.workspace.specs.Words.{plus}
use Rattle.card.specs.Image.{word_entry, byte_entry, text_bytes, dotted_bytes, hash_bytes}
use Rattle.card.specs.Holds.{Each, WordsAre, PostIs, HashIs, HashesAre, TextIs}

-- a number in front of what follows
pub number : (k v : ℕ) (r : List ℕ) → be k v r ≡ be k v [] ++ r
number k v r = be_append k v [] r

-- the same where each is written otherwise
pub field : (k : ℕ) {v w : ℕ} {r s : List ℕ} → v ≡ w → r ≡ s → be k v r ≡ be k w [] ++ s
field k {v} {w} {r} e f = number k v r ∙ ap₂ (λ n l. be k n [] ++ l) e f

-- bytes in front of what follows, which is written otherwise
pub front : (a : List ℕ) {r s t : List ℕ} → t ≡ a ++ r → r ≡ s → t ≡ a ++ s
front a e f = e ∙ ap (λ l. a ++ l) f

-- what every entry has, one has
pub every_at : {A : Type 0} (Q : A → Type 0) (d : A) (xs : List A) → Every Q xs → (k : ℕ) → k < length xs → Q (get_or xs k d)
every_at {A = A} Q d [] h k l = elim l [ ]
every_at Q d (a ∷ xs) h zero l = h.0
every_at Q d (a ∷ xs) h (suc k) l = every_at Q d xs h.1 k (omega arith)

cat_front : (f : ℕ → List ℕ) (n : ℕ) → cat f (suc n) ≡ f 0 ++ cat (λ k. f (suc k)) n
unfolding cat
cat_front f zero = sym (append-nil (f 0))
cat_front f (suc n) = ap (λ l. l ++ f (suc n)) (cat_front f n) ∙ append_assoc (f 0) (cat (λ k. f (suc k)) n) (f (suc n))

-- entries that are written as f has them
module _ {A : Type 0} (put : A → List ℕ → List ℕ) (d : A) where
  pub entries_cat : (xs : List A) (f : ℕ → List ℕ) → ((k : ℕ) → k < length xs → (r : List ℕ) → put (get_or xs k d) r ≡ f k ++ r) → (r : List ℕ) → entries put xs r ≡ cat f (length xs) ++ r
  unfolding entries cat
  entries_cat [] f h r = refl
  entries_cat (a ∷ xs) f h r =
      h 0 (omega arith) (entries put xs r)
      ∙ ap (λ l. f 0 ++ l) (entries_cat xs (λ k. f (suc k)) (λ k q. h (suc k) (omega arith)) r)
      ∙ sym (append_assoc (f 0) (cat (λ k. f (suc k)) (length xs)) r) ∙ ap (λ l. l ++ r) (sym (cat_front f (length xs)))

  -- n of them
  pub counted : (xs : List A) (f : ℕ → List ℕ) {n : ℕ} → length xs ≡ n → ((k : ℕ) → k < length xs → (r : List ℕ) → put (get_or xs k d) r ≡ f k ++ r) → (r : List ℕ) → entries put xs r ≡ cat f n ++ r
  counted xs f e h r = entries_cat xs f h r ∙ ap (λ m. cat f m ++ r) e

-- words
sum_fits : (x b : ℕ) {v : ℕ} → x + b ≡ v → v < 256 ^ 4 → v ≡ plus x b
sum_fits x b e h = omega arith

pub words_are : (ws : List ℕ) (from base : ℕ) (xs : List ℕ) {n : ℕ} → length xs ≡ n → WordsAre ws from base xs → Every (Below 4) xs → (r : List ℕ) → entries (be 4) xs r ≡ cat (word_entry ws from base) n ++ r
words_are ws from base xs e q h =
    counted (be 4) 0 xs (word_entry ws from base) e
    (λ k l r. field 4 (sum_fits (get_or ws (from + k) 0) base (q k l) (every_at (Below 4) 0 xs h k l)) refl)

-- pairs of words
cat_pairs : (f : ℕ → List ℕ) (n : ℕ) → cat f (2 * n) ≡ cat (λ k. f (2 * k) ++ f (2 * k + 1)) n
unfolding cat
cat_pairs f zero = refl
cat_pairs f (suc n) =
    let e : 2 * suc n ≡ suc (suc (2 * n)) = omega arith in
    ap (cat f) e ∙ append_assoc (cat f (2 * n)) (f (2 * n)) (f (suc (2 * n))) ∙ ap₂ (λ a b. a ++ (f (2 * n) ++ f b)) (cat_pairs f n) (sym (add-one (2 * n)))

module _ {A : Type 0} (put : A → List ℕ → List ℕ) (d : A) (ws : List ℕ) (from : ℕ) where
  -- two words as they stand
  abbrev Pair : A → ℕ → ℕ → Type 0
  Pair a x y = (x < 256 ^ 4) × (y < 256 ^ 4) × ((r : List ℕ) → put a r ≡ be 4 x [] ++ be 4 y [] ++ r)

  pair : (k : ℕ) (a : A) → Pair a (get_or ws (from + 2 * k) 0) (get_or ws (from + 2 * k + 1) 0) → (r : List ℕ) → put a r ≡ (word_entry ws from 0 (2 * k) ++ word_entry ws from 0 (2 * k + 1)) ++ r
  pair k a q r =
      let e : from + 2 * k + 1 ≡ from + (2 * k + 1) = omega arith in
      let x = get_or ws (from + 2 * k) 0 in
      let y = get_or ws (from + 2 * k + 1) 0 in
      q.2 r ∙ ap₂ (λ v w. be 4 v [] ++ be 4 w [] ++ r) (sum_fits x 0 (add-zero x) q.0) (sum_fits y 0 (add-zero y) q.1 ∙ ap (λ i. plus (get_or ws i 0) 0) e)

  pub pairs_are : (xs : List A) {n : ℕ} → length xs ≡ n → Each d (λ k a. Pair a (get_or ws (from + 2 * k) 0) (get_or ws (from + 2 * k + 1) 0)) xs → (r : List ℕ) → entries put xs r ≡ cat (word_entry ws from 0) (2 * n) ++ r
  pairs_are xs {n} e q r =
      counted put d xs (λ k. word_entry ws from 0 (2 * k) ++ word_entry ws from 0 (2 * k + 1)) e (λ k l. pair k (get_or xs k d) (q k l)) r
      ∙ ap (λ l. l ++ r) (sym (cat_pairs (word_entry ws from 0) n))

-- posts
pub posts_are : (ws : List ℕ) (from : ℕ) (xs : List Post) {n : ℕ} → length xs ≡ n → Each identity (λ k p. PostIs ws (from + 2 * k) p) xs → Every FitPost xs → (r : List ℕ) → entries put_post xs r ≡ cat (word_entry ws from 0) (2 * n) ++ r
unfolding put_post
posts_are ws from xs e q h =
    pairs_are put_post identity ws from xs e
    (λ k l. let p = get_or xs k identity in let f = every_at FitPost identity xs h k l in let s = q k l in (
      rw s.scale f.scale,
      rw s.offset f.offset,
      λ r. field 4 (sym s.scale) (field 4 (sym s.offset) refl) ∙ sym (append_assoc (be 4 _ []) (be 4 _ []) r),
    ))

-- hashes
pub hash_is : (ws : List ℕ) (k v : ℕ) → HashIs ws k v → (r : List ℕ) → be 8 v r ≡ hash_bytes ws k ++ r
hash_is ws k v q r = number 8 v r ∙ ap (λ l. l ++ r) (be_eight v ∙ ap₂ (λ x y. be 4 x [] ++ be 4 y []) (sym q.high) (sym q.low))

pub hashes_are : (ws : List ℕ) (from : ℕ) (xs : List ℕ) {n : ℕ} → length xs ≡ n → HashesAre ws from xs → Every (Below 8) xs → (r : List ℕ) → entries (be 8) xs r ≡ cat (word_entry ws from 0) (2 * n) ++ r
hashes_are ws from xs e q h =
    pairs_are (be 8) 0 ws from xs e
    (λ k l. let v = get_or xs k 0 in let f = every_at (Below 8) 0 xs h k l in let s = q k l in
    (rw s.high (omega arith), rw s.low (omega arith), hash_is ws (from + 2 * k) v s))

-- texts
letters_are : (tree : List ℕ) (o : ℕ) (t : List ℕ) → TextIs tree o t → (r : List ℕ) → entries (be 1) t r ≡ cat (byte_entry tree (o + 1)) (be8 tree o 0) ++ r
letters_are tree o t q =
    counted (be 1) 0 t (byte_entry tree (o + 1)) (sym q.count ∙ ap (λ i. get_or tree i 0) (sym (add-zero o)))
    (λ k l r. field 1 (sym (q.letters k l)) refl)

size_is : (tree : List ℕ) (o : ℕ) (t : List ℕ) → TextIs tree o t → length t ≡ be8 tree o 0
size_is tree o t q = sym q.count ∙ ap (λ i. get_or tree i 0) (sym (add-zero o))

pub text_is : (tree : List ℕ) (o : ℕ) (t : List ℕ) → TextIs tree o t → (r : List ℕ) → put_text t r ≡ text_bytes tree o ++ r
unfolding put_text list text_bytes
text_is tree o t q r =
    field 2 (size_is tree o t q) (letters_are tree o t q r)
    ∙ sym (append_assoc (be 2 (be8 tree o 0) []) (cat (byte_entry tree (o + 1)) (be8 tree o 0)) r)

pub dotted_is : (tree : List ℕ) (o : ℕ) (t : List ℕ) → TextIs tree o t → (r : List ℕ) → put_text (46 ∷ t) r ≡ dotted_bytes tree o ++ r
unfolding put_text list entries dotted_bytes
dotted_is tree o t q r =
    let n = be8 tree o 0 in
    let e : suc (length t) ≡ n + 1 = ap suc (size_is tree o t q) ∙ sym (add-one n) in
    let m = cat (byte_entry tree (o + 1)) n in
    field 2 e (field 1 refl (letters_are tree o t q r))
    ∙ sym (append_assoc (be 2 (n + 1) []) (be 1 46 []) (m ++ r)) ∙ sym (append_assoc (be 2 (n + 1) [] ++ be 1 46 []) m r)
