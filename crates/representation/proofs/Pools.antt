-- A table of entries with keys after interning: what is searched, counted and stored is what the pool's definition says. Assumes nothing.
use Rattle.std.proofs.Common.{lt-ltb, le-ltb, rules, ◌≡◌, refl, sym, ap, subst, ◌∙◌, Bool, List, [], ◌∷◌, ◌++◌, ℕ, zero, suc, ◌+◌, ◌*◌, ◌≤◌, ◌<◌, arith, length, get_or, length-append}
use native.Mathlib.Nat.{mul-suc, mul-zero}
use native.Mathlib.Decide.{dec_lt}
use lib.Seq.{sets}
use Rattle.semantics.specs.Positions.{slot, intern}
use Rattle.semantics.proofs.Costs.{weigh}
use Rattle.semantics.proofs.Sizes.{weigh_length}
use Rattle.lowering.specs.Search.{seek}
use Rattle.lowering.specs.Regions.{appended_count, appended_words, interned_index, interned_count, interned_words}
use Rattle.lowering.proofs.Slots.{same, seek_slot}
use Rattle.representation.proofs.Rows.{Rows, Local, Apart, Agree, rows_agree, rows_snoc, sets_apart, sets_stored}
use Rattle.representation.proofs.Represents.{Table}
use Rattle.representation.proofs.Keeps.{agree_below}

-- ---- the definition's pools

module _ {A K : Type 0} (key : A → K) (dec : (a b : K) → Dec (a ≡ b)) (v : A) where
  -- an entry of that key is there
  pub intern_old : (xs : List A) (m : ℕ) → slot key dec v m xs < m + length xs → intern key dec v xs ≡ xs
  unfolding slot intern
  intern_old [] m h = absurd (omega arith)
  intern_old (x ∷ xs) m h = go (dec (key x) (key v)) h (λ k. intern_old xs (suc m) k)
    where
      go : (d : Dec (key x ≡ key v)) → elim d [ yes p ↦ m | no q ↦ slot key dec v (suc m) xs ] < m + suc (length xs) → (slot key dec v (suc m) xs < suc m + length xs → intern key dec v xs ≡ xs) → elim d [ yes p ↦ x ∷ xs | no q ↦ x ∷ intern key dec v xs ] ≡ x ∷ xs
      go (yes p) k ih = refl
      go (no q) k ih = ap (λ (l : List A). x ∷ l) (ih (omega arith))

  -- none is
  pub intern_new : (xs : List A) (m : ℕ) → m + length xs ≤ slot key dec v m xs → intern key dec v xs ≡ xs ++ (v ∷ [])
  unfolding slot intern
  intern_new [] m h = refl
  intern_new (x ∷ xs) m h = go (dec (key x) (key v)) h (λ k. intern_new xs (suc m) k)
    where
      go : (d : Dec (key x ≡ key v)) → m + suc (length xs) ≤ elim d [ yes p ↦ m | no q ↦ slot key dec v (suc m) xs ] → (suc m + length xs ≤ slot key dec v (suc m) xs → intern key dec v xs ≡ xs ++ (v ∷ [])) → elim d [ yes p ↦ x ∷ xs | no q ↦ x ∷ intern key dec v xs ] ≡ x ∷ (xs ++ (v ∷ []))
      go (yes p) k ih = absurd (omega arith)
      go (no q) k ih = ap (λ (l : List A). x ∷ l) (ih (omega arith))

  pub length_intern : (xs : List A) → length xs ≤ length (intern key dec v xs)
  unfolding intern
  length_intern [] = omega arith
  length_intern (x ∷ xs) = go (dec (key x) (key v)) (length_intern xs)
    where
      go : (d : Dec (key x ≡ key v)) → length xs ≤ length (intern key dec v xs) → suc (length xs) ≤ length {A = A} (elim d [ yes p ↦ x ∷ xs | no q ↦ x ∷ intern key dec v xs ])
      go (yes p) ih = omega arith
      go (no q) ih = omega arith

  pub slot_within : (xs : List A) (m : ℕ) → slot key dec v m xs ≤ m + length xs
  unfolding slot
  slot_within [] m = omega arith
  slot_within (x ∷ xs) m = go (dec (key x) (key v)) (slot_within xs (suc m))
    where
      go : (d : Dec (key x ≡ key v)) → slot key dec v (suc m) xs ≤ suc m + length xs → elim d [ yes p ↦ m | no q ↦ slot key dec v (suc m) xs ] ≤ m + suc (length xs)
      go (yes p) ih = omega arith
      go (no q) ih = omega arith

  -- the search through words comes to the slot
  pub search_slot : (hit : ℕ → Bool) (xs : List A) → ((i : ℕ) → i < length xs → hit i ≡ same (dec (key (get_or xs i v)) (key v))) → seek hit (length xs) 0 ≡ slot key dec v 0 xs
  unfolding slot
  search_slot hit xs h = seek_slot key dec v (λ n l. slot key dec v n l) (λ n. refl) (λ n x l. refl) hit xs h

-- ---- entries by place

pub rows_at : {X : Type 0} (w : ℕ) (Q : ℕ → X → Type 0) (o : ℕ) (xs : List X) (i : ℕ) (d : X) → i < length xs → Rows w Q o xs → Q (o + w * i) (get_or xs i d)
rows_at w Q o [] i d l h = absurd (omega arith)
rows_at w Q o (x ∷ xs) zero d l h = let e : o ≡ o + w * 0 = omega (arith, mul-zero w) in subst (λ (p : ℕ). Q p x) e h.0
rows_at w Q o (x ∷ xs) (suc i) d l h =
    let e : o + w + w * i ≡ o + w * suc i = omega (arith, mul-suc w i) in
    subst (λ (p : ℕ). Q p (get_or xs i d)) e (rows_at w Q (o + w) xs i d (omega arith) h.1)

-- ---- words

pub apart_none : (ws : List ℕ) (lo hi : ℕ) → Apart ws ws lo hi
apart_none ws lo hi = search rules

pub apart_wider : {ws vs : List ℕ} {lo hi : ℕ} → Apart ws vs lo hi → (lo2 hi2 : ℕ) → lo2 ≤ lo → hi ≤ hi2 → Apart ws vs lo2 hi2
apart_wider a lo2 hi2 l u = search rules

-- words that lie apart from the changed ones agree
pub apart_agree : {ws vs : List ℕ} {lo hi o e : ℕ} → Apart ws vs lo hi → ((k : ℕ) → o ≤ k → k < e → lo ≤ k → hi ≤ k) → Agree ws vs o e
apart_agree {ws} {vs} {lo} a g k p q = go (dec_lt k lo)
  where
    go : Dec (k < lo) → get_or vs k 0 ≡ get_or ws k 0
    go (yes l) = a.below k l
    go (no l) = a.above k (g k p q (omega arith))

module _ (k n room : ℕ) (ws : List ℕ) (at : ℕ) (entry : List ℕ) where
  -- only words of the region change
  pub interned_apart : (lo hi : ℕ) → lo ≤ at → (n < room → at + length entry ≤ hi) → Apart ws (interned_words k n room ws at entry) lo hi
  unfolding interned_words appended_words
  interned_apart lo hi l u = go (dec_lt k n) (dec_lt n room)
    where
      go : Dec (k < n) → Dec (n < room) → Apart ws (interned_words k n room ws at entry) lo hi
      go (yes p) d = rw (lt-ltb k n p) (apart_none ws lo hi)
      go (no p) (yes q) = rw (le-ltb k n (omega arith), lt-ltb n room q) (apart_wider (sets_apart ws at entry) lo hi l (u q))
      go (no p) (no q) = rw (le-ltb k n (omega arith), le-ltb n room (omega arith)) (apart_none ws lo hi)

-- ---- tables

module _ {X K : Type 0} (key : X → K) (dec : (a b : K) → Dec (a ≡ b)) (v : X) (w : ℕ) (Q : List ℕ → ℕ → X → Type 0) (o : ℕ) where
  -- where a hit is the decision of the keys, the search comes to the slot
  pub table_slot : (ws : List ℕ) (n : ℕ) (xs : List X) (hit : ℕ → Bool) → ((i : ℕ) (x : X) → Q ws (o + w * i) x → hit i ≡ same (dec (key x) (key v))) → Table w (Q ws) o n xs → interned_index hit n ≡ slot key dec v 0 xs
  table_slot ws n xs hit h t =
      ap (λ (m : ℕ). seek hit m 0) t.count ∙ search_slot key dec v hit xs (λ i l. h i (get_or xs i v) (rows_at w (Q ws) o xs i v l t.rows))

  module _ (loc : Local w Q) (entry : List ℕ) (new : (vs : List ℕ) (p : ℕ) → ((j : ℕ) → j < length entry → get_or vs (p + j) 0 ≡ get_or entry j 0) → Q vs p v) where
    table_more : (ws : List ℕ) (n : ℕ) (xs : List X) (at : ℕ) → at ≡ o + w * n → at + length entry ≤ length ws → Table w (Q ws) o n xs → Table w (Q (sets ws at entry)) o (n + 1) (xs ++ (v ∷ []))
    table_more ws n xs at e f t =
        let c = t.count in
        let vs = sets ws at entry in
        let p : at ≡ o + weigh w xs = e ∙ ap (λ (m : ℕ). o + w * m) c ∙ ap (λ (m : ℕ). o + m) (sym (weigh_length w xs)) in
        record {
          count = omega (arith, c, length-append xs (v ∷ []));
          rows = rows_snoc w (Q vs) o xs v
              (rows_agree w Q loc ws vs o xs (agree_below (sets_apart ws at entry) (omega arith)) t.rows)
              (subst (λ (q : ℕ). Q vs q v) p (new vs at (λ j l. sets_stored ws at entry j l f)));
        }

    -- an index that is the slot: the region after interning is the pool after interning
    pub table_interned : (k n room : ℕ) (ws : List ℕ) (at : ℕ) (xs : List X) → k ≡ slot key dec v 0 xs → at ≡ o + w * n → (n < room → at + length entry ≤ length ws) → length (intern key dec v xs) ≤ room → Table w (Q ws) o n xs →
        Table w (Q (interned_words k n room ws at entry)) o (interned_count k n room) (intern key dec v xs)
    unfolding interned_words interned_count appended_words appended_count
    table_interned k n room ws at xs s e u f t = go (dec_lt k n)
      where
        go : Dec (k < n) → Table w (Q (interned_words k n room ws at entry)) o (interned_count k n room) (intern key dec v xs)
        go (yes p) =
            let c = t.count in
            let i = intern_old key dec v xs 0 (omega (arith, s, c)) in
            rw (lt-ltb k n p, i) t
        go (no p) =
            let c = t.count in
            let i = intern_new key dec v xs 0 (omega (arith, s, c)) in
            let l : n < room = omega (arith, f, ap length i, length-append xs (v ∷ []), c) in
            rw (le-ltb k n (omega arith), lt-ltb n room l, i) (table_more ws n xs at e (u l) t)
