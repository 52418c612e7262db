-- Reading back what was written gives the tree, and no question refuses it but for its height. Assumes nothing.
use Prim.Native.Nat.{ℕ, zero, suc, ◌+◌, ◌*◌, ◌≤◌, max, zero-le}
use native.Mathlib.Nat.{not-suc-le-zero}
use native.Mathlib.Omega.{arith}
use native.Mathlib.Decide.{dec_le}
use mathlib.Core.Path.{◌≡◌, refl, sym, ap, ◌∙◌}
use mathlib.Core.Bool.{Bool, true, false, cond}
use mathlib.Core.List.{List, []}
use lib.Dec.{leb, leb-suc-zero, leb-suc-suc}
use lib.ListN.{length}
use borrow.Author.Tests.{le-leb, lt-leb, eq-eqb}
use Rattle.wire.specs.Bytes.{be8, be32, be}
use Rattle.numeric.specs.Post.{Post}
use Rattle.ast.specs.Header.{LONGEST, LEVELS, ALL_LEVELS}
use Rattle.ast.specs.Tree.{Payload, Tree, node, Forest, nil, cons}
use Rattle.ast.specs.Node.{first_at, next_at, trees, tree_at, parse}
use Rattle.ast.specs.Questions.{fits, row, filled, rooted, whole, formed, shallow, questions}
use Rattle.ast.specs.Encode.{payload_size, size, sizes, count, put, puts, image, height, heights, Fit, FitAll}
use Rattle.ast.proofs.Written.{At, read32, length_node, op_is, post_is, payload_is, next_is, first_is, count_is, children, next_back, after, fits_back}

same_node : {o o' : ℕ} {q q' : Post} {v v' : Payload} {f f' : Forest} → o ≡ o' → q ≡ q' → v ≡ v' → f ≡ f' → node o q v f ≡ node o' q' v' f'
same_node a b c d = cc

same_cons : {t t' : Tree} {f f' : Forest} → t ≡ t' → f ≡ f' → cons t f ≡ cons t' f'
same_cons a b = cc

mutual
  unfolding tree_at trees

  -- reading gives the tree again
  pub tree_back : (t : Tree) (l : ℕ) {s : List ℕ} {p : ℕ} (r : List ℕ) → Fit t → height t ≤ l → At s p (put t r) → tree_at l s p ≡ t
  tree_back (node op post v ts) zero r f h a = absurd (not-suc-le-zero h)
  tree_back (node op post v ts) (suc l) {s} {p} r f h a =
      same_node (op_is op post v ts r a f.0) (post_is op post v ts r a f.0) (payload_is op post v ts r a f.0)
      (ap (λ (n : ℕ). trees (tree_at l s) s n (first_at s p)) (count_is op post v ts r a f.0)
      ∙ ap (λ (q : ℕ). trees (tree_at l s) s (count ts) q) (first_is op post v ts r a f.0)
      ∙ trees_back ts l r f.1 (omega arith) (children op post v ts r a f.0))

  pub trees_back : (ts : Forest) (l : ℕ) {s : List ℕ} {p : ℕ} (r : List ℕ) → FitAll ts → heights ts ≤ l → At s p (puts ts r)
      → trees (tree_at l s) s (count ts) p ≡ ts
  trees_back nil l r f h a = refl
  trees_back (cons t ts) l {s} {p} r f h a =
      same_cons (tree_back t l (puts ts r) f.0 (omega arith) a)
      (ap (λ (q : ℕ). trees (tree_at l s) s (count ts) q) (next_back t (puts ts r) f.0 a)
      ∙ trees_back ts l r f.1 (omega arith) (after t (puts ts r) a))

-- the second test is asked where the first passes
abbrev also : Bool → Bool → Bool
also a b = elim a as (λ _. Bool) [ true ↦ b | false ↦ false ]

also_true : (b : Bool) → also b true ≡ b
also_true true = refl
also_true false = refl

-- both are within l where the greater is
leb_max : (a b l : ℕ) → also (leb a l) (leb b l) ≡ leb (max a b) l
leb_max a b l = elim (dec_le a l) [
  | yes y ↦ ap (λ (x : Bool). also x (leb b l)) (le-leb a l y) ∙ (elim (dec_le b l) [
    | yes z ↦ le-leb b l z ∙ sym (le-leb (max a b) l (omega arith))
    | no z ↦ lt-leb b l (omega arith) ∙ sym (lt-leb (max a b) l (omega arith))
  ])
  | no y ↦ ap (λ (x : Bool). also x (leb b l)) (lt-leb a l (omega arith)) ∙ sym (lt-leb (max a b) l (omega arith))
]

row_step : (inside : ℕ → Bool) (s : List ℕ) (n p e q : ℕ) (b c : Bool) → fits s p e ≡ true → inside p ≡ b → next_at s p ≡ q → row inside s n q e ≡ c
    → row inside s (suc n) p e ≡ also b c
unfolding row
row_step inside s n p e q b c f i x y =
    ap (λ (a : Bool). also a (also (inside p) (row inside s n (next_at s p) e))) f
    ∙ ap (λ (a : Bool). also a (row inside s n (next_at s p) e)) i
    ∙ ap (also b) (ap (λ (q : ℕ). row inside s n q e) x ∙ y)

row_end : (inside : ℕ → Bool) (s : List ℕ) (p e : ℕ) → p ≡ e → row inside s 0 p e ≡ true
unfolding row
row_end inside s p e h = eq-eqb p e h

mutual
  unfolding filled row

  -- the checker passes what was written, to as many levels as it has
  pub filled_back : (t : Tree) (l : ℕ) {s : List ℕ} {p : ℕ} (r : List ℕ) → Fit t → At s p (put t r) → filled l s p ≡ leb (height t) l
  filled_back (node op post v ts) zero r f a = sym (leb-suc-zero (heights ts))
  filled_back (node op post v ts) (suc l) {s} {p} r f a =
      ap (λ (n : ℕ). row (filled l s) s n (first_at s p) (next_at s p)) (count_is op post v ts r a f.0)
      ∙ ap (λ (q : ℕ). row (filled l s) s (count ts) q (next_at s p)) (first_is op post v ts r a f.0)
      ∙ ap (λ (q : ℕ). row (filled l s) s (count ts) (p + (16 + payload_size v)) q) (next_is op post v ts r a f.0)
      ∙ row_back ts l r f.1 (children op post v ts r a f.0) (p + (4 + (12 + (payload_size v + sizes ts)))) (omega arith)
      ∙ sym (leb-suc-suc (heights ts) l)

  pub row_back : (ts : Forest) (l : ℕ) {s : List ℕ} {p : ℕ} (r : List ℕ) → FitAll ts → At s p (puts ts r) → (e : ℕ) → e ≡ p + sizes ts
      → row (filled l s) s (count ts) p e ≡ leb (heights ts) l
  row_back nil l {s} {p} r f a e h = eq-eqb p e (omega arith) ∙ sym (le-leb 0 l zero-le)
  row_back (cons t ts) l {s} {p} r f a e h =
      row_step (filled l s) s (count ts) p e (p + (4 + size t)) (leb (height t) l) (leb (heights ts) l)
      (fits_back t (puts ts r) e f.0 a (omega arith))
      (filled_back t l (puts ts r) f.0 a)
      (next_back t (puts ts r) f.0 a)
      (row_back ts l r f.1 (after t (puts ts r) a) e (omega arith))
      ∙ leb_max (height t) (heights ts) l

-- a node takes 16 bytes or more
mutual
  tall : (t : Tree) → 16 * height t ≤ 4 + size t
  tall (node op post v ts) = let h = talls ts in omega arith

  talls : (ts : Forest) → 16 * heights ts ≤ sizes ts
  talls nil = omega arith
  talls (cons t ts) = let h = tall t in let k = talls ts in omega arith

module _ (arrays divisor : ℕ) (t : Tree) (f : Fit t) where
  abbrev s : List ℕ
  s = image arrays divisor t

  stands : At s 7 (put t [])
  unfolding be
  stands = record { from = refl; within = omega arith }

  long : length s ≡ 7 + (4 + size t)
  unfolding be
  long = omega (arith, length_node t [])

  length_is : be32 s 0 1 ≡ 2 + (4 + size t)
  length_is = read32 {w = s} (record { from = refl; within = zero-le }) 1 (2 + (4 + size t)) _ refl

  setting_is : (be8 s 0 5 ≡ arrays) × (be8 s 0 6 ≡ divisor)
  unfolding be
  setting_is = (refl, refl)

  rooted_is : (l : ℕ) → rooted l s ≡ leb (height t) l
  unfolding rooted
  rooted_is l =
      row_step (filled l s) s 0 7 (length s) (7 + (4 + size t)) (leb (height t) l) true
      (fits_back t [] (length s) f stands (omega (arith, long)))
      (filled_back t l [] f stands)
      (next_back t [] f stands)
      (row_end (filled l s) s (7 + (4 + size t)) (length s) (sym long))
      ∙ also_true (leb (height t) l)

  -- a tree of no more levels than an accepted one is read again from its image
  pub parsed : height t ≤ LEVELS → parse (image arrays divisor t) ≡ t
  unfolding parse
  parsed h = tree_back t LEVELS [] f h stands

  module _ (a : arrays ≤ 1) (d : divisor ≤ 1) (short : 7 + (4 + size t) ≤ LONGEST) where
    whole_is : whole s ≡ true
    unfolding whole
    whole_is =
        rw (le-leb 5 (length s) (omega (arith, long)), le-leb (length s) LONGEST (omega (arith, long)), eq-eqb (5 + be32 s 0 1) (length s) (omega (arith, length_is, long)))

    formed_is : formed s ≡ true
    unfolding formed
    formed_is =
        rw (setting_is.0, setting_is.1, le-leb arrays 1 a, le-leb divisor 1 d)
        (rooted_is ALL_LEVELS ∙ le-leb (height t) ALL_LEVELS (omega (arith, tall t)))

    -- questions 2 to 4 ask nothing of an image that was written but its height
    pub answered : questions (image arrays divisor t) ≡ cond (leb (height t) LEVELS) 0 4
    unfolding questions shallow
    answered = rw (whole_is, formed_is, rooted_is LEVELS)
