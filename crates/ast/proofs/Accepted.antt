-- What no question refuses is the image of the tree that is read from it, byte for byte. Assumes nothing.
use Prim.Native.Nat.{ℕ, zero, suc, ◌+◌, ◌≤◌, ◌<◌}
use native.Mathlib.Nat.{min-eq_left, add-zero}
use native.Mathlib.Omega.{arith}
use mathlib.Core.Path.{◌≡◌, refl, sym, ap, ◌∙◌, subst}
use mathlib.Core.Bool.{Bool, true, false, ◌&&◌, cond, false≢true}
use mathlib.Core.List.{List, [], ◌∷◌}
use lib.Dec.{leb, eqb}
use lib.ListN.{length, drop}
use lib.Seq.{drop-length}
use borrow.Author.Tests.{leb-true, eqb-true}
use Rattle.wire.specs.Bytes.{Bytes, be8, be32, be}
use Rattle.ast.specs.Header.{LEVELS}
use Rattle.ast.specs.Rules.{known}
use Rattle.ast.specs.Tree.{Payload, Tree, Forest, nil, cons}
use Rattle.ast.specs.Node.{len_at, op_at, scale_at, offset_at, kind_at, payload_at, size_at, count_at, first_at, next_at, trees, tree_at, parse}
use Rattle.ast.specs.Questions.{fits, row, filled, rooted, whole, formed, shallow, questions}
use Rattle.ast.specs.Encode.{put_payload, payload_size, size, sizes, count, put, puts, image, Fit, FitAll}
use Rattle.ast.proofs.Rewritten.{one, two, four, short, word, payload_again}

both : (a b : Bool) → (a && b) ≡ true → (a ≡ true) × (b ≡ true)
both true b h = (refl, h)
both false b h = absurd (false≢true h)

-- what `fits` says
record Fits (s : List ℕ) (p e : ℕ) : Type 0 where
  code : known (op_at s p) ≡ true
  kind : kind_at s p ≤ 12
  own : 12 + size_at s p ≤ len_at s p
  end : p + (4 + len_at s p) ≤ e

fits_says : (s : List ℕ) (p e : ℕ) → fits s p e ≡ true → Fits s p e
unfolding fits
fits_says s p e h =
    let x = both (known (op_at s p)) (leb (kind_at s p) 12 && (leb (12 + size_at s p) (len_at s p) && leb (p + (4 + len_at s p)) e)) h in
    let y = both (leb (kind_at s p) 12) (leb (12 + size_at s p) (len_at s p) && leb (p + (4 + len_at s p)) e) x.1 in
    let z = both (leb (12 + size_at s p) (len_at s p)) (leb (p + (4 + len_at s p)) e) y.1 in
    record {
      code = x.0;
      kind = leb-true (kind_at s p) 12 y.0;
      own = leb-true (12 + size_at s p) (len_at s p) z.0;
      end = leb-true (p + (4 + len_at s p)) e z.1;
    }

chosen : (a b : Bool) → elim a as (λ _. Bool) [ true ↦ b | false ↦ false ] ≡ true → (a ≡ true) × (b ≡ true)
chosen true b h = (refl, h)
chosen false b h = absurd (false≢true h)

-- what `row` says of its first node
pub row_says : (inside : ℕ → Bool) (s : List ℕ) (n p e : ℕ) → row inside s (suc n) p e ≡ true
    → (fits s p e ≡ true) × (inside p ≡ true) × (row inside s n (next_at s p) e ≡ true)
unfolding row
row_says inside s n p e h =
    let x = chosen (fits s p e) (elim (inside p) as (λ _. Bool) [ true ↦ row inside s n (next_at s p) e | false ↦ false ]) h in
    let y = chosen (inside p) (row inside s n (next_at s p) e) x.1 in
    (x.0, y.0, y.1)

-- t, written before what follows the node at p, is what stands from p on, and its fields fit
record NodeAgain (s : List ℕ) (t : Tree) (p : ℕ) : Type 0 where
  stands : put t (drop (next_at s p) s) ≡ drop p s
  ends : p + (4 + size t) ≡ next_at s p
  fit : Fit t

-- the same of trees from p to e
record RowAgain (s : List ℕ) (ts : Forest) (p e : ℕ) : Type 0 where
  stands : puts ts (drop e s) ≡ drop p s
  ends : p + sizes ts ≡ e
  fit : FitAll ts

counted : (tree : ℕ → Tree) (s : List ℕ) (n p : ℕ) → count (trees tree s n p) ≡ n
unfolding trees
counted tree s zero p = refl
counted tree s (suc n) p = ap suc (counted tree s n (next_at s p))

row_again : (s : List ℕ) (tree : ℕ → Tree) (inside : ℕ → Bool)
    → ((p e : ℕ) → e ≤ length s → fits s p e ≡ true → inside p ≡ true → NodeAgain s (tree p) p)
    → (n p e : ℕ) → e ≤ length s → row inside s n p e ≡ true → RowAgain s (trees tree s n p) p e
unfolding row trees
row_again s tree inside each zero p e l h =
    let x : p ≡ e = eqb-true p e h in
    record { stands = ap (λ (q : ℕ). drop q s) (sym x); ends = omega arith; fit = tt }
row_again s tree inside each (suc n) p e l h =
    let w = row_says inside s n p e h in
    let a = each p e l w.0 w.1 in
    let b = row_again s tree inside each n (next_at s p) e l w.2 in
    record {
      stands = ap (put (tree p)) b.stands ∙ a.stands;
      ends = let x = a.ends in let y = b.ends in omega arith;
      fit = (a.fit, b.fit);
    }

node_again : (s : List ℕ) → Bytes s → (l p e : ℕ) → e ≤ length s → fits s p e ≡ true → filled l s p ≡ true → NodeAgain s (tree_at l s p) p
unfolding filled tree_at payload_at
node_again s small zero p e le ok h = absurd (false≢true h)
node_again s small (suc l) p e le ok h =
    let f = fits_says s p e ok in
    let ts : Forest = trees (tree_at l s) s (count_at s p) (first_at s p) in
    let v : Payload = payload_at s p in
    let fo = f.own in
    let fe = f.end in
    let next_is : next_at s p ≡ p + (4 + len_at s p) = min-eq_left (omega arith) in
    let first_is : first_at s p ≡ p + (16 + size_at s p) = min-eq_left (omega arith) in
    let c = row_again s (tree_at l s) (filled l s) (node_again s small l) (count_at s p) (first_at s p) (next_at s p) (omega arith) h in
    let w = payload_again s small p (kind_at s p) f.kind refl (omega arith) in
    let n = counted (tree_at l s) s (count_at s p) (first_at s p) in
    let ce = c.ends in
    let wl = w.takes in
    let rest : 12 + (payload_size v + sizes ts) ≡ len_at s p = omega arith in
    let own : ℕ → List ℕ → List ℕ = λ m l. be 4 m (op_at s p ∷ be 4 (scale_at s p) (be 4 (offset_at s p) l)) in
    record {
      stands = ap (λ (m : ℕ). own m (put_payload v (be 2 (count ts) (puts ts (drop (next_at s p) s))))) rest
          ∙ ap (λ (l : List ℕ). own (len_at s p) (put_payload v (be 2 (count ts) l))) (c.stands ∙ ap (λ (q : ℕ). drop q s) first_is)
          ∙ ap (λ (m : ℕ). own (len_at s p) (put_payload v (be 2 m (drop (p + (16 + size_at s p)) s)))) n
          ∙ ap (λ (l : List ℕ). own (len_at s p) (put_payload v l)) (two s small p (14 + size_at s p) (16 + size_at s p) (omega arith) (omega arith))
          ∙ ap (own (len_at s p)) w.stands
          ∙ ap (λ (l : List ℕ). be 4 (len_at s p) (op_at s p ∷ be 4 (scale_at s p) l)) (four s small p 9 13 refl (omega arith))
          ∙ ap (λ (l : List ℕ). be 4 (len_at s p) (op_at s p ∷ l)) (four s small p 5 9 refl (omega arith))
          ∙ ap (be 4 (len_at s p)) (one s small p 4 5 refl (omega arith))
          ∙ four s small p 0 4 refl (omega arith)
          ∙ ap (λ (q : ℕ). drop q s) (add-zero p);
      ends = omega arith;
      fit = (
        record {
          code = f.code;
          scale = word s small p 5;
          offset = word s small p 9;
          payload = w.fit;
          children = subst (λ (m : ℕ). m < 65536) (sym n) (short s small p (14 + size_at s p));
          all = subst (λ (m : ℕ). m < 4294967296) (sym rest) (word s small p 0);
        },
        c.fit,
      );
    }

asked : (a b c : Bool) → ◌≡◌ {A = ℕ} (cond a (cond b (cond c 0 4) 3) 2) 0 → (a ≡ true) × (b ≡ true) × (c ≡ true)
asked true true true h = (refl, refl, refl)
asked true true false h = absurd (omega arith)
asked true false c h = absurd (omega arith)
asked false b c h = absurd (omega arith)

image_again : (s : List ℕ) → Bytes s → (t : Tree) → be8 s 0 0 ≡ 1 → 2 + (4 + size t) ≡ be32 s 0 1 → 7 ≤ length s → put t [] ≡ drop 7 s
    → image (be8 s 0 5) (be8 s 0 6) t ≡ s
image_again s small t first len h body =
    ap (λ (m : ℕ). 1 ∷ be 4 m (be8 s 0 5 ∷ be8 s 0 6 ∷ put t [])) len
    ∙ ap (λ (l : List ℕ). 1 ∷ be 4 (be32 s 0 1) (be8 s 0 5 ∷ be8 s 0 6 ∷ l)) body
    ∙ ap (λ (l : List ℕ). 1 ∷ be 4 (be32 s 0 1) (be8 s 0 5 ∷ l)) (one s small 0 6 7 refl (omega arith))
    ∙ ap (λ (l : List ℕ). 1 ∷ be 4 (be32 s 0 1) l) (one s small 0 5 6 refl (omega arith))
    ∙ ap (λ (l : List ℕ). 1 ∷ l) (four s small 0 1 5 refl (omega arith))
    ∙ ap (λ (m : ℕ). m ∷ drop 1 s) (sym first)
    ∙ one s small 0 0 1 refl (omega arith)

module _ (s : List ℕ) (small : Bytes s) where
  -- what passes question 2, and question 3's lengths to so many levels, is the image of the tree that is read from it
  pub read_back : (l : ℕ) → whole s ≡ true → rooted l s ≡ true → (image (be8 s 0 5) (be8 s 0 6) (tree_at l s 7) ≡ s) × Fit (tree_at l s 7)
  unfolding whole rooted trees
  read_back l ok h =
      let w2 = both (leb 5 (length s)) (leb (length s) 6144 && (eqb (be8 s 0 0) 1 && eqb (5 + be32 s 0 1) (length s))) ok in
      let w3 = both (leb (length s) 6144) (eqb (be8 s 0 0) 1 && eqb (5 + be32 s 0 1) (length s)) w2.1 in
      let w4 = both (eqb (be8 s 0 0) 1) (eqb (5 + be32 s 0 1) (length s)) w3.1 in
      let first : be8 s 0 0 ≡ 1 = eqb-true (be8 s 0 0) 1 w4.0 in
      let len : 5 + be32 s 0 1 ≡ length s = eqb-true (5 + be32 s 0 1) (length s) w4.1 in
      let t : Tree = tree_at l s 7 in
      let r : RowAgain s (cons t nil) 7 (length s) = row_again s (tree_at l s) (filled l s) (node_again s small l) 1 7 (length s) (omega arith) h in
      let ends : 7 + ((4 + size t) + 0) ≡ length s = r.ends in
      (image_again s small t first (omega arith) (omega arith) (ap (put t) (sym (drop-length s)) ∙ r.stands), r.fit.0)

  -- an accepted image is the image of the tree that is read from it, and every field of that tree fits
  pub accepted : questions s ≡ 0 → (image (be8 s 0 5) (be8 s 0 6) (parse s) ≡ s) × Fit (parse s)
  unfolding questions shallow parse
  accepted h = let q = asked (whole s) (formed s) (shallow s) h in read_back LEVELS q.0 q.2
