use borrow.Author.Tests.{leb-true}
use Rattle.wire.specs.Bytes.{Bytes, be, be8}
use Rattle.wire.proofs.Numbers.{be_length}
use Rattle.ast.specs.Encode.{payload_size, put_payload, count, size, sizes, put, puts, image, FitPayload, Fit, FitAll}
use Rattle.ast.proofs.Written.{length_node}
use Rattle.ast.proofs.Accepted.{accepted}
use Rattle.ast.specs.Questions.{questions, whole, formed, shallow}
use mathlib.Core.Path.{◌≡◌, refl, ap, sym, subst}
use mathlib.Core.Bool.{Bool, true, false, cond, ◌&&◌}
use mathlib.Core.List.{List, [], ◌∷◌, ◌++◌}
use Prim.Native.Nat.{ℕ, zero, suc, ◌≤◌, ◌+◌, ◌^◌, ◌%◌}
use native.Mathlib.Omega.{arith}
use lib.ListN.{length}
use lib.Dec.{leb}
use Rattle.ast.specs.Node.{parse}
use Rattle.ast.specs.Tree.{Payload, p_none, p_float, p_hash, p_math, p_name, p_query, Tree, node, Forest, nil, cons}
use Rattle.program.specs.Fits.{Below, Every}
use Rattle.semantics.proofs.FitTrees.{PayloadFits, TreeFits, ForestFits}
use Rattle.semantics.proofs.Sizes.{held, bytes, mass, masses}

-- The tree of an image that questions 2 to 4 accept: its fields fit, its texts are bytes, and it is no larger than its image. Assumes nothing.

-- bytes behind a number are bytes
be_tail : (k v : ℕ) (r : List ℕ) → Bytes (be k v r) → Bytes r
unfolding be
be_tail zero v r h = h
be_tail (suc k) v r h = be_tail k (v % 256 ^ k) r h.1

text_bytes_lem : (t r : List ℕ) → Bytes (t ++ r) → Every (Below 1) t × Bytes r
text_bytes_lem [] r h = (tt, h)
text_bytes_lem (x ∷ t) r h = let i = text_bytes_lem t r h.1 in ((h.0, i.0), i.1)

payload_fits : (v : Payload) → FitPayload v → (r : List ℕ) → Bytes (put_payload v r) → PayloadFits v × Bytes r
payload_fits p_none f r h = (tt, h.1)
payload_fits (p_float v) f r h = (f, be_tail 4 v r h.1)
payload_fits (p_hash v) f r h = (f, be_tail 8 v r h.1)
payload_fits (p_math v) f r h = (f, be_tail 2 v r h.1)
payload_fits (p_query i m) f r h = ((f.0, f.1), (be_tail 2 i (m ∷ r) h.1).1)
payload_fits (p_name k n) f r h =
    let i = text_bytes_lem n.text r (be_tail 8 n.hash (length n.text ∷ (n.text ++ r)) h.1).1 in
    (record { hash = f.2; short = let l = f.3 in omega arith; bytes = i.0 }, i.1)

mutual
  unfolding TreeFits

  tree_fits : (t : Tree) → Fit t → (r : List ℕ) → Bytes (put t r) → TreeFits t × Bytes r
  tree_fits (node op p v ts) f r h =
      let a = be_tail 4 (12 + (payload_size v + sizes ts)) (op ∷ be 4 p.scale (be 4 p.offset (put_payload v (be 2 (count ts) (puts ts r))))) h in
      let b = be_tail 4 p.offset _ (be_tail 4 p.scale (be 4 p.offset (put_payload v (be 2 (count ts) (puts ts r)))) a.1) in
      let c = payload_fits v f.0.payload (be 2 (count ts) (puts ts r)) b in
      let d = forest_fits ts f.1 r (be_tail 2 (count ts) (puts ts r) c.1) in
      ((record { scale = f.0.scale; offset = f.0.offset }, c.0, d.0), d.1)

  forest_fits : (ts : Forest) → FitAll ts → (r : List ℕ) → Bytes (puts ts r) → ForestFits ts × Bytes r
  forest_fits nil f r h = (tt, h)
  forest_fits (cons t ts) f r h =
      let a = tree_fits t f.0 (puts ts r) h in
      let b = forest_fits ts f.1 r a.1 in ((a.0, b.0), b.1)

-- the bytes of a tree are those of its image behind the settings
mutual
  unfolding mass

  bytes_size : (t : Tree) → bytes t ≡ 4 + size t
  bytes_size (node op p v ts) = let h = forest_size ts in omega arith

  forest_size : (ts : Forest) → masses held ts ≡ sizes ts
  forest_size nil = refl
  forest_size (cons t ts) = let h = bytes_size t in let i = forest_size ts in omega arith

image_length : (a d : ℕ) (t : Tree) → length (image a d t) ≡ 7 + bytes t
image_length a d t = let h = be_length 4 (2 + (4 + size t)) (a ∷ d ∷ put t []) in let i = length_node t [] in let j = bytes_size t in omega arith

not_larger : (s : List ℕ) → questions s ≡ 0 → length s ≤ 6144
unfolding questions whole
not_larger s h = go (leb 5 (length s)) (leb (length s) 6144) _ (cond (formed s) (cond (shallow s) 0 4) 3) refl h
  where
    go : (a b c : Bool) (n : ℕ) → leb (length s) 6144 ≡ b → cond (a && (b && c)) n 2 ≡ 0 → length s ≤ 6144
    go a true c n e k = leb-true (length s) 6144 e
    go true false c n e k = absurd (omega arith)
    go false false c n e k = absurd (omega arith)

module _ (s : List ℕ) (small : Bytes s) (passed : questions s ≡ 0) where
  again : image (be8 s 0 5) (be8 s 0 6) (parse s) ≡ s
  again = (accepted s small passed).0

  pub parsed_fits : TreeFits (parse s)
  parsed_fits =
      let b : Bytes (image (be8 s 0 5) (be8 s 0 6) (parse s)) = subst Bytes (sym again) small in
      let c = be_tail 4 (2 + (4 + size (parse s))) (be8 s 0 5 ∷ be8 s 0 6 ∷ put (parse s) []) b.1 in
      (tree_fits (parse s) (accepted s small passed).1 [] c.1.1).0

  pub parsed_short : bytes (parse s) ≤ 6137
  parsed_short =
      let l = image_length (be8 s 0 5) (be8 s 0 6) (parse s) in
      let e = ap length again in
      let n = not_larger s passed in omega arith
