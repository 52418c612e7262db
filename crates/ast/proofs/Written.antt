-- What the readers of bytes, payloads and nodes give where something was written. Assumes nothing.
use Prim.Native.Nat.{ℕ, ◌+◌, ◌-◌, ◌≤◌, zero-le}
use native.Mathlib.Nat.{min-eq_left, add-zero}
use native.Mathlib.Omega.{arith}
use mathlib.Core.Path.{◌≡◌, refl, sym, ap, ◌∙◌, subst}
use mathlib.Core.Bool.{true}
use mathlib.Core.List.{List, ◌∷◌, ◌++◌}
use lib.ListN.{length, get_or, take, drop, length-append, length-drop}
use lib.Seq.{get_or-drop, drop-drop, drop-append_seam, take-append_seam}
use borrow.Author.Tests.{le-leb}
use Rattle.wire.specs.Bytes.{be8, be16, be32, be64, reach, be}
use Rattle.numeric.specs.Post.{Post}
use Rattle.ast.specs.Rules.{known}
use Rattle.ast.specs.Tree.{Name, Payload, p_none, p_float, p_hash, p_math, p_name, p_query, Tree, node, Forest, nil, cons}
use Rattle.ast.specs.Node.{len_at, op_at, scale_at, offset_at, kind_at, name_at, payloads, payload_at, size_of, size_at, count_at, first_at, next_at}
use Rattle.ast.specs.Questions.{fits}
use Rattle.ast.specs.Encode.{put_payload, payload_size, FitPayload, size, sizes, count, put, puts, FitHead, Fit}
use Rattle.ast.proofs.PayloadKinds.{name_kind_lem}

-- w stands in s from p on
pub record At (s : List ℕ) (p : ℕ) (w : List ℕ) : Type 0 where
  pub from : drop p s ≡ w
  pub within : p ≤ length s

module _ {s w : List ℕ} {p : ℕ} (a : At s p w) where
  -- the byte k places after p
  see : (k : ℕ) → be8 s p k ≡ get_or w k 0
  see k = sym (get_or-drop p s k 0) ∙ ap (λ (l : List ℕ). get_or l k 0) a.from

  left : length w ≡ length s - p
  left = sym (ap length a.from) ∙ length-drop p s

  -- a step of k bytes on
  on : (k : ℕ) (v : List ℕ) → k ≤ length w → drop k w ≡ v → At s (p + k) v
  on k v h e = record {
    from = sym (drop-drop k p s) ∙ ap (drop k) a.from ∙ e;
    within = let l = left in omega (arith, a.within);
  }

  -- no place within w is cut at the end of s
  reached : (k : ℕ) → k ≤ length w → reach s p k ≡ p + k
  reached k h = min-eq_left (let l = left in omega (arith, a.within))

  -- the byte j places after k, where v stands k places after p
  seen : (k j : ℕ) (v : List ℕ) → drop k w ≡ v → be8 s p (k + j) ≡ get_or v j 0
  seen k j v q = see (k + j) ∙ sym (get_or-drop k w j 0) ∙ ap (λ (l : List ℕ). get_or l j 0) q

  seen0 : (k : ℕ) (v : List ℕ) → drop k w ≡ v → be8 s p k ≡ get_or v 0 0
  seen0 k v q = ap (λ (j : ℕ). be8 s p j) (sym (add-zero k)) ∙ seen k 0 v q

  read16 : (k n : ℕ) (r : List ℕ) → drop k w ≡ be 2 n r → be16 s p k ≡ n
  unfolding be16 be
  read16 k n r q = let b0 = seen0 k (be 2 n r) q in let b1 = seen k 1 (be 2 n r) q in omega arith

  pub read32 : (k n : ℕ) (r : List ℕ) → drop k w ≡ be 4 n r → be32 s p k ≡ n
  unfolding be32 be
  read32 k n r q =
      let b0 = seen0 k (be 4 n r) q in
      let b1 = seen k 1 (be 4 n r) q in
      let b2 = seen k 2 (be 4 n r) q in
      let b3 = seen k 3 (be 4 n r) q in
      omega arith

  read64 : (n : ℕ) (r : List ℕ) → drop 14 w ≡ be 8 n r → be64 s p 14 ≡ n
  unfolding be64 be32 be
  read64 n r q =
      let b0 = seen 14 0 (be 8 n r) q in
      let b1 = seen 14 1 (be 8 n r) q in
      let b2 = seen 14 2 (be 8 n r) q in
      let b3 = seen 14 3 (be 8 n r) q in
      let b4 = seen 14 4 (be 8 n r) q in
      let b5 = seen 14 5 (be 8 n r) q in
      let b6 = seen 14 6 (be 8 n r) q in
      let b7 = seen 14 7 (be 8 n r) q in
      omega arith

-- past the payload
drop_payload : (v : Payload) (r : List ℕ) → drop (1 + payload_size v) (put_payload v r) ≡ r
unfolding be
drop_payload p_none r = refl
drop_payload (p_float b) r = refl
drop_payload (p_hash h) r = refl
drop_payload (p_name k n) r =
    let w : List ℕ = put_payload (p_name k n) r in
    let e : 1 + (9 + length n.text) ≡ 10 + length n.text = omega arith in
    ap (λ (m : ℕ). drop m w) e ∙ sym (drop-drop (length n.text) 10 w) ∙ drop-append_seam n.text r
drop_payload (p_query i m) r = refl
drop_payload (p_math f) r = refl

length_payload : (v : Payload) (r : List ℕ) → length (put_payload v r) ≡ 1 + (payload_size v + length r)
unfolding be
length_payload p_none r = omega arith
length_payload (p_float b) r = omega arith
length_payload (p_hash h) r = omega arith
length_payload (p_name k n) r = omega (arith, length-append n.text r)
length_payload (p_query i m) r = omega arith
length_payload (p_math f) r = omega arith

kind_small : (v : Payload) (r : List ℕ) → FitPayload v → get_or (put_payload v r) 0 0 ≤ 12
kind_small p_none r f = zero-le
kind_small (p_float b) r f = omega arith
kind_small (p_hash h) r f = omega arith
kind_small (p_name k n) r f = omega arith
kind_small (p_query i m) r f = omega arith
kind_small (p_math m) r f = omega arith

-- a node's payload stands 13 bytes after its begin
module _ {s w : List ℕ} {p : ℕ} (a : At s p w) (r : List ℕ) where
  kind_back : (v : Payload) → drop 13 w ≡ put_payload v r → kind_at s p ≡ get_or (put_payload v r) 0 0
  kind_back v q = seen a 13 0 (put_payload v r) q

  size_by : (v : Payload) → drop 13 w ≡ put_payload v r → size_at s p ≡ size_of (get_or (put_payload v r) 0 0) (be8 s p 22)
  size_by v q = ap (λ (k : ℕ). size_of k (be8 s p 22)) (kind_back v q)

  size_back : (v : Payload) → drop 13 w ≡ put_payload v r → FitPayload v → size_at s p ≡ payload_size v
  unfolding size_of be
  size_back p_none q f = size_by p_none q
  size_back (p_float b) q f = size_by (p_float b) q
  size_back (p_hash h) q f = size_by (p_hash h) q
  size_back (p_name k n) q f =
      size_by (p_name k n) q
      ∙ ap (size_of k) (seen a 13 9 (put_payload (p_name k n) r) q)
      ∙ (name_kind_lem s p (length n.text) k f.0 f.1).takes
  size_back (p_query i m) q f = size_by (p_query i m) q
  size_back (p_math m) q f = size_by (p_math m) q

  -- what stands behind the kind
  behind : (k : ℕ) (v : List ℕ) → drop 13 w ≡ k ∷ v → drop 14 w ≡ v
  behind k v q = sym (drop-drop 1 13 w) ∙ ap (drop 1) q

  name_back : (k : ℕ) (n : Name) → drop 13 w ≡ put_payload (p_name k n) r → name_at s p ≡ n
  unfolding name_at be
  name_back k n q =
      let hash : be64 s p 14 ≡ n.hash = read64 a n.hash (length n.text ∷ (n.text ++ r)) (behind k _ q) in
      let len : be8 s p 22 ≡ length n.text = seen a 13 9 (put_payload (p_name k n) r) q in
      let text : drop (p + 23) s ≡ n.text ++ r = sym (drop-drop 23 p s) ∙ ap (drop 23) a.from ∙ sym (drop-drop 10 13 w) ∙ ap (drop 10) q in
      ap (λ (h : ℕ). record { hash = h; text = take (be8 s p 22) (drop (p + 23) s) }) hash
      ∙ ap (λ (m : ℕ). record { hash = n.hash; text = take m (drop (p + 23) s) }) len
      ∙ ap (λ (l : List ℕ). record { hash = n.hash; text = take (length n.text) l }) text
      ∙ ap (λ (l : List ℕ). record { hash = n.hash; text = l }) (take-append_seam n.text r)

  impl_back : (i m : ℕ) → drop 13 w ≡ put_payload (p_query i m) r → be8 s p 16 ≡ m
  unfolding be
  impl_back i m q = seen a 13 3 (put_payload (p_query i m) r) q

  payload_by : (v : Payload) → drop 13 w ≡ put_payload v r → payload_at s p ≡ get_or (payloads s p) (get_or (put_payload v r) 0 0) p_none
  unfolding payload_at
  payload_by v q = ap (λ (k : ℕ). get_or (payloads s p) k p_none) (kind_back v q)

  payload_back : (v : Payload) → drop 13 w ≡ put_payload v r → FitPayload v → payload_at s p ≡ v
  payload_back p_none q f = payload_by p_none q
  payload_back (p_float b) q f = payload_by (p_float b) q ∙ ap p_float (read32 a 14 b r (behind 1 _ q))
  payload_back (p_hash h) q f = payload_by (p_hash h) q ∙ ap p_hash (read64 a h r (behind 2 _ q))
  payload_back (p_name k n) q f =
      payload_by (p_name k n) q ∙ (name_kind_lem s p 0 k f.0 f.1).reads ∙ ap (p_name k) (name_back k n q)
  payload_back (p_query i m) q f =
      payload_by (p_query i m) q
      ∙ ap (λ (j : ℕ). p_query j (be8 s p 16)) (read16 a 14 i (m ∷ r) (behind 11 _ q))
      ∙ ap (p_query i) (impl_back i m q)
  payload_back (p_math m) q f = payload_by (p_math m) q ∙ ap p_math (read16 a 14 m r (behind 12 _ q))

mutual
  unfolding be

  drop_node : (t : Tree) (r : List ℕ) → drop (4 + size t) (put t r) ≡ r
  drop_node (node op post v ts) r =
      let w : List ℕ = put (node op post v ts) r in
      let rest : List ℕ = be 2 (count ts) (puts ts r) in
      let e : 4 + (12 + (payload_size v + sizes ts)) ≡ 13 + ((1 + payload_size v) + (2 + sizes ts)) = omega arith in
      ap (λ (m : ℕ). drop m w) e
      ∙ sym (drop-drop ((1 + payload_size v) + (2 + sizes ts)) 13 w)
      ∙ sym (drop-drop (2 + sizes ts) (1 + payload_size v) (put_payload v rest))
      ∙ ap (drop (2 + sizes ts)) (drop_payload v rest)
      ∙ sym (drop-drop (sizes ts) 2 rest)
      ∙ drop_nodes ts r

  drop_nodes : (ts : Forest) (r : List ℕ) → drop (sizes ts) (puts ts r) ≡ r
  drop_nodes nil r = refl
  drop_nodes (cons t ts) r =
      sym (drop-drop (sizes ts) (4 + size t) (put t (puts ts r)))
      ∙ ap (drop (sizes ts)) (drop_node t (puts ts r))
      ∙ drop_nodes ts r

mutual
  unfolding be

  pub length_node : (t : Tree) (r : List ℕ) → length (put t r) ≡ (4 + size t) + length r
  length_node (node op post v ts) r =
      omega (arith, length_payload v (be 2 (count ts) (puts ts r)), length_nodes ts r)

  length_nodes : (ts : Forest) (r : List ℕ) → length (puts ts r) ≡ sizes ts + length r
  length_nodes nil r = omega arith
  length_nodes (cons t ts) r = omega (arith, length_node t (puts ts r), length_nodes ts r)

-- a node that was written, field by field
module _ {s : List ℕ} {p : ℕ} (op : ℕ) (post : Post) (v : Payload) (ts : Forest) (r : List ℕ) (a : At s p (put (node op post v ts) r))
    (f : FitHead op post v (count ts) (12 + (payload_size v + sizes ts))) where
  abbrev w : List ℕ
  w = put (node op post v ts) r

  abbrev rest : List ℕ
  rest = be 2 (count ts) (puts ts r)

  payload_stands : drop 13 w ≡ put_payload v rest
  unfolding be
  payload_stands = refl

  len_is : len_at s p ≡ 12 + (payload_size v + sizes ts)
  len_is = read32 a 0 (12 + (payload_size v + sizes ts)) _ refl

  pub op_is : op_at s p ≡ op
  unfolding be
  op_is = see a 4

  pub post_is : ◌≡◌ {A = Post} (record { scale = scale_at s p; offset = offset_at s p }) post
  unfolding be
  post_is =
      ap (λ (n : ℕ). record { scale = n; offset = offset_at s p }) (read32 a 5 post.scale _ refl)
      ∙ ap (λ (n : ℕ). record { scale = post.scale; offset = n }) (read32 a 9 post.offset _ refl)

  pub payload_is : payload_at s p ≡ v
  payload_is = payload_back a rest v payload_stands f.payload

  size_is : size_at s p ≡ payload_size v
  size_is = size_back a rest v payload_stands f.payload

  room : (4 + (12 + (payload_size v + sizes ts))) + length r ≡ length w
  room = sym (length_node (node op post v ts) r)

  pub next_is : next_at s p ≡ p + (4 + (12 + (payload_size v + sizes ts)))
  next_is =
      ap (λ (n : ℕ). reach s p (4 + n)) len_is
      ∙ reached a (4 + (12 + (payload_size v + sizes ts))) (omega (arith, room))

  pub first_is : first_at s p ≡ p + (16 + payload_size v)
  first_is = ap (λ (n : ℕ). reach s p (16 + n)) size_is ∙ reached a (16 + payload_size v) (omega (arith, room))

  below : drop (14 + payload_size v) w ≡ rest
  below =
      let e : 14 + payload_size v ≡ 13 + (1 + payload_size v) = omega arith in
      ap (λ (n : ℕ). drop n w) e
      ∙ sym (drop-drop (1 + payload_size v) 13 w)
      ∙ ap (drop (1 + payload_size v)) payload_stands
      ∙ drop_payload v rest

  pub count_is : count_at s p ≡ count ts
  count_is = ap (λ (n : ℕ). be16 s p (14 + n)) size_is ∙ read16 a (14 + payload_size v) (count ts) (puts ts r) below

  pub children : At s (p + (16 + payload_size v)) (puts ts r)
  unfolding be
  children =
      let e : 16 + payload_size v ≡ (14 + payload_size v) + 2 = omega arith in
      on a (16 + payload_size v) (puts ts r) (omega (arith, room))
      (ap (λ (n : ℕ). drop n w) e ∙ sym (drop-drop 2 (14 + payload_size v) w) ∙ ap (drop 2) below)

  fits_is : (e : ℕ) → p + (4 + (12 + (payload_size v + sizes ts))) ≤ e → fits s p e ≡ true
  unfolding fits
  fits_is e h =
      let k : known (op_at s p) ≡ true = ap known op_is ∙ f.code in
      let d : kind_at s p ≤ 12 = subst (λ (n : ℕ). n ≤ 12) (sym (kind_back a rest v payload_stands)) (kind_small v rest f.payload) in
      let o : 12 + size_at s p ≤ len_at s p = omega (arith, len_is, size_is) in
      let n : p + (4 + len_at s p) ≤ e = omega (arith, len_is) in
      rw (k, le-leb _ _ d, le-leb _ _ o, le-leb _ _ n)

-- what follows a node that was written
pub next_back : {s : List ℕ} {p : ℕ} (t : Tree) (r : List ℕ) → Fit t → At s p (put t r) → next_at s p ≡ p + (4 + size t)
next_back (node op post v ts) r f a = next_is op post v ts r a f.0

pub after : {s : List ℕ} {p : ℕ} (t : Tree) (r : List ℕ) → At s p (put t r) → At s (p + (4 + size t)) r
after t r a = on a (4 + size t) r (omega (arith, length_node t r)) (drop_node t r)

pub fits_back : {s : List ℕ} {p : ℕ} (t : Tree) (r : List ℕ) (e : ℕ) → Fit t → At s p (put t r) → p + (4 + size t) ≤ e → fits s p e ≡ true
fits_back (node op post v ts) r e f a h = fits_is op post v ts r a f.0 e h
