-- Bytes and payloads that are read and then written give the bytes that stood there. Assumes nothing.
use Prim.Native.Nat.{ℕ, zero, suc, ◌+◌, ◌*◌, ◌%◌, ◌≤◌, ◌<◌, ◌^◌}
use native.Mathlib.Nat.{min-eq_left, pow-succ'}
use native.Mathlib.Omega.{arith}
use mathlib.Core.Path.{◌≡◌, refl, sym, ap, ◌∙◌, subst}
use mathlib.Core.List.{List, [], ◌∷◌, ◌++◌}
use lib.Dec.{lit<}
use lib.Arith.{digits_lt, digits_div, digits_mod}
use lib.ListN.{length, get_or, take, drop, length-take, length-drop, take-append-drop}
use lib.Seq.{drop-cons, drop-drop}
use Rattle.wire.specs.Bytes.{Bytes, be8, be16, be32, be64, be}
use Rattle.ast.specs.Tree.{Payload, p_none, p_name}
use Rattle.ast.specs.Node.{kind_at, name_at, payloads, size_of}
use Rattle.ast.specs.Encode.{put_payload, payload_size, FitPayload}
use Rattle.ast.proofs.PayloadKinds.{by_kind, name_kind_lem}

-- every byte of the list, and what is read past its end, is below 256
byte_below : (s : List ℕ) → Bytes s → (k : ℕ) → get_or s k 0 < 256
byte_below [] small k = lit< tt
byte_below (b ∷ s) small zero = small.0
byte_below (b ∷ s) small (suc k) = byte_below s small.1 k

-- the number that bytes are, the highest first
abbrev value : List ℕ → ℕ
value [] = 0
value (b ∷ bs) = b * 256 ^ length bs + value bs

value_below : (bs : List ℕ) → Bytes bs → value bs < 256 ^ length bs
value_below [] small = lit< tt
value_below (b ∷ bs) small =
    subst (λ (n : ℕ). value (b ∷ bs) < n) (sym (pow-succ' 256 (length bs))) (digits_lt small.0 (value_below bs small.1))

be_value : (bs r : List ℕ) → Bytes bs → be (length bs) (value bs) r ≡ bs ++ r
unfolding be
be_value [] r small = refl
be_value (b ∷ bs) r small =
    let c : ℕ = 256 ^ length bs in
    ap (λ (q : ℕ). q ∷ be (length bs) ((b * c + value bs) % c) r) (digits_div b (value_below bs small.1))
    ∙ ap (λ (m : ℕ). b ∷ be (length bs) m r) (digits_mod b (value_below bs small.1))
    ∙ ap (λ (l : List ℕ). b ∷ l) (be_value bs r small.1)

module _ (s : List ℕ) (all : Bytes s) (p : ℕ) where
  small : (k : ℕ) → be8 s p k < 256
  small k = byte_below s all (p + k)

  -- a byte, a number of two, four or eight bytes, written again
  pub one : (k j : ℕ) → k + 1 ≡ j → p + k < length s → be8 s p k ∷ drop (p + j) s ≡ drop (p + k) s
  one k j e h =
      let i : p + j ≡ suc (p + k) = omega arith in
      ap (λ (m : ℕ). be8 s p k ∷ drop m s) i ∙ sym (drop-cons s (p + k) 0 h)

  two_ones : (k j : ℕ) → k + 2 ≡ j → p + j ≤ length s → be8 s p k ∷ be8 s p (k + 1) ∷ drop (p + j) s ≡ drop (p + k) s
  two_ones k j e h =
      ap (λ (l : List ℕ). be8 s p k ∷ l) (one (k + 1) j (omega arith) (omega arith)) ∙ one k (k + 1) refl (omega arith)

  four_ones : (k j : ℕ) → k + 4 ≡ j → p + j ≤ length s
      → be8 s p k ∷ be8 s p (k + 1) ∷ be8 s p (k + 2) ∷ be8 s p (k + 3) ∷ drop (p + j) s ≡ drop (p + k) s
  four_ones k j e h =
      ap (λ (l : List ℕ). be8 s p k ∷ be8 s p (k + 1) ∷ be8 s p (k + 2) ∷ l) (one (k + 3) j (omega arith) (omega arith))
      ∙ ap (λ (l : List ℕ). be8 s p k ∷ be8 s p (k + 1) ∷ l) (one (k + 2) (k + 3) (omega arith) (omega arith))
      ∙ two_ones k (k + 2) refl (omega arith)

  pub two : (k j : ℕ) → k + 2 ≡ j → p + j ≤ length s → be 2 (be16 s p k) (drop (p + j) s) ≡ drop (p + k) s
  unfolding be16
  two k j e h =
      let bs : List ℕ = be8 s p k ∷ be8 s p (k + 1) ∷ [] in
      ap (λ (n : ℕ). be 2 n (drop (p + j) s)) (omega arith)
      ∙ be_value bs (drop (p + j) s) (small k, (small (k + 1), tt))
      ∙ two_ones k j e h

  pub four : (k j : ℕ) → k + 4 ≡ j → p + j ≤ length s → be 4 (be32 s p k) (drop (p + j) s) ≡ drop (p + k) s
  unfolding be32
  four k j e h =
      let bs : List ℕ = be8 s p k ∷ be8 s p (k + 1) ∷ be8 s p (k + 2) ∷ be8 s p (k + 3) ∷ [] in
      ap (λ (n : ℕ). be 4 n (drop (p + j) s)) (omega arith)
      ∙ be_value bs (drop (p + j) s) (small k, (small (k + 1), (small (k + 2), (small (k + 3), tt))))
      ∙ four_ones k j e h

  eight : p + 22 ≤ length s → be 8 (be64 s p 14) (drop (p + 22) s) ≡ drop (p + 14) s
  unfolding be64 be32
  eight h =
      let bs : List ℕ = be8 s p 14 ∷ be8 s p 15 ∷ be8 s p 16 ∷ be8 s p 17 ∷ be8 s p 18 ∷ be8 s p 19 ∷ be8 s p 20 ∷ be8 s p 21 ∷ [] in
      ap (λ (n : ℕ). be 8 n (drop (p + 22) s)) (omega arith)
      ∙ be_value bs (drop (p + 22) s) (small 14, (small 15, (small 16, (small 17, (small 18, (small 19, (small 20, (small 21, tt))))))))
      ∙ ap (λ (l : List ℕ). be8 s p 14 ∷ be8 s p 15 ∷ be8 s p 16 ∷ be8 s p 17 ∷ l) (four_ones 18 22 refl h)
      ∙ four_ones 14 18 refl (omega arith)

  pub short : (k : ℕ) → be16 s p k < 65536
  unfolding be16
  short k = let b0 = small k in let b1 = small (k + 1) in omega arith

  pub word : (k : ℕ) → be32 s p k < 4294967296
  unfolding be32
  word k = let b0 = small k in let b1 = small (k + 1) in let b2 = small (k + 2) in let b3 = small (k + 3) in omega arith

  long : be64 s p 14 < 2 ^ 64
  unfolding be64
  long = let high = word 14 in let low = word 18 in omega arith

  -- a name
  module _ (h : p + (23 + be8 s p 22) ≤ length s) where
    text_long : length (name_at s p).text ≡ be8 s p 22
    unfolding name_at
    text_long =
        length-take (be8 s p 22) (drop (p + 23) s) ∙ min-eq_left (let l = length-drop (p + 23) s in omega arith)

    text_whole : (name_at s p).text ++ drop (p + (23 + be8 s p 22)) s ≡ drop (p + 23) s
    unfolding name_at
    text_whole =
        let e : p + (23 + be8 s p 22) ≡ (p + 23) + be8 s p 22 = omega arith in
        ap (λ (m : ℕ). take (be8 s p 22) (drop (p + 23) s) ++ drop m s) e
        ∙ ap (λ (l : List ℕ). take (be8 s p 22) (drop (p + 23) s) ++ l) (sym (drop-drop (be8 s p 22) (p + 23) s))
        ∙ take-append-drop (be8 s p 22) (drop (p + 23) s)

    name_again : (k : ℕ) → k ≡ kind_at s p → put_payload (p_name k (name_at s p)) (drop (p + (23 + be8 s p 22)) s) ≡ drop (p + 13) s
    unfolding name_at
    name_again k e =
        ap (λ (l : List ℕ). k ∷ be 8 (be64 s p 14) (length (name_at s p).text ∷ l)) text_whole
        ∙ ap (λ (n : ℕ). k ∷ be 8 (be64 s p 14) (n ∷ drop (p + 23) s)) text_long
        ∙ ap (λ (l : List ℕ). k ∷ be 8 (be64 s p 14) l) (one 22 23 refl (omega arith))
        ∙ ap (λ (l : List ℕ). k ∷ l) (eight (omega arith))
        ∙ ap (λ (m : ℕ). m ∷ drop (p + 14) s) e
        ∙ one 13 14 refl (omega arith)

    name_fit : (k : ℕ) → 3 ≤ k → k ≤ 10 → FitPayload (p_name k (name_at s p))
    unfolding name_at
    name_fit k l u = (l, u, long, subst (λ (n : ℕ). n < 256) (sym text_long) (small 22))

  -- the payload that is read under a kind, written again, is what stands there, and fits its bytes
  pub record PayloadAgain (k : ℕ) : Type 0 where
    pub stands : put_payload (get_or (payloads s p) k p_none) (drop (p + (14 + size_of k (be8 s p 22))) s) ≡ drop (p + 13) s
    pub takes : payload_size (get_or (payloads s p) k p_none) ≡ size_of k (be8 s p 22)
    pub fit : FitPayload (get_or (payloads s p) k p_none)

  abbrev Again : ℕ → Type 0
  Again k = k ≡ kind_at s p → p + (14 + size_of k (be8 s p 22)) ≤ length s → PayloadAgain k

  -- the kind and what follows it
  kind_one : (k : ℕ) (l : List ℕ) → k ≡ kind_at s p → p + 14 ≤ length s → l ≡ drop (p + 14) s → k ∷ l ≡ drop (p + 13) s
  kind_one k l e h q =
      ap (λ (l : List ℕ). k ∷ l) q ∙ ap (λ (m : ℕ). m ∷ drop (p + 14) s) e ∙ one 13 14 refl (omega arith)

  none_again : Again 0
  unfolding size_of
  none_again e h = record { stands = kind_one 0 _ e h refl; takes = refl; fit = tt }

  float_again : Again 1
  unfolding size_of
  float_again e h = record { stands = kind_one 1 _ e (omega arith) (four 14 18 refl h); takes = refl; fit = word 14 }

  hash_again : Again 2
  unfolding size_of
  hash_again e h = record { stands = kind_one 2 _ e (omega arith) (eight h); takes = refl; fit = long }

  named_again : (k : ℕ) → 3 ≤ k → k ≤ 10 → Again k
  named_again k l u e h =
      let n = name_kind_lem s p (be8 s p 22) k l u in
      let z : size_of k (be8 s p 22) ≡ 9 + be8 s p 22 = n.takes in
      let m : get_or (payloads s p) k p_none ≡ p_name k (name_at s p) = n.reads in
      let w : p + (23 + be8 s p 22) ≤ length s = omega arith in
      let i : p + (14 + size_of k (be8 s p 22)) ≡ p + (23 + be8 s p 22) = omega arith in
      record {
        stands = ap (λ (v : Payload). put_payload v (drop (p + (14 + size_of k (be8 s p 22))) s)) m
            ∙ ap (λ (q : ℕ). put_payload (p_name k (name_at s p)) (drop q s)) i ∙ name_again w k e;
        takes = ap payload_size m ∙ ap (λ (q : ℕ). 9 + q) (text_long w) ∙ sym z;
        fit = subst FitPayload (sym m) (name_fit w k l u);
      }

  query_again : Again 11
  unfolding size_of
  query_again e h = record {
    stands = kind_one 11 _ e (omega arith)
        (ap (λ (l : List ℕ). be 2 (be16 s p 14) l) (one 16 17 refl (omega arith)) ∙ two 14 16 refl (omega arith));
    takes = refl;
    fit = (short 14, small 16);
  }

  math_again : Again 12
  unfolding size_of
  math_again e h = record { stands = kind_one 12 _ e (omega arith) (two 14 16 refl h); takes = refl; fit = short 14 }

  pub payload_again : (k : ℕ) → k ≤ 12 → k ≡ kind_at s p → p + (14 + size_of k (be8 s p 22)) ≤ length s → PayloadAgain k
  payload_again = by_kind Again none_again float_again hash_again named_again query_again math_again
