-- Where a section begins: from the back as from the front; and one section more, written in front of those that stand. Assumes nothing.
use mathlib.Core.Path.{◌≡◌, refl, ap, ap₂, sym, ◌∙◌}
use mathlib.Core.List.{List, [], ◌∷◌, ◌++◌, append_assoc}
use Prim.Native.Nat.{ℕ, zero, suc, ◌+◌, ◌-◌, ◌%◌, ◌≤◌, ◌<◌}
use native.Mathlib.Omega.{arith}
use lib.ListN.{length, length-append, get_or, take, drop}
use lib.Seq.{sets, drop_at, take_at, drop-cons}
use Rattle.wire.specs.Bytes.{be}
use Rattle.wire.proofs.Numbers.{be_length}
use Rattle.card.specs.declared.Sections.{Sections}
use Rattle.card.specs.declared.TheConstants.{CLOSING}
use Rattle.card.specs.declared.measure.Sums.{Sums}
use Rattle.card.specs.Written.{Wrote, joined}
use Rattle.card.specs.Image.{sections_of, closing_bytes, body_of, image_of, laid}
use Rattle.card.specs.Starts.{sum_of, sum_to, sums_of, closing_start, start_from_back, start_from_front}
use Rattle.card.proofs.Join.{join, ahead, being}
use Rattle.card.proofs.Whole.{image_length, written}
use Rattle.card.proofs.Lengths.{closing}

joined_length : (ss : List (List ℕ)) (r : List ℕ) → length (joined ss r) ≡ sum_of ss + length r
unfolding joined sum_of
joined_length [] r = omega arith
joined_length (s ∷ ss) r = length-append s (joined ss r) ∙ omega (arith, joined_length ss r)

-- what the front and the back sum up to, at every place
sum_split : (k : ℕ) (ss : List (List ℕ)) → sum_of (take k ss) + sum_of (drop k ss) ≡ sum_of ss
unfolding sum_of
sum_split zero ss = omega arith
sum_split (suc k) [] = refl
sum_split (suc k) (s ∷ ss) = omega (arith, sum_split k ss)

-- one section in its place among the others
joined_at : (k : ℕ) (ss : List (List ℕ)) (r : List ℕ) → k < length ss → joined ss r ≡ joined (take k ss) [] ++ (get_or ss k [] ++ joined (drop (suc k) ss) r)
unfolding joined
joined_at zero [] r h = elim h [ ]
joined_at (suc k) [] r h = elim h [ ]
joined_at zero (s ∷ ss) r h = refl
joined_at (suc k) (s ∷ ss) r h = ap (λ l. s ++ l) (joined_at k ss r (omega arith)) ∙ sym (append_assoc s (joined (take k ss) []) _)

module _ (tree ws : List ℕ) (c : Sections) where
  abbrev sections : List (List ℕ)
  sections = sections_of tree ws c

  abbrev section : ℕ → List ℕ
  section k = get_or sections k []

  abbrev sum : ℕ → ℕ
  sum = sum_to tree ws c

  abbrev image : List ℕ
  image = image_of tree ws c

  image_size : length image ≡ 5 + sum 0 + length (closing_bytes c)
  unfolding body_of sum_to
  image_size = omega (arith, image_length tree ws c, joined_length sections (closing_bytes c))

  closing_at : closing_start tree ws c ≡ 5 + sum 0
  unfolding closing_start
  closing_at = omega (arith, image_size)

  -- the image's length by the sum that ends with code
  pub total : {s : Sums} → s ≡ sums_of tree ws c → 5 + s.code + CLOSING ≡ length image
  unfolding sums_of
  total {s} e = let h : s.code ≡ sum 0 = ap (λ (x : Sums). x.code) e in omega (arith, h, image_size, closing c)

  pub closing_is : {s : Sums} → s ≡ sums_of tree ws c → 5 + s.code ≡ closing_start tree ws c
  unfolding sums_of
  closing_is {s} e = let h : s.code ≡ sum 0 = ap (λ (x : Sums). x.code) e in omega (arith, h, closing_at)

  -- the running sum is one step over a section
  pub step : (k : ℕ) {n behind : ℕ} → k < length sections → n ≡ length (section k) → behind ≡ sum (suc k) → n + behind ≡ sum k
  unfolding sum_to sum_of
  step k h p q = ap₂ (λ a b. a + b) p q ∙ sym (ap sum_of (drop-cons sections k [] h))

  -- the first ends with calls, and then there are nine
  pub first : {n : ℕ} → n ≡ length (section 8) → n ≡ sum 8
  unfolding sum_to sections_of sum_of
  first e = omega (arith, e)

  pub sums_are : {n0 n1 n2 n3 n4 n5 n6 n7 n8 : ℕ} → n8 ≡ sum 8 → n7 ≡ sum 7 → n6 ≡ sum 6 → n5 ≡ sum 5 → n4 ≡ sum 4
      → n3 ≡ sum 3 → n2 ≡ sum 2 → n1 ≡ sum 1 → n0 ≡ sum 0
      → ◌≡◌ {A = Sums} (record { code = n0; consts = n1; posts = n2; hashes = n3; names = n4; temps = n5; members = n6; stores = n7; calls = n8 })
      (sums_of tree ws c)
  unfolding sums_of
  sums_are e8 e7 e6 e5 e4 e3 e2 e1 e0 = rw (e0, e1, e2, e3, e4, e5, e6, e7, e8) refl

  -- a section begins where the image has it
  pub starts_agree : (k : ℕ) → start_from_back tree ws c k ≡ start_from_front tree ws c k
  unfolding start_from_back start_from_front sum_to
  starts_agree k = omega (arith, closing_at, sum_split k sections)

  -- and there its bytes stand
  pub stands : (k : ℕ) → k < length sections → take (length (section k)) (drop (start_from_back tree ws c k) image) ≡ section k
  unfolding image_of body_of start_from_front
  stands k h =
      let at = start_from_back tree ws c k in
      let n = length (body_of tree ws c) % 4294967296 in
      let head = be 1 1 [] ++ be 4 n [] in
      let before = joined (take k sections) [] in
      let rest = section k ++ joined (drop (suc k) sections) (closing_bytes c) in
      let e : image ≡ head ++ before ++ rest = ap (λ l. head ++ l) (joined_at k sections (closing_bytes c) h) ∙ sym (append_assoc head before rest) in
      let size = joined_length (take k sections) [] in
      let l : length (head ++ before) ≡ at = simp length-append (omega (arith, be_length 1 1 [], be_length 4 n [], size, starts_agree k)) in
      ap (λ i. take (length (section k)) (drop at i)) e
      ∙ ap (take (length (section k))) (drop_at (head ++ before) rest at l) ∙ take_at (section k) _ (length (section k)) refl

  -- every running sum is at most what stands before the closing fields
  within : (k : ℕ) {s closing : ℕ} → s ≡ sum k → closing ≡ closing_start tree ws c → s ≤ closing
  unfolding sum_to
  within k p q = omega (arith, p, q, closing_at, sum_split k sections)

  pub all_within : {s : Sums} {closing : ℕ} → s ≡ sums_of tree ws c → closing ≡ closing_start tree ws c
      → (s.calls ≤ closing) × (s.stores ≤ closing) × (s.members ≤ closing) × (s.temps ≤ closing) × (s.names ≤ closing) × (s.hashes ≤ closing)
      × (s.posts ≤ closing) × (s.consts ≤ closing) × (s.code ≤ closing)
  unfolding sums_of
  all_within p q = (
    within 8 (ap (λ (s : Sums). s.calls) p) q,
    within 7 (ap (λ (s : Sums). s.stores) p) q,
    within 6 (ap (λ (s : Sums). s.members) p) q,
    within 5 (ap (λ (s : Sums). s.temps) p) q,
    within 4 (ap (λ (s : Sums). s.names) p) q,
    within 3 (ap (λ (s : Sums). s.hashes) p) q,
    within 2 (ap (λ (s : Sums). s.posts) p) q,
    within 1 (ap (λ (s : Sums). s.consts) p) q,
    within 0 (ap (λ (s : Sums). s.code) p) q,
  )

  -- t is s with the sections from k on and the closing fields in their places
  abbrev Standing : (s : List ℕ) (closing k : ℕ) (t : List ℕ) → Type 0
  Standing s closing k t = Wrote s (closing - sum k) (joined (drop k sections) (closing_bytes c)) t (closing + length (closing_bytes c))

  -- the closing fields alone, one section more, and all nine
  pub closed : (closing : ℕ) {s t : List ℕ} {r : ℕ} → Wrote s closing (closing_bytes c) t r → Standing s closing 9 t
  unfolding sum_to sections_of sum_of joined
  closed closing {s} w = record { bytes = w.bytes ∙ ap (λ n. sets s n (closing_bytes c)) (omega arith); next = omega arith }

  pub one_more : (k : ℕ) {closing : ℕ} (n : ℕ) {s t u : List ℕ} {r : ℕ} → k < length sections → n ≡ sum k → closing ≡ closing_start tree ws c
      → Standing s closing (suc k) t → Wrote t (closing - n) (section k) u r → Standing s closing k u
  unfolding joined
  one_more k {closing} n {s} {t} {u} h p q w e =
      let l : closing - sum (suc k) ≡ closing - n + length (section k) = omega (arith, step k h refl refl, within k p q, p) in
      let v : Wrote t (closing - n) (section k) u (closing - sum (suc k)) = record { bytes = e.bytes; next = l } in
      let x = being (ahead w v) (sym (ap (λ l. joined l (closing_bytes c)) (drop-cons sections k [] h))) in
      rw (← p) x

  pub all_nine : {closing : ℕ} {s t : List ℕ} → closing ≡ closing_start tree ws c → Standing s closing 0 t
      → Wrote s (start_from_back tree ws c 0) (body_of tree ws c) t (length image)
  unfolding start_from_back body_of
  all_nine {closing} {s} q w = record {
    bytes = w.bytes ∙ ap (λ n. sets s (n - sum 0) (body_of tree ws c)) q;
    next = omega (arith, q, closing_at, image_size, w.next);
  }

  -- byte 0 and the length in front of them
  pub headed : {n e f : ℕ} {s t u v : List ℕ} → n ≡ length (body_of tree ws c) → n + 5 ≤ length s
      → Wrote s 0 (be 1 1 []) t e → Wrote t e (be 4 (n % 4294967296) []) u f
      → Wrote u (start_from_back tree ws c 0) (body_of tree ws c) v (length image) → v ≡ laid image s
  unfolding start_from_front sum_of
  headed {n} {e} {f} {s} {t} {u} {v} p l w x y =
      let a : start_from_back tree ws c 0 ≡ f = omega (arith, starts_agree 0, w.next, x.next, be_length 1 1 [], be_length 4 (n % 4294967296) []) in
      let z : Wrote u f (body_of tree ws c) v (length image) = rw (← a) y in
      (written tree ws c p l (join (join w x) z)).0
