-- Entries of the pools in the workspace's words: what a hit decides, and what the words of a new entry hold. Assumes nothing.
use Rattle.std.proofs.Common.{◌≡◌, refl, sym, ap, subst, ◌∙◌, List, [], ◌∷◌, ℕ, ◌+◌, ◌/◌, ◌%◌, ◌<◌, arith, length, get_or, take}
use Rattle.numeric.specs.Post.{Post}
use Rattle.payload.specs.declared.NameRef.{NameRef}
use Rattle.payload.specs.Payloads.{named}
use Rattle.semantics.specs.State.{MemberRead}
use Rattle.semantics.specs.Link.{member_entry}
use Rattle.card.specs.Holds.{TextIs}
use Rattle.lowering.proofs.Hits.{Stand}
use Rattle.workspace.specs.Words.{high, low}
use Rattle.lowering.specs.Pools.{SHARED, text_place}
use Rattle.representation.proofs.Represents.{Pooled, consts, posts, hashes, names, temps, members, Row, row}

-- ---- equal keys

equal_hashes : (x v : ℕ) → x / 4294967296 ≡ v / 4294967296 → x % 4294967296 ≡ v % 4294967296 → x ≡ v
equal_hashes x v a b = omega arith

pair_eq : {a b c d : ℕ} → a ≡ c → b ≡ d → ◌≡◌ {A = ℕ × ℕ} (a, b) (c, d)
pair_eq p q i = (p i, q i)

-- us has the entry's words from p on
abbrev pub Stored : List ℕ → ℕ → List ℕ → Type 0
Stored us p entry = (j : ℕ) → j < length entry → get_or us (p + j) 0 ≡ get_or entry j 0

-- an entry's words: they give the claim on an entry, and the key's are those of an entry of the same key
module _ (tree : List ℕ) (i : Pooled) where
  abbrev r : Row tree
  r = row tree i

  pub record Keyed (v : r.Entry) (entry : List ℕ) : Type 0 where
    pub size : length entry ≡ r.region.width
    pub stored : (us : List ℕ) (p : ℕ) → Stored us p entry → r.At us p v
    pub found : (us : List ℕ) (p : ℕ) (x : r.Entry) → r.At us p x → Stand us p (take r.region.key entry) → r.pool.key x ≡ r.pool.key v
    pub stands : (us : List ℕ) (p : ℕ) (x : r.Entry) → r.At us p x → r.pool.key x ≡ r.pool.key v → Stand us p (take r.region.key entry)

first_stored : (us : List ℕ) (p v : ℕ) → get_or us (p + 0) 0 ≡ v → get_or us p 0 ≡ v
first_stored us p v q = let e : p + 0 ≡ p = omega arith in subst (λ (n : ℕ). get_or us n 0 ≡ v) e q

module _ (tree : List ℕ) where
  pub const_keyed : (v : ℕ) → Keyed tree consts v (v ∷ SHARED ∷ [])
  const_keyed v = record {
    size = refl;
    stored = λ us p s. (first_stored us p v (s 0 (omega arith)), s 1 (omega arith));
    found = λ us p x q s. sym q.0 ∙ s.0;
    stands = λ us p x q e. (q.0 ∙ e, (q.1, tt));
  }

  pub slot_keyed : (v : ℕ) → Keyed tree temps v (v ∷ [])
  slot_keyed v = record {
    size = refl;
    stored = λ us p s. first_stored us p v (s 0 (omega arith));
    found = λ us p x q s. sym q ∙ s.0;
    stands = λ us p x q e. (q ∙ e, tt);
  }

  pub hash_keyed : (v : ℕ) → Keyed tree hashes v (high v ∷ low v ∷ [])
  hash_keyed v = record {
    size = refl;
    stored = λ us p s. record { high = first_stored us p (high v) (s 0 (omega arith)); low = s 1 (omega arith) };
    found = λ us p x q s. equal_hashes x v (sym q.high ∙ s.0) (sym q.low ∙ s.1.0);
    stands = λ us p x q e. (q.high ∙ ap high e, (q.low ∙ ap low e, tt));
  }

  pub post_keyed : (v : Post) → Keyed tree posts v (v.scale ∷ v.offset ∷ [])
  post_keyed v = record {
    size = refl;
    stored = λ us p s. record { scale = first_stored us p v.scale (s 0 (omega arith)); offset = s 1 (omega arith) };
    found = λ us p x q s. pair_eq (sym q.scale ∙ s.0) (sym q.offset ∙ s.1.0);
    stands = λ us p x q e. (q.scale ∙ ap (λ (z : ℕ × ℕ). z.0) e, (q.offset ∙ ap (λ (z : ℕ × ℕ). z.1) e, tt));
  }

-- ---- entries with names

module _ (tree : List ℕ) where
  -- the text of a name: its length byte stands before it in the tree image
  abbrev pub TextOf : NameRef → Type 0
  TextOf r = TextIs tree (text_place r.at) (named tree r).text

  abbrev pub read_of : NameRef → NameRef → MemberRead
  read_of r l = record { own = named tree r; last = named tree l }

  text_stored : (us : List ℕ) (q : ℕ) (r : NameRef) → get_or us q 0 ≡ text_place r.at → TextOf r → TextIs tree (get_or us q 0) (named tree r).text
  text_stored us q r e h = subst (λ (o : ℕ). TextIs tree o (named tree r).text) (sym e) h

  pub name_keyed : (r : NameRef) → TextOf r → Keyed tree names (named tree r) (high r.hash ∷ low r.hash ∷ text_place r.at ∷ [])
  name_keyed r g = record {
    size = refl;
    stored = λ us p s. record {
      hash = record { high = first_stored us p (high r.hash) (s 0 (omega arith)); low = s 1 (omega arith) };
      text = text_stored us (p + 2) r (s 2 (omega arith)) g;
    };
    found = λ us p x q s. equal_hashes x.hash r.hash (sym q.hash.high ∙ s.0) (sym q.hash.low ∙ s.1.0);
    stands = λ us p x q e. (q.hash.high ∙ ap high e, (q.hash.low ∙ ap low e, tt));
  }

  pub member_keyed : (r l : NameRef) → TextOf r → TextOf l → Keyed tree members (read_of r l)
      (high r.hash ∷ low r.hash ∷ high l.hash ∷ low l.hash ∷ text_place r.at ∷ text_place l.at ∷ [])
  unfolding member_entry
  member_keyed r l g h = record {
    size = refl;
    stored = λ us p s. (
      record {
        hash = record { high = first_stored us p (high r.hash) (s 0 (omega arith)); low = s 1 (omega arith) };
        own = (named tree r).text;
        last = (named tree l).text;
        text = refl;
        report = refl;
        own_text = text_stored us (p + 4) r (s 4 (omega arith)) g;
        last_text = text_stored us (p + 5) l (s 5 (omega arith)) h;
      },
      s 2 (omega arith),
      s 3 (omega arith),
    );
    found = λ us p x q s.
        let e : p + 1 + 1 ≡ p + 2 = omega arith in
        let f : p + 2 + 1 ≡ p + 3 = omega arith in
        let t = rw (e, f) at s.1.1 in
        pair_eq (equal_hashes x.own.hash r.hash (sym q.0.hash.high ∙ s.0) (sym q.0.hash.low ∙ s.1.0))
        (equal_hashes x.last.hash l.hash (sym q.1 ∙ t.0) (sym q.2 ∙ t.1.0));
    stands = λ us p x q k.
        let e : p + 1 + 1 ≡ p + 2 = omega arith in
        let f : p + 2 + 1 ≡ p + 3 = omega arith in
        let a = ap (λ (z : ℕ × ℕ). z.0) k in
        let b = ap (λ (z : ℕ × ℕ). z.1) k in
        (q.0.hash.high ∙ ap high a, (q.0.hash.low ∙ ap low a, rw (e, f) (q.1 ∙ ap high b, (q.2 ∙ ap low b, tt))));
  }
