-- Nodes of a tree image that no question refuses: the texts of their names lie in it, and what the rules read in their payloads is what the definition reads. Assumes nothing.
use Rattle.std.proofs.Common.{Option, None, Some, rules, ◌≡◌, refl, sym, ap, subst, ◌∙◌, Bool, true, false, cond, ◌&&◌, List, ℕ, zero, suc, ◌+◌, ◌≤◌, arith, length, get_or, leb, eqb, leb-true, eq-eqb, ne_eqb}
use mathlib.Core.Bool.{false≢true}
use native.Mathlib.Decide.{ℕ_discrete}
use Rattle.wire.specs.Bytes.{be8}
use Rattle.ast.specs.Tree as T
use Rattle.ast.specs.Header.{ROOT, LEVELS}
use Rattle.ast.specs.Rules.{known}
use Rattle.ast.specs.Node.{len_at, op_at, kind_at, payload_at, size_at, count_at, first_at, next_at}
use Rattle.ast.specs.Questions.{fits, row, filled, rooted, whole, formed, shallow, questions}
use Rattle.ast.proofs.PayloadKinds.{name_kind_lem}
use Rattle.program.specs.Counts.{Counts}
use Rattle.payload.specs.declared.NameRef.{NameRef}
use Rattle.payload.specs.declared.Payload.{Payload}
use Rattle.payload.specs.declared.Payload.TheVariants as V
use Rattle.payload.specs.Payloads.{name_ref_at, payload_refs, payload_ref_at, named, meant}
use Rattle.payload.proofs.Meant.{payload_meant}
use Rattle.semantics.specs.Payloads as P
use Rattle.semantics.specs.Pieces.{Lowering}
use Rattle.lowering.specs.Payloads as Q
use Rattle.lowering.specs.Parts.{Step}
use Rattle.representation.proofs.Represents.{Does}
use Rattle.representation.proofs.Entries.{TextOf}
use Rattle.representation.proofs.Texts.{text_at}

-- ---- sound nodes

-- if the payload is a name, its text lies in the image
abbrev pub NodeSound : List ℕ → ℕ → Type 0
NodeSound tree p = 3 ≤ kind_at tree p → kind_at tree p ≤ 10 → p + 23 + be8 tree p 22 ≤ length tree

-- n nodes one behind the other, the first at q
abbrev pub SoundRow : (ℕ → Type 0) → List ℕ → ℕ → ℕ → Type 0
SoundRow S tree zero q = Unit {0}
SoundRow S tree (suc n) q = S q × SoundRow S tree n (next_at tree q)

-- the node at p and all below it, to so many levels
abbrev pub Sound : ℕ → List ℕ → ℕ → Type 0
Sound zero tree p = ⊥
Sound (suc n) tree p = NodeSound tree p × SoundRow (Sound n tree) tree (count_at tree p) (first_at tree p)

-- the node itself, and its first child
pub node_sound : (n : ℕ) (tree : List ℕ) (p : ℕ) → Sound n tree p → NodeSound tree p
node_sound zero tree p h = absurd h
node_sound (suc n) tree p h = h.0

pub first_sound : (n : ℕ) (tree : List ℕ) (p : ℕ) → 1 ≤ count_at tree p → Sound (suc n) tree p → Sound n tree (first_at tree p)
first_sound n tree p l h = search rules

-- ---- what no question refuses is sound

both : (a b : Bool) → (a && b) ≡ true → (a ≡ true) × (b ≡ true)
both true b h = (refl, h)
both false b h = absurd (false≢true h)

fit_sound : (s : List ℕ) (p e : ℕ) → e ≤ length s → fits s p e ≡ true → NodeSound s p
unfolding fits
fit_sound s p e le h l u =
    let x = both (known (op_at s p)) (leb (kind_at s p) 12 && (leb (12 + size_at s p) (len_at s p) && leb (p + (4 + len_at s p)) e)) h in
    let y = both (leb (kind_at s p) 12) (leb (12 + size_at s p) (len_at s p) && leb (p + (4 + len_at s p)) e) x.1 in
    let z = both (leb (12 + size_at s p) (len_at s p)) (leb (p + (4 + len_at s p)) e) y.1 in
    let own = leb-true (12 + size_at s p) (len_at s p) z.0 in
    let end = leb-true (p + (4 + len_at s p)) e z.1 in
    let size = (name_kind_lem s p (be8 s p 22) (kind_at s p) l u).takes in
    omega (arith, own, end, size, le)

row_says : (inside : ℕ → Bool) (s : List ℕ) (n p e : ℕ) → row inside s (suc n) p e ≡ true
    → (fits s p e ≡ true) × (inside p ≡ true) × (row inside s n (next_at s p) e ≡ true)
unfolding row
row_says inside s n p e h = search rules

row_sound : (s : List ℕ) (S : ℕ → Type 0) (inside : ℕ → Bool) → ((p e : ℕ) → e ≤ length s → fits s p e ≡ true → inside p ≡ true → S p)
    → (n p e : ℕ) → e ≤ length s → row inside s n p e ≡ true → SoundRow S s n p
row_sound s S inside each zero p e l h = tt
row_sound s S inside each (suc n) p e l h =
    let w = row_says inside s n p e h in
    (each p e l w.0 w.1, row_sound s S inside each n (next_at s p) e l w.2)

filled_sound : (s : List ℕ) (n p e : ℕ) → e ≤ length s → fits s p e ≡ true → filled n s p ≡ true → Sound n s p
unfolding filled
filled_sound s zero p e l f h = absurd (false≢true h)
filled_sound s (suc n) p e l f h =
    (fit_sound s p e l f, row_sound s (Sound n s) (filled n s) (filled_sound s n) (count_at s p) (first_at s p) (next_at s p) (omega arith) h)

rooted_sound : (n : ℕ) (s : List ℕ) → rooted n s ≡ true → Sound n s 7
unfolding rooted
rooted_sound n s h = (row_sound s (Sound n s) (filled n s) (filled_sound s n) 1 7 (length s) (omega arith) h).0

asked : (a b c : Bool) → ◌≡◌ {A = ℕ} (cond a (cond b (cond c 0 4) 3) 2) 0 → (a ≡ true) × (b ≡ true) × (c ≡ true)
asked true true true h = (refl, refl, refl)
asked a b c h = absurd (omega arith)

pub sound : (tree : List ℕ) → questions tree ≡ 0 → Sound LEVELS tree ROOT
unfolding questions shallow
sound tree h = rooted_sound LEVELS tree (asked (whole tree) (formed tree) (rooted LEVELS tree) h).2

pub not_larger : (tree : List ℕ) → questions tree ≡ 0 → length tree ≤ 6144
unfolding questions whole
not_larger tree h = search rules

-- ---- the texts of a payload

-- the payload's name, if it is one
abbrev pub name_of : Payload → Option NameRef
name_of v = Q.cases v None (λ x. None) (λ x. None) (λ x. None) (λ j r. Some r) (λ i m. None)

-- W holds of the name, if there is one
abbrev pub OfName : (NameRef → Type 0) → Option NameRef → Type 0
OfName W None = Unit {0}
OfName W (Some r) = W r

of_all : (o : Option NameRef) → OfName (λ r. Unit {0}) o
of_all None = tt
of_all (Some r) = tt

abbrev pub Texts : List ℕ → Payload → Type 0
Texts tree v = OfName (TextOf tree) (name_of v)

texts_of : (tree : List ℕ) (p k : ℕ) → (3 ≤ k → k ≤ 10 → TextOf tree (name_ref_at tree p)) → Texts tree (get_or (payload_refs tree p) k V.None)
unfolding Q.cases
texts_of tree p zero h = tt
texts_of tree p (suc zero) h = tt
texts_of tree p (suc (suc zero)) h = tt
texts_of tree p (suc (suc (suc (suc (suc (suc (suc (suc (suc (suc (suc zero))))))))))) h = tt
texts_of tree p (suc (suc (suc (suc (suc (suc (suc (suc (suc (suc (suc (suc zero)))))))))))) h = tt
texts_of tree p (suc (suc (suc (suc (suc (suc (suc (suc (suc (suc (suc (suc (suc k))))))))))))) h = tt
texts_of tree p k h = h (omega arith) (omega arith)

pub texts : (tree : List ℕ) (p : ℕ) → NodeSound tree p → length tree ≤ 6144 → Texts tree (payload_ref_at tree p)
unfolding payload_ref_at
texts tree p s l = texts_of tree p (kind_at tree p) (λ a b. text_at tree p (s a b) (omega arith))

-- ---- what the rules read, for any relation of what the definition makes of it to what a step makes of it

module _ {X Y Z : Type 0} (R : X → (Z → Y) → Type 0) where
  picked : (j k : ℕ) (e : Dec (j ≡ k)) (b : Bool) → eqb j k ≡ b → {x d : X} {g D : Z → Y} → R x g → R d D → R (elim e [ yes p ↦ x | no p ↦ d ]) (λ z. cond b (g z) (D z))
  picked j k (yes p) true q h i = h
  picked j k (yes p) false q h i = absurd (false≢true (sym q ∙ eq-eqb j k p))
  picked j k (no p) true q h i = absurd (false≢true (sym (ne_eqb j k p) ∙ q))
  picked j k (no p) false q h i = i

-- by the variant, where W holds of a name
module _ (tree : List ℕ) {X Y Z : Type 0} (R : X → (Z → Y) → Type 0) (W : NameRef → Type 0) (s : ℕ → T.Name → X) {n : X} {f h m : ℕ → X} {q : ℕ → ℕ → X}
    {N : Z → Y} {F H M : ℕ → Z → Y} {S : ℕ → NameRef → Z → Y} {G : ℕ → ℕ → Z → Y}
    (none : R n N) (float : (x : ℕ) → R (f x) (F x)) (hash : (x : ℕ) → R (h x) (H x)) (math : (x : ℕ) → R (m x) (M x))
    (name : (j : ℕ) (r : NameRef) → W r → R (s j (named tree r)) (S j r)) (query : (x y : ℕ) → R (q x y) (G x y)) where
  by_variant : (v : Payload) → OfName W (name_of v) → R (P.cases (meant tree v) n f h m s q) (λ z. Q.cases v (N z) (λ x. F x z) (λ x. H x z) (λ x. M x z) (λ j r. S j r z) (λ x y. G x y z))
  unfolding P.cases Q.cases
  by_variant V.None w = none
  by_variant (V.Float x) w = float x
  by_variant (V.Hash x) w = hash x
  by_variant (V.Context r) w = name 3 r w
  by_variant (V.Entity r) w = name 4 r w
  by_variant (V.Temp r) w = name 5 r w
  by_variant (V.Member r) w = name 6 r w
  by_variant (V.ArrayVariable r) w = name 7 r w
  by_variant (V.Geometry r) w = name 8 r w
  by_variant (V.Material r) w = name 9 r w
  by_variant (V.Texture r) w = name 10 r w
  by_variant (V.Query x) w = query x.index x.impl_idx
  by_variant (V.HostMath x) w = math x

  by_payload : (p : ℕ) → OfName W (name_of (payload_ref_at tree p))
      → R (P.cases (payload_at tree p) n f h m s q) (λ z. Q.cases (payload_ref_at tree p) (N z) (λ x. F x z) (λ x. H x z) (λ x. M x z) (λ j r. S j r z) (λ x y. G x y z))
  by_payload p w =
      subst (λ (v : T.Payload). R (P.cases v n f h m s q) (λ z. Q.cases (payload_ref_at tree p) (N z) (λ x. F x z) (λ x. H x z) (λ x. M x z) (λ j r. S j r z) (λ x y. G x y z))) (payload_meant tree p)
      (by_variant (payload_ref_at tree p) w)

module _ (tree : List ℕ) {X Y Z : Type 0} (R : X → (Z → Y) → Type 0) where
  name_where : (W : NameRef → Type 0) (k p : ℕ) → OfName W (name_of (payload_ref_at tree p)) → (f : T.Name → X) {d : X} {D : Z → Y} {F : NameRef → Z → Y} → R d D → ((r : NameRef) → W r → R (f (named tree r)) (F r)) → R (P.as_name k (payload_at tree p) d f) (λ z. Q.as_name k (payload_ref_at tree p) (D z) (λ r. F r z))
  unfolding P.as_name Q.as_name
  name_where W k p w f i h = by_payload tree R W _ i (λ x. i) (λ x. i) (λ x. i) (λ j r t. picked R j k (ℕ_discrete j k) (eqb j k) refl (h r t) i) (λ x y. i) p w

  pub name_related : (k p : ℕ) → NodeSound tree p → length tree ≤ 6144 → (f : T.Name → X) {d : X} {D : Z → Y} {F : NameRef → Z → Y} → R d D → ((r : NameRef) → TextOf tree r → R (f (named tree r)) (F r)) → R (P.as_name k (payload_at tree p) d f) (λ z. Q.as_name k (payload_ref_at tree p) (D z) (λ r. F r z))
  name_related k p s l f i h = name_where (TextOf tree) k p (texts tree p s l) f i h

  -- the same where the name's text is not looked at
  pub name_always : (k p : ℕ) (f : T.Name → X) {d : X} {D : Z → Y} {F : NameRef → Z → Y} → R d D → ((r : NameRef) → R (f (named tree r)) (F r)) → R (P.as_name k (payload_at tree p) d f) (λ z. Q.as_name k (payload_ref_at tree p) (D z) (λ r. F r z))
  name_always k p f i h = name_where (λ r. Unit {0}) k p (of_all (name_of (payload_ref_at tree p))) f i (λ r t. h r)

-- ---- for lowerings

abbrev Is : List ℕ → Counts → Lowering → Step → Type 0
Is tree c x S = Does tree x c S

module _ {tree : List ℕ} {c : Counts} where
  pub as_name_lem : (k p : ℕ) → NodeSound tree p → length tree ≤ 6144 → (f : T.Name → Lowering) {d : Lowering} {D : Step} {F : NameRef → Step} → Does tree d c D → ((r : NameRef) → TextOf tree r → Does tree (f (named tree r)) c (F r)) → Does tree (P.as_name k (payload_at tree p) d f) c (λ h. Q.as_name k (payload_ref_at tree p) (D h) (λ r. F r h))
  as_name_lem k p s l f i h = name_related tree (Is tree c) k p s l f i h

  pub as_hash_lem : (p : ℕ) {d : Lowering} {D : Step} {f : ℕ → Lowering} {F : ℕ → Step} → Does tree d c D → ((x : ℕ) → Does tree (f x) c (F x)) → Does tree (P.as_hash (payload_at tree p) d f) c (λ h. Q.as_hash (payload_ref_at tree p) (D h) (λ x. F x h))
  unfolding P.as_hash Q.as_hash
  as_hash_lem p i h = by_payload tree (Is tree c) (λ r. Unit {0}) _ i (λ x. i) h (λ x. i) (λ j r t. i) (λ x y. i) p (of_all (name_of (payload_ref_at tree p)))

  pub as_math_lem : (p : ℕ) {d : Lowering} {D : Step} {f : ℕ → Lowering} {F : ℕ → Step} → Does tree d c D → ((x : ℕ) → Does tree (f x) c (F x)) → Does tree (P.as_math (payload_at tree p) d f) c (λ h. Q.as_math (payload_ref_at tree p) (D h) (λ x. F x h))
  unfolding P.as_math Q.as_math
  as_math_lem p i h = by_payload tree (Is tree c) (λ r. Unit {0}) _ i (λ x. i) (λ x. i) h (λ j r t. i) (λ x y. i) p (of_all (name_of (payload_ref_at tree p)))

  pub as_query_lem : (p : ℕ) {d : Lowering} {D : Step} {f : ℕ → ℕ → Lowering} {F : ℕ → ℕ → Step} → Does tree d c D → ((x y : ℕ) → Does tree (f x y) c (F x y)) → Does tree (P.as_query (payload_at tree p) d f) c (λ h. Q.as_query (payload_ref_at tree p) (D h) (λ x y. F x y h))
  unfolding P.as_query Q.as_query
  as_query_lem p i h = by_payload tree (Is tree c) (λ r. Unit {0}) _ i (λ x. i) (λ x. i) (λ x. i) (λ j r t. i) h p (of_all (name_of (payload_ref_at tree p)))

-- ---- numbers

float_case : (tree : List ℕ) (v : Payload) → P.float_of (meant tree v) ≡ Q.float_of v
unfolding P.float_of Q.float_of P.cases Q.cases
float_case tree V.None = refl
float_case tree v = refl

pub float_same : (tree : List ℕ) (p : ℕ) → P.float_of (payload_at tree p) ≡ Q.float_of (payload_ref_at tree p)
float_same tree p = ap P.float_of (sym (payload_meant tree p)) ∙ float_case tree (payload_ref_at tree p)

const_case : (tree : List ℕ) (v : Payload) → P.const_of (meant tree v) ≡ Q.const_of v
unfolding P.const_of Q.const_of P.as_hash Q.as_hash P.float_of Q.float_of P.cases Q.cases
const_case tree V.None = refl
const_case tree v = refl

pub const_same : (tree : List ℕ) (p : ℕ) → P.const_of (payload_at tree p) ≡ Q.const_of (payload_ref_at tree p)
const_same tree p = ap P.const_of (sym (payload_meant tree p)) ∙ const_case tree (payload_ref_at tree p)

string_case : (tree : List ℕ) (v : Payload) → P.string_of (meant tree v) ≡ Q.string_of v
unfolding P.string_of Q.string_of P.as_hash Q.as_hash P.cases Q.cases
string_case tree V.None = refl
string_case tree v = refl

pub string_same : (tree : List ℕ) (p : ℕ) → P.string_of (payload_at tree p) ≡ Q.string_of (payload_ref_at tree p)
string_same tree p = ap P.string_of (sym (payload_meant tree p)) ∙ string_case tree (payload_ref_at tree p)

resource_case : (tree : List ℕ) (v : Payload) → P.resource_of (meant tree v) ≡ Q.resource_of v
unfolding P.resource_of Q.resource_of P.as_name Q.as_name ℕ_discrete P.cases Q.cases
resource_case tree V.None = refl
resource_case tree v = refl

pub resource_same : (tree : List ℕ) (p : ℕ) → P.resource_of (payload_at tree p) ≡ Q.resource_of (payload_ref_at tree p)
resource_same tree p = ap P.resource_of (sym (payload_meant tree p)) ∙ resource_case tree (payload_ref_at tree p)
