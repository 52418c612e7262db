-- What a payload is read as where a `let .. else` binds it, and where it is told only that it is none of that kind; a member's tag is told. Assumes nothing.
use mathlib.Core.Path.{◌≡◌, refl, sym, ap, subst, ◌∙◌}
use mathlib.Core.Bool.{cond}
use mathlib.Core.List.{[], ◌∷◌}
use Prim.Native.Nat.{ℕ}
use lib.Dec.{eqb}
use lib.ListN.{get_or}
use Rattle.std.proofs.Common.{ne_eqb}
use types.Run.{OneOf, miss}
use denote.Enum.Declared.{tag_of}
use Rattle.payload.specs.declared.NameRef.{NameRef}
use Rattle.payload.specs.declared.Payload.{Payload}
use Rattle.payload.specs.declared.Payload.TheVariants.{None, Float, Hash, Context, Entity, Temp, Member, ArrayVariable, Geometry, Material, Texture, Query, HostMath}
use Rattle.payload.specs.contracts.Payload.{the_type}
use Rattle.lowering.specs.Payloads.{cases, as_name, as_hash, float_of, resource_of}

-- a name of a kind, 3 to 10
abbrev of_kind : ℕ → NameRef → Payload
of_kind k r =
    get_or (None ∷ None ∷ None ∷ Context r ∷ Entity r ∷ Temp r ∷ Member r ∷ ArrayVariable r ∷ Geometry r ∷ Material r ∷ Texture r ∷ []) k None

-- a reading is d where it is so in each variant that the payload may be
read_as : {X : Type 0} (p : Payload) {d : X} {f h m : ℕ → X} {s : ℕ → NameRef → X} {q : ℕ → ℕ → X}
    → ((b : ℕ) → p ≡ Float b → d ≡ f b) → ((v : ℕ) → p ≡ Hash v → d ≡ h v) → ((v : ℕ) → p ≡ HostMath v → d ≡ m v)
    → ((j : ℕ) (r : NameRef) → p ≡ of_kind j r → d ≡ s j r) → ((x y : ℕ) → d ≡ q x y) → d ≡ cases p d f h m s q
unfolding cases
read_as None F H M S Q = refl
read_as (Float b) F H M S Q = F b refl
read_as (Hash v) F H M S Q = H v refl
read_as (Context n) F H M S Q = S 3 n refl
read_as (Entity n) F H M S Q = S 4 n refl
read_as (Temp n) F H M S Q = S 5 n refl
read_as (Member n) F H M S Q = S 6 n refl
read_as (ArrayVariable n) F H M S Q = S 7 n refl
read_as (Geometry n) F H M S Q = S 8 n refl
read_as (Material n) F H M S Q = S 9 n refl
read_as (Texture n) F H M S Q = S 10 n refl
read_as (Query v) F H M S Q = Q v.index v.impl_idx
read_as (HostMath v) F H M S Q = M v refl

module _ {X : Type 0} where
  -- what is done with a name of kind j where k is asked for
  other : (j k : ℕ) (x d : X) → (j ≡ k → ⊥) → d ≡ cond (eqb j k) x d
  other j k x d h = rw (ne_eqb j k h) refl

  not_name_at : (k : ℕ) (p : Payload) (d : X) (f : NameRef → X) → ((x : NameRef) → p ≡ of_kind k x → ⊥) → d ≡ as_name k p d f
  unfolding as_name
  not_name_at k p d f h = read_as p (λ b e. refl) (λ v e. refl) (λ v e. refl) (λ j r e. other j k (f r) d (λ i. h r (e ∙ ap (λ x. of_kind x r) i))) (λ x y. refl)

  not_name : (k : ℕ) {p v : Payload} (d : X) (f : NameRef → X) → p ≡ v → ((x : NameRef) → p ≡ of_kind k x → ⊥) → d ≡ as_name k v d f
  not_name k {p} d f e h = not_name_at k p d f h ∙ ap (λ (x : Payload). as_name k x d f) e

  pub is_context : {p v : Payload} (n : NameRef) (d : X) (f : NameRef → X) → p ≡ v → p ≡ Context n → f n ≡ as_name 3 v d f
  unfolding as_name cases
  is_context n d f e g = ap (λ (x : Payload). as_name 3 x d f) (sym g ∙ e)

  pub is_entity : {p v : Payload} (n : NameRef) (d : X) (f : NameRef → X) → p ≡ v → p ≡ Entity n → f n ≡ as_name 4 v d f
  unfolding as_name cases
  is_entity n d f e g = ap (λ (x : Payload). as_name 4 x d f) (sym g ∙ e)

  pub is_temp : {p v : Payload} (n : NameRef) (d : X) (f : NameRef → X) → p ≡ v → p ≡ Temp n → f n ≡ as_name 5 v d f
  unfolding as_name cases
  is_temp n d f e g = ap (λ (x : Payload). as_name 5 x d f) (sym g ∙ e)

  pub is_member_lem : {p v : Payload} (n : NameRef) (d : X) (f : NameRef → X) → p ≡ v → p ≡ Member n → f n ≡ as_name 6 v d f
  unfolding as_name cases
  is_member_lem n d f e g = ap (λ (x : Payload). as_name 6 x d f) (sym g ∙ e)

  pub is_hash : {p v : Payload} (n : ℕ) (d : X) (f : ℕ → X) → p ≡ v → p ≡ Hash n → f n ≡ as_hash v d f
  unfolding as_hash cases
  is_hash n d f e g = ap (λ (x : Payload). as_hash x d f) (sym g ∙ e)

  not_context_at : (p : Payload) (d : X) (f : NameRef → X) → ((x : NameRef) → p ≡ Context x → ⊥) → d ≡ as_name 3 p d f
  not_context_at = not_name_at 3

  pub not_context : {p v : Payload} (d : X) (f : NameRef → X) → p ≡ v → ((x : NameRef) → p ≡ Context x → ⊥) → d ≡ as_name 3 v d f
  not_context = not_name 3

  not_entity_at : (p : Payload) (d : X) (f : NameRef → X) → ((x : NameRef) → p ≡ Entity x → ⊥) → d ≡ as_name 4 p d f
  not_entity_at = not_name_at 4

  pub not_entity : {p v : Payload} (d : X) (f : NameRef → X) → p ≡ v → ((x : NameRef) → p ≡ Entity x → ⊥) → d ≡ as_name 4 v d f
  not_entity = not_name 4

  not_temp_at : (p : Payload) (d : X) (f : NameRef → X) → ((x : NameRef) → p ≡ Temp x → ⊥) → d ≡ as_name 5 p d f
  not_temp_at = not_name_at 5

  pub not_temp : {p v : Payload} (d : X) (f : NameRef → X) → p ≡ v → ((x : NameRef) → p ≡ Temp x → ⊥) → d ≡ as_name 5 v d f
  not_temp = not_name 5

  -- the tags of all variants but a member
  not_member_at : (p : Payload) (d : X) (f : NameRef → X) → OneOf (0 ∷ 1 ∷ 2 ∷ 3 ∷ 4 ∷ 5 ∷ 7 ∷ 8 ∷ 9 ∷ 10 ∷ 11 ∷ 12 ∷ []) (tag_of the_type p) → d ≡ as_name 6 p d f
  not_member_at p d f k =
      not_name_at 6 p d f λ x e. miss (0 ∷ 1 ∷ 2 ∷ 3 ∷ 4 ∷ 5 ∷ 7 ∷ 8 ∷ 9 ∷ 10 ∷ 11 ∷ 12 ∷ []) 6 tt
      (subst (λ (y : Payload). OneOf (0 ∷ 1 ∷ 2 ∷ 3 ∷ 4 ∷ 5 ∷ 7 ∷ 8 ∷ 9 ∷ 10 ∷ 11 ∷ 12 ∷ []) (tag_of the_type y)) e k)

  pub not_member : {p v : Payload} (d : X) (f : NameRef → X) → p ≡ v → OneOf (0 ∷ 1 ∷ 2 ∷ 3 ∷ 4 ∷ 5 ∷ 7 ∷ 8 ∷ 9 ∷ 10 ∷ 11 ∷ 12 ∷ []) (tag_of the_type p) → d ≡ as_name 6 v d f
  not_member {p} d f e k = not_member_at p d f k ∙ ap (λ (x : Payload). as_name 6 x d f) e

  pub not_hash_at : (p : Payload) (d : X) (f : ℕ → X) → ((x : ℕ) → p ≡ Hash x → ⊥) → d ≡ as_hash p d f
  unfolding as_hash
  not_hash_at p d f h = read_as p (λ b e. refl) (λ v e. absurd (h v e)) (λ v e. refl) (λ j r e. refl) (λ x y. refl)

  pub not_hash : {p v : Payload} (d : X) (f : ℕ → X) → p ≡ v → ((x : ℕ) → p ≡ Hash x → ⊥) → d ≡ as_hash v d f
  not_hash {p} d f e k = not_hash_at p d f k ∙ ap (λ (x : Payload). as_hash x d f) e

pub not_float : (p : Payload) → ((x : ℕ) → p ≡ Float x → ⊥) → 0 ≡ float_of p
unfolding float_of
not_float p h = read_as p (λ b e. absurd (h b e)) (λ v e. refl) (λ v e. refl) (λ j r e. refl) (λ x y. refl)

pub not_resource : (p : Payload) → ((x : NameRef) → p ≡ Geometry x → ⊥) → ((x : NameRef) → p ≡ Material x → ⊥) → ((x : NameRef) → p ≡ Texture x → ⊥) → 0 ≡ resource_of p
unfolding resource_of
not_resource p g m t = not_name_at 10 p _ _ t ∙ not_name_at 9 p _ _ m ∙ not_name_at 8 p _ _ g
