-- Relations between a lowering and a walk, and what is said of one alone: through the readings of a payload and of the children. Assumes nothing.
use mathlib.Core.Path.{◌≡◌, refl, ap}
use mathlib.Core.Bool.{Bool, true, false, cond}
use mathlib.Core.List.{List, [], ◌∷◌}
use Prim.Native.Nat.{ℕ, suc}
use lib.ListN.{length}
use native.Mathlib.Decide.{ℕ_discrete}
use Rattle.ast.specs.Tree.{Name, Payload, p_hash, p_math, p_name, p_query}
use Rattle.semantics.specs.Payloads.{cases, as_name, as_hash, as_math, as_query}

module _ {X Y : Type 0} (R : X → Y → Type 0) where
  pub either_rel : (c : Bool) {a b : X} {x y : Y} → R a x → R b y → R (cond c a b) (cond c x y)
  either_rel true h i = h
  either_rel false h i = i

  pub name_rel : (k : ℕ) (v : Payload) {d : X} {f : Name → X} {x : Y} {g : Name → Y} → R d x → ((n : Name) → R (f n) (g n)) → R (as_name k v d f) (as_name k v x g)
  unfolding as_name cases
  name_rel k (p_name j n) {d} {f} {x} {g} h i = go (ℕ_discrete j k)
    where
      go : (c : Dec (j ≡ k)) → R (elim c [ yes p ↦ f n | no p ↦ d ]) (elim c [ yes p ↦ g n | no p ↦ x ])
      go (yes p) = i n
      go (no p) = h
  name_rel k _ h i = h

  -- by the kind of a variable's name
  pub kind_rel : (v : Payload) {d : X} {f g : Name → X} {x : Y} {a b : Name → Y} → R d x → ((n : Name) → R (f n) (a n)) → ((n : Name) → R (g n) (b n)) → R (as_name 4 v (as_name 5 v d f) g) (as_name 4 v (as_name 5 v x a) b)
  kind_rel v o t e = name_rel 4 v (name_rel 5 v o t) e

  pub hash_rel : (v : Payload) {d : X} {f : ℕ → X} {x : Y} {g : ℕ → Y} → R d x → ((n : ℕ) → R (f n) (g n)) → R (as_hash v d f) (as_hash v x g)
  unfolding as_hash cases
  hash_rel (p_hash v) h i = i v
  hash_rel _ h i = h

  pub math_rel : (v : Payload) {d : X} {f : ℕ → X} {x : Y} {g : ℕ → Y} → R d x → ((n : ℕ) → R (f n) (g n)) → R (as_math v d f) (as_math v x g)
  unfolding as_math cases
  math_rel (p_math v) h i = i v
  math_rel _ h i = h

  pub query_rel : (v : Payload) {d : X} {f : ℕ → ℕ → X} {x : Y} {g : ℕ → ℕ → Y} → R d x → ((j m : ℕ) → R (f j m) (g j m)) → R (as_query v d f) (as_query v x g)
  unfolding as_query cases
  query_rel (p_query j m) h i = i j m
  query_rel _ h i = h

-- one reading alone, with what it read
module _ {X : Type 0} (R : X → Type 0) where
  pub either_one : (c : Bool) {a b : X} → R a → R b → R (cond c a b)
  either_one true h i = h
  either_one false h i = i

  pub name_one : (k : ℕ) (v : Payload) {d : X} {f : Name → X} → R d → ((j : ℕ) (n : Name) → v ≡ p_name j n → R (f n)) → R (as_name k v d f)
  unfolding as_name cases
  name_one k (p_name j n) {d} {f} h i = go (ℕ_discrete j k)
    where
      go : (c : Dec (j ≡ k)) → R (elim c [ yes p ↦ f n | no p ↦ d ])
      go (yes p) = i j n refl
      go (no p) = h
  name_one k _ h i = h

  pub hash_one : (v : Payload) {d : X} {f : ℕ → X} → R d → ((n : ℕ) → v ≡ p_hash n → R (f n)) → R (as_hash v d f)
  unfolding as_hash cases
  hash_one (p_hash v) h i = i v refl
  hash_one _ h i = h

  pub math_one : (v : Payload) {d : X} {f : ℕ → X} → R d → ((n : ℕ) → v ≡ p_math n → R (f n)) → R (as_math v d f)
  unfolding as_math cases
  math_one (p_math v) h i = i v refl
  math_one _ h i = h

  pub query_one : (v : Payload) {d : X} {f : ℕ → ℕ → X} → R d → ((j m : ℕ) → v ≡ p_query j m → R (f j m)) → R (as_query v d f)
  unfolding as_query cases
  query_one (p_query j m) h i = i j m refl
  query_one _ h i = h

-- two lists of one length, related entry by entry
pub data Zip {A B : Type 0} (Q : A → B → Type 0) : List A → List B → Type 0 where
  znil : Zip Q [] []
  zcons : {a : A} {b : B} {ps : List A} {qs : List B} → Q a b → Zip Q ps qs → Zip Q (a ∷ ps) (b ∷ qs)

pub zip_length : {A B : Type 0} {Q : A → B → Type 0} {xs : List A} {ys : List B} → Zip Q xs ys → length xs ≡ length ys
zip_length znil = refl
zip_length (zcons a h) = ap suc (zip_length h)
