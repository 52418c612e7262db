-- A tree whose own fields fit, and what the rules read in its payloads. Assumes nothing.
use mathlib.Core.Path.{subst}
use Prim.Native.Nat.{ℕ}
use native.Mathlib.Omega.{arith}
use Rattle.ast.specs.Tree.{Name, Payload, p_none, p_float, p_hash, p_math, p_name, p_query, Tree, node, Forest, nil, cons}
use Rattle.program.specs.Fits.{Below, FitPost}
use Rattle.semantics.proofs.Ranges.{FitText}
use Rattle.semantics.proofs.Relations.{name_one, hash_one, math_one, query_one}
use Rattle.semantics.specs.Payloads.{cases, as_name, as_hash, as_math, as_query, float_of, const_of, string_of, resource_of}

-- a tree's own fields fit
abbrev pub PayloadFits : Payload → Type 0
PayloadFits p_none = Unit {0}
PayloadFits (p_float v) = Below 4 v
PayloadFits (p_hash v) = Below 8 v
PayloadFits (p_math v) = Below 2 v
PayloadFits (p_query i m) = Below 2 i × Below 1 m
PayloadFits (p_name k n) = FitText n

unfoldable mutual
  pub TreeFits : Tree → Type 0
  TreeFits (node op p v ts) = FitPost p × PayloadFits v × ForestFits ts

  pub ForestFits : Forest → Type 0
  ForestFits nil = Unit {0}
  ForestFits (cons t ts) = TreeFits t × ForestFits ts

-- what is read in a payload fits
module _ {X : Type 0} (R : X → Type 0) where
  pub name_r : (k : ℕ) (v : Payload) → PayloadFits v → {d : X} {f : Name → X} → R d → ((n : Name) → FitText n → R (f n)) → R (as_name k v d f)
  name_r k v q h i = name_one R k v h (λ j n e. i n (subst PayloadFits e q))

  -- by the kind of a variable's name
  pub kind_r : (v : Payload) → PayloadFits v → {d : X} {f g : Name → X} → R d → ((n : Name) → FitText n → R (f n)) → ((n : Name) → FitText n → R (g n)) → R (as_name 4 v (as_name 5 v d f) g)
  kind_r v q o t e = name_r 4 v q (name_r 5 v q o t) e

  pub hash_r : (v : Payload) → PayloadFits v → {d : X} {f : ℕ → X} → R d → ((n : ℕ) → Below 8 n → R (f n)) → R (as_hash v d f)
  hash_r v q h i = hash_one R v h (λ n e. i n (subst PayloadFits e q))

  pub math_r : (v : Payload) → PayloadFits v → {d : X} {f : ℕ → X} → R d → ((n : ℕ) → Below 2 n → R (f n)) → R (as_math v d f)
  math_r v q h i = math_one R v h (λ n e. i n (subst PayloadFits e q))

  pub asked_r : (v : Payload) → PayloadFits v → {d : X} {f : ℕ → ℕ → X} → R d → ((j m : ℕ) → Below 2 j → Below 1 m → R (f j m)) → R (as_query v d f)
  asked_r v q h i = query_one R v h (λ j m e. let p = subst PayloadFits e q in i j m p.0 p.1)

pub float_fits : (v : Payload) → PayloadFits v → Below 4 (float_of v)
unfolding float_of cases
float_fits (p_float v) h = h
float_fits _ h = omega arith

pub const_fits : (v : Payload) → PayloadFits v → Below 4 (const_of v)
unfolding const_of
const_fits v h = hash_r (Below 4) v h (float_fits v h) (λ n q. omega arith)

pub string_fits : (v : Payload) → PayloadFits v → Below 8 (string_of v)
unfolding string_of
string_fits v h = hash_r (Below 8) v h (omega arith) (λ n q. q)

pub resource_fits : (v : Payload) → PayloadFits v → Below 8 (resource_of v)
unfolding resource_of
resource_fits v h = name_r (Below 8) 8 v h (name_r (Below 8) 9 v h (name_r (Below 8) 10 v h (omega arith) (λ n q. q.hash)) (λ n q. q.hash)) (λ n q. q.hash)
