-- The trees that images stand for. Definitions only.
use Rattle.std.specs.Prelude.{ℕ, List}
use Rattle.numeric.specs.Post.{Post}

-- 01, The tree image: "a name: hash (8), text length (1), text"
pub record Name : Type 0 where
  pub hash : ℕ
  pub text : List ℕ

-- 01, The tree image: "0 None, 1 Float (4 bytes), 2 Hash (8), 3 Context, 4 Entity, 5 Temp, 6 Member, 7 ArrayVariable, 8 Geometry,
-- 9 Material, 10 Texture, 11 Query (index 2, impl_idx 1), 12 HostMath (2)"; a name has its kind, 3 to 10
pub data Payload : Type 0 where
  p_none : Payload
  p_float p_hash p_math : ℕ → Payload
  p_name : ℕ → Name → Payload
  p_query : ℕ → ℕ → Payload

-- 01, The tree image: a node is its operator code, post, payload and children
mutual
  pub data Tree : Type 0 where
    node : ℕ → Post → Payload → Forest → Tree

  pub data Forest : Type 0 where
    nil : Forest
    cons : Tree → Forest → Forest
