-- The image of a tree (01's section a second time, from the tree to the bytes), its height, and what fits its fields. Definitions only.
use Rattle.std.specs.Prelude.{ℕ, suc, ◌+◌, ◌≤◌, ◌<◌, ◌^◌, max, ◌≡◌, true, List, [], ◌∷◌, ◌++◌, length}
use Rattle.wire.specs.Bytes.{be}
use Rattle.numeric.specs.Post.{Post}
use Rattle.ast.specs.Header.{VERSION}
use Rattle.ast.specs.Rules.{known}
use Rattle.ast.specs.Tree.{Payload, p_none, p_float, p_hash, p_math, p_name, p_query, Tree, node, Forest, nil, cons}

-- 01, The tree image: "payload kind (1); payload", in front of what follows
abbrev pub put_payload : Payload → List ℕ → List ℕ
put_payload p_none r = 0 ∷ r
put_payload (p_float v) r = 1 ∷ be 4 v r
put_payload (p_hash h) r = 2 ∷ be 8 h r
put_payload (p_name kind n) r = kind ∷ be 8 n.hash (length n.text ∷ (n.text ++ r))
put_payload (p_query index impl) r = 11 ∷ be 2 index (impl ∷ r)
put_payload (p_math f) r = 12 ∷ be 2 f r

-- the bytes of a payload, its kind not counted
abbrev pub payload_size : Payload → ℕ
payload_size p_none = 0
payload_size (p_float v) = 4
payload_size (p_hash h) = 8
payload_size (p_name kind n) = 9 + length n.text
payload_size (p_query index impl) = 3
payload_size (p_math f) = 2

abbrev mutual
  -- 01, The tree image: "length of its rest"
  pub size : Tree → ℕ
  size (node op post payload ts) = 12 + (payload_size payload + sizes ts)

  -- the bytes of all its children, with their lengths
  pub sizes : Forest → ℕ
  sizes nil = 0
  sizes (cons t ts) = (4 + size t) + sizes ts

abbrev pub count : Forest → ℕ
count nil = 0
count (cons t ts) = suc (count ts)

abbrev mutual
  -- 01, The tree image: "A node: 4-byte length of its rest; operator code (1 byte); scale and offset as `f32` bits (4 each);
  -- payload kind (1); payload; child count (2); children", in front of what follows
  pub put : Tree → List ℕ → List ℕ
  put (node op post payload ts) r =
      be 4 (12 + (payload_size payload + sizes ts))
      (op ∷ be 4 post.scale (be 4 post.offset (put_payload payload (be 2 (count ts) (puts ts r)))))

  pub puts : Forest → List ℕ → List ℕ
  puts nil r = r
  puts (cons t ts) r = put t (puts ts r)

-- 01, The tree image: "Byte 0 is 1. A 4-byte length of all that follows. Arrays byte. Divisor byte. Then the root node."
abbrev pub image : ℕ → ℕ → Tree → List ℕ
image arrays divisor t = VERSION ∷ be 4 (2 + (4 + size t)) (arrays ∷ divisor ∷ put t [])

abbrev mutual
  -- 01, Nine questions, 4: "(the root is level 1)": the lowest node's level
  pub height : Tree → ℕ
  height (node op post payload ts) = suc (heights ts)

  pub heights : Forest → ℕ
  heights nil = 0
  heights (cons t ts) = max (height t) (heights ts)

-- a payload's fields fit their bytes
abbrev pub FitPayload : Payload → Type 0
FitPayload p_none = Unit {0}
FitPayload (p_float v) = v < 2 ^ 32
FitPayload (p_hash h) = h < 2 ^ 64
FitPayload (p_name kind n) = (3 ≤ kind) × (kind ≤ 10) × (n.hash < 2 ^ 64) × (length n.text < 256)
FitPayload (p_query index impl) = (index < 2 ^ 16) × (impl < 256)
FitPayload (p_math f) = f < 2 ^ 16

-- a node's own fields fit their bytes, with n children and a rest of so many bytes
pub record FitHead (op : ℕ) (post : Post) (pay : Payload) (n rest : ℕ) : Type 0 where
  pub code : known op ≡ true
  pub scale : post.scale < 2 ^ 32
  pub offset : post.offset < 2 ^ 32
  pub payload : FitPayload pay
  pub children : n < 2 ^ 16
  pub all : rest < 2 ^ 32

abbrev mutual
  -- 01: "every tree that can be written down": every field of every node fits its bytes
  pub Fit : Tree → Type 0
  Fit (node op post payload ts) = FitHead op post payload (count ts) (12 + (payload_size payload + sizes ts)) × FitAll ts

  pub FitAll : Forest → Type 0
  FitAll nil = Unit {0}
  FitAll (cons t ts) = Fit t × FitAll ts
