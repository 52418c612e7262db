-- The fields of the node that begins at a place of an image, and the tree there. Definitions only.
-- Every field can be read at every place: past the end all bytes are 0, and no place lies past the end.
use Rattle.std.specs.Prelude.{ℕ, zero, suc, ◌+◌, List, [], ◌∷◌, get_or, take, drop}
use Rattle.wire.specs.Bytes.{be8, be16, be32, be64, reach}
use Rattle.ast.specs.Header.{ROOT, LEVELS}
use Rattle.ast.specs.Tree.{Name, Payload, p_none, p_float, p_hash, p_math, p_name, p_query, Tree, node, Forest, nil, cons}

-- 01, The tree image: "A node: 4-byte length of its rest"
abbrev pub len_at : List ℕ → ℕ → ℕ
len_at s p = be32 s p 0

-- 01, The tree image: "operator code (1 byte)"
abbrev pub op_at : List ℕ → ℕ → ℕ
op_at s p = be8 s p 4

-- 01, The tree image: "scale and offset as `f32` bits (4 each)"
abbrev pub scale_at : List ℕ → ℕ → ℕ
scale_at s p = be32 s p 5

abbrev pub offset_at : List ℕ → ℕ → ℕ
offset_at s p = be32 s p 9

-- 01, The tree image: "payload kind (1)"
abbrev pub kind_at : List ℕ → ℕ → ℕ
kind_at s p = be8 s p 13

-- 01, The tree image: "Kinds 3 to 10 are a name: hash (8), text length (1), text"
unfoldable pub name_at : List ℕ → ℕ → Name
name_at s p = record { hash = be64 s p 14; text = take (be8 s p 22) (drop (p + 23) s) }

-- what the payload is under each kind
abbrev pub payloads : List ℕ → ℕ → List Payload
payloads s p =
    p_none ∷ p_float (be32 s p 14) ∷ p_hash (be64 s p 14)
    ∷ p_name 3 (name_at s p) ∷ p_name 4 (name_at s p) ∷ p_name 5 (name_at s p) ∷ p_name 6 (name_at s p)
    ∷ p_name 7 (name_at s p) ∷ p_name 8 (name_at s p) ∷ p_name 9 (name_at s p) ∷ p_name 10 (name_at s p)
    ∷ p_query (be16 s p 14) (be8 s p 16) ∷ p_math (be16 s p 14) ∷ []

-- 01, The tree image: "Payload kinds"; an unknown kind reads as None
unfoldable pub payload_at : List ℕ → ℕ → Payload
payload_at s p = get_or (payloads s p) (kind_at s p) p_none

-- the bytes of a payload under each kind, where t is the length of its text if it is a name
abbrev pub payload_sizes : ℕ → List ℕ
payload_sizes t = 0 ∷ 4 ∷ 8 ∷ (9 + t) ∷ (9 + t) ∷ (9 + t) ∷ (9 + t) ∷ (9 + t) ∷ (9 + t) ∷ (9 + t) ∷ (9 + t) ∷ 3 ∷ 2 ∷ []

unfoldable pub size_of : ℕ → ℕ → ℕ
size_of kind t = get_or (payload_sizes t) kind 0

-- the bytes that the node's payload takes
abbrev pub size_at : List ℕ → ℕ → ℕ
size_at s p = size_of (kind_at s p) (be8 s p 22)

-- 01, The tree image: "child count (2); children": how many, where the first begins, and what follows the node
abbrev pub count_at : List ℕ → ℕ → ℕ
count_at s p = be16 s p (14 + size_at s p)

abbrev pub first_at : List ℕ → ℕ → ℕ
first_at s p = reach s p (16 + size_at s p)

abbrev pub next_at : List ℕ → ℕ → ℕ
next_at s p = reach s p (4 + len_at s p)

-- n trees one behind the other, the first at p
unfoldable pub trees : (ℕ → Tree) → List ℕ → ℕ → ℕ → Forest
trees tree s zero p = nil
trees tree s (suc n) p = cons (tree p) (trees tree s n (next_at s p))

-- the tree of the node at p, to so many levels
unfoldable pub tree_at : ℕ → List ℕ → ℕ → Tree
tree_at zero s p = node 0 (record { scale = 0; offset = 0 }) p_none nil
tree_at (suc levels) s p =
    node (op_at s p) (record { scale = scale_at s p; offset = offset_at s p }) (payload_at s p)
    (trees (tree_at levels s) s (count_at s p) (first_at s p))

-- 01, The tree image: "Then the root node", to the levels of an accepted image
unfoldable pub parse : List ℕ → Tree
parse s = tree_at LEVELS s ROOT
