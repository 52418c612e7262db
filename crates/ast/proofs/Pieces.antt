-- Pieces of images, computed. Assumes nothing.
use Prim.Native.Nat.{ℕ}
use mathlib.Core.Path.{◌≡◌, refl}
use mathlib.Core.List.{List, [], ◌∷◌}
use Rattle.wire.specs.Bytes.{be16, be32, be64, be}
use Rattle.numeric.specs.Post.{identity}
use Rattle.ast.specs.Rules.{known}
use Rattle.ast.specs.Tree.{p_none, p_float, Tree, node, nil, cons}
use Rattle.ast.specs.Node.{name_at, payload_at, size_of, trees, tree_at, parse}
use Rattle.ast.specs.Questions.{fits, row, filled, rooted, whole, formed, shallow, questions}
use Rattle.ast.specs.Encode.{image}

-- opens every definition that reading uses
unfoldable pub reading : Unit {0}
unfolding be16 be32 be64 be known name_at payload_at size_of fits row filled rooted whole formed shallow questions trees tree_at parse
reading = tt

float : ℕ → Tree
float bits = node 7 identity (p_float bits) nil

mul : Tree
mul = node 40 identity p_none (cons (float 0x4000_0000) (cons (float 0x4040_0000) nil))

-- 01, Bench pieces: "M1 is Mul of Float 2 and Float 3, 63 bytes in"; Mul is code 40, Float 7
m1 : List ℕ
m1 =
    1 ∷ 0 ∷ 0 ∷ 0 ∷ 58 ∷ 0 ∷ 0
    ∷ 0 ∷ 0 ∷ 0 ∷ 52 ∷ 40 ∷ 63 ∷ 128 ∷ 0 ∷ 0 ∷ 0 ∷ 0 ∷ 0 ∷ 0 ∷ 0 ∷ 0 ∷ 2
    ∷ 0 ∷ 0 ∷ 0 ∷ 16 ∷ 7 ∷ 63 ∷ 128 ∷ 0 ∷ 0 ∷ 0 ∷ 0 ∷ 0 ∷ 0 ∷ 1 ∷ 64 ∷ 0 ∷ 0 ∷ 0 ∷ 0 ∷ 0
    ∷ 0 ∷ 0 ∷ 0 ∷ 16 ∷ 7 ∷ 63 ∷ 128 ∷ 0 ∷ 0 ∷ 0 ∷ 0 ∷ 0 ∷ 0 ∷ 1 ∷ 64 ∷ 64 ∷ 0 ∷ 0 ∷ 0 ∷ 0 ∷ []

m1_written : m1 ≡ image 0 0 mul
unfolding reading m1 mul float
m1_written = refl

m1_accepted : questions m1 ≡ 0
unfolding reading m1
m1_accepted = refl

m1_parsed : parse m1 ≡ mul
unfolding reading m1 mul float
m1_parsed = refl

-- a byte too many, counted in the length
left_over : questions (1 ∷ 0 ∷ 0 ∷ 0 ∷ 19 ∷ 0 ∷ 0 ∷ 0 ∷ 0 ∷ 0 ∷ 12 ∷ 1 ∷ 0 ∷ 0 ∷ 0 ∷ 0 ∷ 0 ∷ 0 ∷ 0 ∷ 0 ∷ 0 ∷ 0 ∷ 0 ∷ 0 ∷ []) ≡ 3
unfolding reading
left_over = refl

-- a payload that runs past the end
cut_payload : questions (1 ∷ 0 ∷ 0 ∷ 0 ∷ 18 ∷ 0 ∷ 0 ∷ 0 ∷ 0 ∷ 0 ∷ 12 ∷ 1 ∷ 0 ∷ 0 ∷ 0 ∷ 0 ∷ 0 ∷ 0 ∷ 0 ∷ 0 ∷ 1 ∷ 0 ∷ 0 ∷ []) ≡ 3
unfolding reading
cut_payload = refl

-- no room for both settings
no_settings : questions (1 ∷ 0 ∷ 0 ∷ 0 ∷ 0 ∷ []) ≡ 3
unfolding reading
no_settings = refl

one_setting : questions (1 ∷ 0 ∷ 0 ∷ 0 ∷ 1 ∷ 0 ∷ []) ≡ 3
unfolding reading
one_setting = refl

-- four bytes, and a length that is not true
too_short : questions (1 ∷ 0 ∷ 0 ∷ 0 ∷ []) ≡ 2
unfolding reading
too_short = refl

untrue_length : questions (1 ∷ 0 ∷ 0 ∷ 0 ∷ 1 ∷ []) ≡ 2
unfolding reading
untrue_length = refl
