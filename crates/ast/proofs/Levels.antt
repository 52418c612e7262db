-- The limit of question 4 on worked trees, L1 to L10, computed as one table. Assumes nothing.
use Prim.Native.Nat.{ℕ, zero, suc}
use mathlib.Core.Path.{◌≡◌, refl}
use mathlib.Core.List.{List, [], ◌∷◌, map}
use Rattle.numeric.specs.Post.{identity}
use Rattle.answers.specs.Refusals as Refusal
use Rattle.ast.specs.NameKinds as Kind
use Rattle.ast.specs.Operators as Operator
use Rattle.ast.specs.Tree.{Payload, p_none, p_name, Tree, node, Forest, nil, cons}
use Rattle.ast.specs.Questions.{questions}
use Rattle.ast.specs.Encode.{image}
use Rattle.ast.proofs.Pieces.{reading}

-- a node of the code op over one child
over : ℕ → Payload → Tree → Tree
over op v t = node op identity v (cons t nil)

leaf : ℕ → Tree
leaf op = node op identity p_none nil

times : ℕ → (Tree → Tree) → Tree → Tree
times zero f t = t
times (suc n) f t = f (times n f t)

-- a code that is none
unknown : ℕ
unknown = 52

this : Tree
this = leaf Operator.THIS

-- so many negations of t
negated : ℕ → Tree → Tree
negated n t = times n (over Operator.NEGATE p_none) t

copies : ℕ → Tree → Forest
copies zero t = nil
copies (suc n) t = cons t (copies n t)

-- the temp t and the member x
t : Payload
t = p_name Kind.TEMP (record { hash = 0xaf63_bd4c_8601_b7ab; text = 116 ∷ [] })

x : Payload
x = p_name Kind.MEMBER (record { hash = 0xaf63_bd4c_8601_b7a7; text = 120 ∷ [] })

-- a tree and the number of its first question that is answered by no
record Row : Type 0 where
  tree : Tree
  answer : ℕ

row : Tree → ℕ → Row
row t n = record { tree = t; answer = n }

rows : List Row
rows =
    -- L1 to L3. 02, C-12: "level 31 passes, level 32 gives 4, in place of .. 64"
    row (negated 30 this) Refusal.ACCEPTED
    ∷ row (negated 31 this) Refusal.TOO_DEEP
    ∷ row (negated 63 this) Refusal.TOO_DEEP
    -- L4 to L6: a child that no rule lowers counts too, and so does an assignment's target
    ∷ row (over Operator.THIS p_none (negated 29 this)) Refusal.ACCEPTED
    ∷ row (over Operator.THIS p_none (negated 30 this)) Refusal.TOO_DEEP
    ∷ row (node Operator.ASSIGNMENT identity p_none (cons (over Operator.TEMP_VARIABLE t (negated 29 this)) (cons this nil))) Refusal.TOO_DEEP
    -- L7, L8: many nodes on one level; a member path of 30 accessors
    ∷ row (node Operator.ADD identity p_none (copies 40 this)) Refusal.ACCEPTED
    ∷ row (times 30 (over Operator.MEMBER_ACCESSOR x) this) Refusal.ACCEPTED
    -- L9, L10: question 3 comes first, below the limit and at it
    ∷ row (negated 39 (leaf unknown)) Refusal.DAMAGED
    ∷ row (negated 30 (leaf unknown)) Refusal.DAMAGED
    ∷ []

worked_levels : map (λ (r : Row). questions (image 0 0 r.tree)) rows ≡ map (λ (r : Row). r.answer) rows
unfolding reading over leaf times unknown this negated copies t x row rows
worked_levels = refl
