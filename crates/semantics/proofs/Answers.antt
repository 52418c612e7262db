-- The nine questions in their order, and what output and workspace hold afterwards, computed on small cases as tables. Assumes nothing.
use mathlib.Core.Path.{◌≡◌, refl}
use mathlib.Core.List.{List, [], ◌∷◌, ◌++◌, map}
use Prim.Native.Nat.{ℕ}
use lib.ListN.{length, replicate}
use Rattle.semantics.proofs.Opens.{computing}
use Rattle.semantics.specs.Link.{program_image}
use Rattle.semantics.specs.Answer.{answer, output_after, workspace_after}
use Rattle.semantics.specs.BenchPieces.{M1, M2, M10}

-- a tree image, the workspace's length, the output's length, and the answer
record Case : Type 0 where
  tree : List ℕ
  words : ℕ
  room : ℕ
  number : ℕ
  length : ℕ

abbrev case : List ℕ → ℕ → ℕ → ℕ → ℕ → Case
case tree words room number length = record { tree = tree; words = words; room = room; number = number; length = length }

-- a root whose operator code is 0
abbrev unknown : List ℕ
unknown = 1 ∷ 0 ∷ 0 ∷ 0 ∷ 18 ∷ 0 ∷ 0 ∷ 0 ∷ 0 ∷ 0 ∷ 12 ∷ 0 ∷ replicate 11 0

-- M1's image has 98 bytes; the workspace is asked for before anything else, the room last
abbrev cases : List Case
cases =
    case M1.tree 16384 98 0 98 ∷ case M1.tree 20000 200 0 98 ∷ case M1.tree 16384 97 9 0 ∷ case M1.tree 16383 98 1 0
    ∷ case [] 16383 0 1 0 ∷ case [] 16384 0 2 0 ∷ case (1 ∷ 0 ∷ 0 ∷ 0 ∷ 0 ∷ []) 16384 0 3 0 ∷ case unknown 16384 0 3 0 ∷ case M10.tree 16384 0 7 0 ∷ []

answers : map (λ c. answer c.tree c.words c.room) cases ≡ map (λ c. record { number = c.number; length = c.length }) cases
unfolding computing
answers = refl

-- an accepted image stands in front of what stood beyond it; a refusal changes nothing
accepted_output : output_after M2.tree 16384 (replicate 74 7 ++ (8 ∷ 9 ∷ [])) ≡ program_image M2.tree ++ (8 ∷ 9 ∷ [])
unfolding computing
accepted_output = refl

refused_output : output_after M10.tree 16384 (7 ∷ 8 ∷ 9 ∷ []) ≡ 7 ∷ 8 ∷ 9 ∷ []
unfolding computing
refused_output = refl

-- too short a workspace is left as it was
short_workspace : workspace_after (7 ∷ 8 ∷ []) ≡ 7 ∷ 8 ∷ []
unfolding computing
short_workspace = refl
