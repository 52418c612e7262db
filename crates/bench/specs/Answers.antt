-- What the programs answer with the workspace that they lend. Definitions only.
use Rattle.std.specs.Prelude.{List, ℕ}
use Rattle.workspace.specs.Layout.{WORDS}
use Rattle.semantics.specs.Answer as S

-- the answer to a tree image, with so much output
abbrev pub answer_in : List ℕ → ℕ → S.Answer
answer_in tree room = S.answer tree WORDS room

-- what the output holds after it
abbrev pub output_after : List ℕ → List ℕ → List ℕ
output_after tree out = S.output_after tree WORDS out
