-- The nine questions, the answer of a call, and what output and workspace hold afterwards. Definitions only.
use Rattle.std.specs.Prelude.{cond, List, ◌++◌, ℕ, zero, suc, leb, length, drop, replicate}
use Rattle.answers.specs.Refusals as Refusal
use Rattle.workspace.specs.Layout.{WORDS}
use Rattle.semantics.specs.Link.{refusal_of, program_image}

-- 01, Nine questions: "A refusal returns its number and length 0. Acceptance returns 0 and the length"
pub record Answer : Type 0 where
  pub number : ℕ
  pub length : ℕ

-- 01, Nine questions, 9: "Is the output at least as long as the program image? No: 9."
unfoldable pub answer_from : ℕ → ℕ → ℕ → Answer
answer_from zero n room = cond (leb n room) (record { number = Refusal.ACCEPTED; length = n }) (record { number = Refusal.SMALL_OUTPUT; length = 0 })
answer_from (suc r) n room = record { number = suc r; length = 0 }

-- 01, Nine questions, 1: "Has the workspace 16,384 words or more? No: 1."; by the tree image, the workspace's length and the output's
unfoldable pub answer : List ℕ → ℕ → ℕ → Answer
answer s words room =
    cond (leb WORDS words)
    (answer_from (refusal_of s) (length (program_image s)) room)
    (record { number = Refusal.SMALL_WORKSPACE; length = 0 })

-- 01, Nine questions: "output beyond it is unchanged"; a refusal changes no byte
unfoldable pub written : ℕ → List ℕ → List ℕ → List ℕ
written zero card out = card ++ drop (length card) out
written (suc r) card out = out

unfoldable pub output_after : List ℕ → ℕ → List ℕ → List ℕ
output_after s words out = written (answer s words (length out)).number (program_image s) out

-- 01, Nine questions: "The workspace's first 16,384 words are zero afterwards, and later words unchanged; after 1 all are unchanged."
unfoldable pub workspace_after : List ℕ → List ℕ
workspace_after words = cond (leb WORDS (length words)) (replicate WORDS 0 ++ drop WORDS words) words
