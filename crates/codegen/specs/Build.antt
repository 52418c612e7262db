-- What `build` promises. Definitions only: the questions, images and runs that it names stand in crate semantics.
use Rattle.std.specs.Prelude.{◌≡◌, Bool, List, ℕ, ◌+◌, ◌*◌, length, take, replicate, Result, Ok, Err}
use Rattle.answers.specs.declared.refusals.Refusal.{Refusal}
use Rattle.answers.specs.Refusals.{ACCEPTED, number_of}
use Rattle.workspace.specs.Layout.{WORDS}
use Rattle.semantics.specs.Answer as S
use Rattle.semantics.specs.Link.{refusal_of, program_image}
use Rattle.semantics.specs.Demand3.{Agrees}

-- 01, The form each place takes: "For an answer that is an enum, a definition gives this paper's number and values for each case of the enum."
abbrev pub shown : Result ℕ Refusal → S.Answer
shown (Ok n) = record { number = ACCEPTED; length = n }
shown (Err why) = record { number = number_of why; length = 0 }

-- the answer as one number: the refusal's number * 2^32 + the length
abbrev pub packed : S.Answer → ℕ
packed a = a.number * 4294967296 + a.length

-- a call that gave the answer a: the tree image, the workspace and the output before it, the two lent for writing behind it
pub record Built (tree words out words' out' : List ℕ) (a : S.Answer) : Type 0 where
  -- 1. number and length are those of the nine questions, by the tree's bytes and the two lengths
  pub answered : a ≡ S.answer tree (length words) (length out)
  -- 2. the output is the program image and what stood beyond it, or as it was
  pub output : out' ≡ S.output_after tree (length words) out
  -- 3. the workspace's first 16,384 words are zero and the others as they were; all of them as they were where it is too short
  pub workspace : words' ≡ S.workspace_after words
  -- 4. where it accepts, the step machine over the bytes now in the output does what the walk over the tree does, for every list of outcomes
  pub agrees : a.number ≡ 0 → (outcomes : List Bool) → Agrees tree (take a.length out') outcomes

-- the same where the answer is one number
pub record Packed (tree words out words' out' : List ℕ) (r : ℕ) : Type 0 where
  pub answer : S.Answer
  pub number : r ≡ packed answer
  pub call : Built tree words out words' out' answer

-- a cleared workspace
unfoldable pub zeros : List ℕ
zeros = replicate WORDS 0

-- questions 2 to 9: the answer, and what is in the output
pub record Asked (tree out out' : List ℕ) (a : S.Answer) : Type 0 where
  pub answered : a ≡ S.answer_from (refusal_of tree) (length (program_image tree)) (length out)
  pub output : out' ≡ S.written a.number (program_image tree) out
