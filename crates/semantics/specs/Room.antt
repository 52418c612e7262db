-- Room for every program image, so that question 9 is answered by yes. Definitions only.
use Rattle.std.specs.Prelude.{◌≡◌, List, ℕ, ◌≤◌, length}
use Rattle.wire.specs.Bytes.{Bytes}
use Rattle.workspace.specs.Layout.{WORDS}
use Rattle.ast.specs.Questions.{questions}
use Rattle.semantics.specs.Link.{refusal_of, program_image}
use Rattle.semantics.specs.Answer.{answer}

-- 96 KiB
abbrev pub IMAGE_ROOM : ℕ
IMAGE_ROOM = 98304

-- the image of every tree image that questions 2 to 4 let pass, refused later or not; `image_room` in proofs/Room.antt proves it
abbrev pub ImageRoom : Type 0
ImageRoom = (tree : List ℕ) → Bytes tree → questions tree ≡ 0 → length (program_image tree) ≤ IMAGE_ROOM

-- 01, Nine questions, 1 and 9: with so many words and so much room the answer's number is that of questions 2 to 8; `enough` in proofs/Room.antt proves it
abbrev pub Enough : Type 0
Enough = (tree : List ℕ) → Bytes tree → (words room : ℕ) → WORDS ≤ words → IMAGE_ROOM ≤ room → (answer tree words room).number ≡ refusal_of tree
