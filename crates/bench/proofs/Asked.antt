-- What `build` promises, of a workspace and an output whose lengths are known. Assumes nothing.
use Rattle.std.proofs.Common.{◌≡◌, ℕ, zero, suc, ◌≤◌, List, length, refl, sym, ap, ◌∙◌, inl, inr, arith}
use Rattle.std.proofs.lemmas.Bool.Decides.{leb_tells}
use Rattle.wire.specs.Bytes.{Bytes}
use Rattle.workspace.specs.Layout.{WORDS}
use Rattle.ast.specs.Node.{parse}
use Rattle.ast.specs.Header.{settings}
use Rattle.program.proofs.Length.{image_length}
use Rattle.semantics.specs.Answer as S
use Rattle.semantics.specs.Link.{program, program_image, refusal_of}
use Rattle.semantics.specs.Room.{IMAGE_ROOM}
use Rattle.semantics.proofs.Room.{enough}
use Rattle.codegen.specs.Build.{Built}
use Rattle.bench.specs.Answers.{answer_in, output_after}

pub answered : (tree words out words' out' : List ℕ) (a : S.Answer) → Built tree words out words' out' a → WORDS ≡ length words
    → (a ≡ answer_in tree (length out)) × (out' ≡ output_after tree out)
answered tree words out words' out' a b w =
    (b.answered ∙ ap (λ (n : ℕ). S.answer tree n (length out)) (sym w), b.output ∙ ap (λ (n : ℕ). S.output_after tree n out) (sym w))

-- an image's length is within the output, and a refusal's is 0
from_within : (r n room : ℕ) → (S.answer_from r n room).length ≤ room
unfolding S.answer_from
from_within zero n room = elim (leb_tells n room) [ inl h ↦ rw h.0 h.1 | inr h ↦ rw h.0 (omega arith) ]
from_within (suc r) n room = omega arith

pub within : (tree : List ℕ) (room : ℕ) → (answer_in tree room).length ≤ room
unfolding S.answer
within tree room = from_within (refusal_of tree) (length (program_image tree)) room

-- an accepted answer's length is the image's
from_accepted : (r n room : ℕ) → (S.answer_from r n room).number ≡ 0 → (S.answer_from r n room).length ≡ n
unfolding S.answer_from
from_accepted zero n room = elim (leb_tells n room) [ inl h ↦ rw h.0 (λ z. refl) | inr h ↦ rw h.0 (λ z. absurd (omega arith)) ]
from_accepted (suc r) n room = λ z. absurd (omega arith)

pub closed : (tree : List ℕ) (room : ℕ) → (answer_in tree room).number ≡ 0 → 9 ≤ (answer_in tree room).length
unfolding S.answer program_image
closed tree room z =
    let l = from_accepted (refusal_of tree) (length (program_image tree)) room z in
    let i = image_length (program (settings tree) (parse tree)) in
    omega arith

-- an answer's number is that of questions 2 to 8: the workspace has words enough, and the output room for every image
pub numbered : (tree : List ℕ) → Bytes tree → (room : ℕ) → IMAGE_ROOM ≤ room → (answer_in tree room).number ≡ refusal_of tree
numbered tree small room r = enough tree small WORDS room (omega arith) r
