-- Every program image has room in 98,304 bytes; with them and 16,384 words, neither question 1 nor question 9 is answered by no. Assumes nothing.
use mathlib.Core.Path.{◌≡◌, refl}
use mathlib.Core.List.{List}
use Prim.Native.Nat.{ℕ, zero, suc, ◌≤◌}
use native.Mathlib.Omega.{arith}
use borrow.Author.Tests.{le-leb}
use lib.ListN.{length}
use Rattle.ast.specs.Node.{parse}
use Rattle.ast.specs.Questions.{questions}
use Rattle.ast.specs.Header.{settings}
use Rattle.semantics.specs.Link.{refusal_of, program_image}
use Rattle.semantics.specs.Answer.{answer_from, answer}
use Rattle.semantics.specs.Room.{ImageRoom, Enough}
use Rattle.semantics.proofs.AcceptedTrees.{parsed_fits, parsed_short}
use Rattle.semantics.proofs.Demand3.{first_none}
use Rattle.semantics.proofs.Fitting.{image_short}

pub image_room : ImageRoom
unfolding program_image
image_room tree small passed = let h = image_short (settings tree) (parse tree) (parsed_fits tree small passed) (parsed_short tree small passed) in omega arith

-- a refusal is answered as it is, and else the image has room
from : (r n room : ℕ) → (r ≡ 0 → n ≤ room) → (answer_from r n room).number ≡ r
unfolding answer_from
from zero n room h = rw (le-leb n room (h refl))
from (suc r) n room h = refl

passed_first : (tree : List ℕ) → refusal_of tree ≡ 0 → questions tree ≡ 0
unfolding refusal_of
passed_first tree z = (first_none (questions tree) _ z).0

pub enough : Enough
unfolding answer
enough tree small words room w o =
    rw (le-leb 16384 words w)
    (from (refusal_of tree) (length (program_image tree)) room (λ z. let i = image_room tree small (passed_first tree z) in omega arith))
