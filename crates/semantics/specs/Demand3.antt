-- Demand 3: the program does what its tree does. Definitions only: `demand3` in proofs/Demand3.antt proves it.
use Rattle.std.specs.Prelude.{◌≡◌, Bool, List, [], ◌∷◌, ℕ}
use Rattle.std.proofs.Math.Option.{some}
use Rattle.wire.specs.Bytes.{Bytes}
use Rattle.ast.specs.Header.{settings}
use Rattle.ast.specs.Node.{parse}
use Rattle.program.specs.Counts.{Counts, AtMost}
use Rattle.program.specs.Image.{read}
use Rattle.semantics.specs.Run.{Event, event, argument, Result, Behaviour, behaviour}
use Rattle.semantics.specs.Walk.{walked}
use Rattle.semantics.specs.Machine.{follow, start}
use Rattle.semantics.specs.Link.{refusal_of, program_image}

-- what the walk over the tree of an image shows
unfoldable pub tree_behaviour : List ℕ → List Bool → Behaviour
tree_behaviour tree outcomes = behaviour outcomes (walked (settings tree) (parse tree) outcomes)

-- the step machine over the bytes of a card stops, and shows b
pub record Shows (card : List ℕ) (outcomes : List Bool) (b : Behaviour) : Type 0 where
  pub steps : ℕ
  pub result : Result
  pub stops : follow (read card) steps (start outcomes) ≡ some result
  pub same : behaviour outcomes result ≡ b

-- 01, Walk: "an argument's number has no counts to hold against them"
abbrev pub Within : Counts → List Event → Type 0
Within declared [] = Unit {0}
Within declared (event a c ∷ log) = AtMost c declared × Within declared log
Within declared (argument j ∷ log) = Within declared log

-- 01, Walk: "Their logs are one and the same list, counts included"; same ending, same number of outcomes used;
-- and "Declared are the closing fields stack (for operands), loops and handlers"
pub record Agrees (tree card : List ℕ) (outcomes : List Bool) : Type 0 where
  pub runs : Shows card outcomes (tree_behaviour tree outcomes)
  pub bounded : Within (read card).depths (tree_behaviour tree outcomes).log

-- 01, Walk: "Demand 3 is a single claim about the whole tree and the whole list of outcomes"
abbrev pub Demand3 : Type 0
Demand3 = (tree : List ℕ) → Bytes tree → refusal_of tree ≡ 0 → (outcomes : List Bool) → Agrees tree (program_image tree) outcomes
