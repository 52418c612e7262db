-- The worked examples, computed from the definitions. Assumes nothing.
use mathlib.Core.Path.{◌≡◌, refl}
use mathlib.Core.Bool.{Bool}
use mathlib.Core.List.{List, map}
use mathlib.Core.Option
use mathlib.Core.Option.{Option, some}
use Prim.Native.Nat.{ℕ}
use Rattle.program.specs.Image.{read}
use Rattle.semantics.proofs.Opens.{computing}
use Rattle.semantics.specs.Run.{Behaviour, behaviour}
use Rattle.semantics.specs.Machine.{follow, start}
use Rattle.semantics.specs.Link.{program_image}
use Rattle.semantics.specs.Demand3.{tree_behaviour}
use Rattle.semantics.specs.Example.{Example}
use Rattle.semantics.specs.Examples.{examples}

-- a tree's program image, and on each list of outcomes the behaviour of the walk and of the step machine over the program's bytes
record Findings : Type 0 where
  card : List ℕ
  walks : List Behaviour
  machines : List (Option Behaviour)

-- no example takes more than 300 steps
abbrev runs : List ℕ → List Bool → Option Behaviour
runs card outcomes = Option.map (behaviour outcomes) (follow (read card) 300 (start outcomes))

abbrev found : Example → Findings
found x = record {
  card = program_image x.tree;
  walks = map (λ t. tree_behaviour x.tree t.outcomes) x.trials;
  machines = map (λ t. runs x.card t.outcomes) x.trials;
}

abbrev given : Example → Findings
given x = record { card = x.card; walks = map (λ t. t.shows) x.trials; machines = map (λ t. some t.shows) x.trials }

-- E1 to E49 and H1 to H15: the lowering, the walk and the step machine, each as the example gives it
worked_examples : map found examples ≡ map given examples
unfolding computing
worked_examples = refl
