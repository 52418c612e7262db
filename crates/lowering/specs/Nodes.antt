-- A rule at a node of the tree: it reads its operands as expressions one level down. Definitions only.
use Rattle.std.specs.Prelude.{Bool, List, ℕ}
use Rattle.tree.specs.declared.Node.{Node}
use Rattle.tree.specs.Nodes.{bytes}
use Rattle.payload.specs.declared.NameRef.{NameRef}
use Rattle.lowering.specs.declared.inside.Inside.{Inside}
use Rattle.lowering.specs.Parts.{Step}
use Rattle.lowering.specs.Rules.{under}

-- what a rule is before it is known how its operands are lowered: of the image's bytes, and of the three ways in which a child is read
abbrev pub Rule : Type 0 → Type 0
Rule X = List ℕ → (ℕ → Bool → Step) → (ℕ → NameRef → Bool → Step) → (ℕ → Bool → Step) → X

-- the rule over the node's image, its operands to so many levels
abbrev pub over : {X : Type 0} → Node → ℕ → Rule X → X
over node levels rule = under (bytes node) levels (rule (bytes node))

-- the node as the rule makes it
abbrev pub lowered_as : Node → Inside → Rule (ℕ → Bool → Step) → Step
lowered_as node inside rule = over node inside.levels rule node.at inside.looping
