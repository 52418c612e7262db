-- The bytes that a node is read from, and a walk over nodes one behind the other. Definitions only.
use Rattle.std.specs.Prelude.{◌≡◌, List, ℕ, suc, Option, MatchOption}
use Rattle.ast.specs.Node.{first_at, next_at}
use Rattle.tree.specs.declared.Node.{Node}
use Rattle.tree.specs.declared.Siblings.{Siblings}

abbrev pub bytes : Node → List ℕ
bytes n = n.image.now.now

abbrev pub first_child : Node → Node
first_child n = record { image = n.image; at = first_at (bytes n) n.at }

abbrev pub next_node : Node → Node
next_node n = record { image = n.image; at = next_at (bytes n) n.at }

-- a call from s gave the next of those left and went on to the one behind it, or gave `None` where none was left, and changed nothing
abbrev pub Walks : Siblings → Option Node → Siblings → Type 0
Walks s r t = MatchOption r ((s.left ≡ 0) × (t ≡ s)) λ n. (n ≡ s.next) × (t.next ≡ next_node n) × (s.left ≡ suc t.left)
