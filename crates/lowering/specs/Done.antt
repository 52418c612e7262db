-- What a builder has done where it gives an index. Definitions only.
use Rattle.std.specs.Prelude.{◌≡◌, ℕ, List, Option}
use Rattle.lowering.specs.Held.{Builder, Held}
use Rattle.builder.specs.Done.{held}
use Rattle.lowering.specs.Pools.{Found}
use Rattle.lowering.specs.declared.interning.VariableIdx.{VariableIdx}
use Rattle.lowering.specs.Leaves.{VariableEntry}

-- the builder went from b to b' by the step f, which gave the index k, and holds the words that it was lent
abbrev pub Gave : Builder → Builder → ℕ → (Held → Found) → Type 0
Gave b b' k f = (◌≡◌ {A = Found} (record { state = b'.state; index = k }, b'.words.now) (f (held b))) × (b'.words.ghost_name ≡ b.words.ghost_name)

-- the same where the step gave the index of a variable or a temp, or none
abbrev pub GaveVariable : Builder → Builder → Option VariableIdx → (Held → VariableEntry × List ℕ) → Type 0
GaveVariable b b' k f =
    (◌≡◌ {A = VariableEntry × List ℕ} (record { state = b'.state; index = k }, b'.words.now) (f (held b)))
    × (b'.words.ghost_name ≡ b.words.ghost_name)
