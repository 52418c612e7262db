-- What a builder has done: a step on its state and the words that it was lent. Definitions only.
use Rattle.std.specs.Prelude.{◌≡◌}
use Rattle.builder.specs.declared.Builder.{Builder}
use Rattle.builder.specs.Steps.{Held}

module _ {R : Type 0} where
  -- the state and the words that a builder holds
  abbrev pub held : Builder R → Held R
  held b = (b.state, b.words.now)

  -- the builder went from b to b' by the step f, and holds the words that it was lent
  abbrev pub Did : Builder R → Builder R → (Held R → Held R) → Type 0
  Did b b' f = (◌≡◌ {A = Held R} (held b') (f (held b))) × (b'.words.ghost_name ≡ b.words.ghost_name)
