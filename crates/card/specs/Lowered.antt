-- What is said of a tree image, a workspace and its sections' counts, said of the three as one value. A definition only.
use Rattle.std.specs.Prelude.{List, ℕ}
use Rattle.card.specs.declared.Sections.{Sections}
use Rattle.card.specs.declared.Lowered.{Lowered}

abbrev pub of_parts : {A : Type 0} → (List ℕ → List ℕ → Sections → A) → Lowered → A
of_parts f l = f l.tree.now l.ws.now l.sections
