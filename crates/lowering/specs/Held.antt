-- The builder where the refusals are those of the nine questions: its state, itself, and what it holds. Definitions only.
use Rattle.answers.specs.declared.refusals.Refusal.{Refusal}
use Rattle.builder.specs.declared.State as S
use Rattle.builder.specs.declared.Builder as B
use Rattle.builder.specs.Steps as H

abbrev pub State : Type 0
State = S.State Refusal

abbrev pub Builder : Type 0
Builder = B.Builder Refusal

abbrev pub Held : Type 0
Held = H.Held Refusal
