-- What a writer writes, and the room that it needs for that. Definitions only.
use Rattle.std.specs.Prelude.{◌≡◌, List, ℕ, ◌+◌, ◌^◌, ◌≤◌, ◌<◌}
use Rattle.card.specs.declared.fields.Writer.{Writer}
use Rattle.card.specs.Written.{Wrote}

-- a writer's place with n bytes behind it can still be counted
abbrev pub Room : Writer → ℕ → Type 0
Room w n = w.at + n < 2 ^ 60

-- v is w with the bytes vs written at its place, which goes on by no more than most
pub record Puts (w v : Writer) (vs : List ℕ) (most : ℕ) : Type 0 where
  pub same : v.out.ghost_name ≡ w.out.ghost_name
  pub wrote : Wrote w.out.now w.at vs v.out.now v.at
  pub within : v.at ≤ w.at + most
