use Prim.Native.Nat.{◌+◌, ◌*◌}
use Rattle.questions.proofs.+row_at.Given as goal

-- a call inside takes a level, and its row is shorter than 65536; a call behind takes a node
abbrev pub decreases-row_at : goal.decreases-row_at
decreases-row_at l = l.levels * 65536 + l.n
