-- Steps beside the workspace's words: the depth counters, the flags. Definitions only.
use Rattle.std.specs.Prelude.{Bool, false, cond, ℕ}
use Rattle.std.specs.Int.Bits.{bit_and, bit_or}
use Rattle.program.specs.Kinds.{USES_QUERIES, NOT_FLOAT}
use Rattle.depth.specs.Counters as D
use Rattle.lowering.specs.Held.{State}

-- one more operand without a Push; k fewer
unfoldable pub operand_entered : State → State
operand_entered s = record s { depth = D.pushed s.depth }

unfoldable pub popped : ℕ → State → State
popped k s = record s { depth = D.popped s.depth k }

unfoldable pub loop_entered : State → State
loop_entered s = record s { depth = D.loop_entered s.depth }

unfoldable pub loop_left : State → State
loop_left s = record s { depth = D.loop_left s.depth }

unfoldable pub handler_entered : State → State
handler_entered s = record s { depth = D.handler_entered s.depth }

unfoldable pub handler_left : State → State
handler_left s = record s { depth = D.handler_left s.depth }

unfoldable pub flagged : ℕ → State → State
flagged bits s = record s { flags = record s.flags { bits = bit_or s.flags.bits bits } }

-- all bits but FLOAT_ONLY stay
unfoldable pub not_float_only : State → State
not_float_only s = record s { flags = record { bits = bit_and s.flags.bits NOT_FLOAT; float_loop = false } }

-- a query, alone if it has no arguments: USES_QUERIES
unfoldable pub queried : Bool → State → State
queried alone s =
    let m = s.flags in
    record s { flags = record { bits = bit_or (bit_and m.bits NOT_FLOAT) USES_QUERIES; float_loop = cond alone m.float_loop false } }
