-- The float loop's limits, and the flags' bits. Definitions only.
use Rattle.std.specs.Prelude.{ℕ, ◌+◌, Bool, ◌&&◌, leb}
use Rattle.program.specs.Counts.{Counts}

-- 01, Modules: "Stack over 16, loops over 4, handlers over 4 or temps over 8 clears FLOAT_ONLY and float_loop"
unfoldable pub in_float_loop : Counts → ℕ → Bool
in_float_loop c temps = leb c.operands 16 && (leb c.loops 4 && (leb c.handlers 4 && leb temps 8))

-- 01, The program image: "Flag bits from 0: FLOAT_ONLY, READS_ACTOR_VARS, USES_TEMPS, READS_CONTEXT, USES_MEMBERS, HAS_ASSIGNMENT,
-- HAS_LOOPS, USES_ARROW, USES_QUERIES, USES_RANDOM, USES_RANDOM_OP"
abbrev pub FLOAT_ONLY : ℕ
FLOAT_ONLY = 1

abbrev pub READS_ACTOR_VARS : ℕ
READS_ACTOR_VARS = 2

abbrev pub USES_TEMPS : ℕ
USES_TEMPS = 4

abbrev pub READS_CONTEXT : ℕ
READS_CONTEXT = 8

abbrev pub USES_MEMBERS : ℕ
USES_MEMBERS = 16

abbrev pub HAS_ASSIGNMENT : ℕ
HAS_ASSIGNMENT = 32

abbrev pub HAS_LOOPS : ℕ
HAS_LOOPS = 64

abbrev pub USES_ARROW : ℕ
USES_ARROW = 128

abbrev pub USES_QUERIES : ℕ
USES_QUERIES = 256

abbrev pub USES_RANDOM : ℕ
USES_RANDOM = 512

abbrev pub USES_RANDOM_OP : ℕ
USES_RANDOM_OP = 1024

-- both bits of a volatile host function
abbrev pub RANDOM : ℕ
RANDOM = USES_RANDOM + USES_RANDOM_OP

-- all bits but FLOAT_ONLY
abbrev pub NOT_FLOAT : ℕ
NOT_FLOAT = 2046
