-- The depth counters: what each call makes of them. Definitions only.
use Rattle.std.specs.Prelude.{ℕ, ◌-◌, max}
use Rattle.program.specs.declared.Depths.{Depths}
use Rattle.workspace.specs.Counts.{one_more}
use Rattle.depth.specs.declared.Depth.{Depth}

-- a counter: its number, and another number in its place
pub record Counter : Type 0 where
  pub of : Depths → ℕ
  pub set : ℕ → Depths → Depths

abbrev pub stack : Counter
stack = record { of = λ d. d.stack; set = λ n d. record d { stack = n } }

abbrev pub loops : Counter
loops = record { of = λ d. d.loops; set = λ n d. record d { loops = n } }

abbrev pub handlers : Counter
handlers = record { of = λ d. d.handlers; set = λ n d. record d { handlers = n } }

-- k fewer, down to none
abbrev pub lowered : ℕ → ℕ → ℕ
lowered n k = n - k

abbrev pub entered : Counter → Depth → Depth
entered c d = record { now = c.set (one_more (c.of d.now)) d.now; max = c.set (max (c.of d.max) (one_more (c.of d.now))) d.max }

abbrev pub left : Counter → ℕ → Depth → Depth
left c k d = record d { now = c.set (lowered (c.of d.now) k) d.now }

-- one more operand on the stack; k fewer
abbrev pub pushed : Depth → Depth
pushed = entered stack

abbrev pub popped : Depth → ℕ → Depth
popped d k = left stack k d

abbrev pub loop_entered : Depth → Depth
loop_entered = entered loops

abbrev pub loop_left : Depth → Depth
loop_left = left loops 1

abbrev pub handler_entered : Depth → Depth
handler_entered = entered handlers

abbrev pub handler_left : Depth → Depth
handler_left = left handlers 1
