-- The card's sections of a builder's state: how much of each region is used, and the closing fields. Definitions only.
use Rattle.std.specs.Prelude.{Bool, false, cond}
use Rattle.std.specs.Int.Bits.{bit_and}
use Rattle.program.specs.Depths.{counts_of}
use Rattle.program.specs.Kinds.{in_float_loop, NOT_FLOAT}
use Rattle.program.specs.declared.Flags.{Flags}
use Rattle.card.specs.declared.Sections.{Sections}
use Rattle.lowering.specs.Held.{State}

-- 01, Modules: "Stack over 16, loops over 4, handlers over 4 or temps over 8 clears FLOAT_ONLY and float_loop."
unfoldable pub in_loop : State → Bool
in_loop s = in_float_loop (counts_of s.depth.max) s.pools.temps

unfoldable pub closing_flags : Bool → Flags → Flags
closing_flags fits m = cond fits m (record { bits = bit_and m.bits NOT_FLOAT; float_loop = false })

unfoldable pub sections_of : State → Sections
sections_of s = record {
  code = s.code.top;
  finished = s.code.finished;
  pools = s.pools;
  listed = s.listed;
  depths = s.depth.max;
  flags = closing_flags (in_loop s) s.flags;
}
