-- The open segment: targets, breaks, start and end. Definitions only.
use Rattle.std.specs.Prelude.{Bool, false, List, ℕ, ◌-◌}
use Rattle.workspace.specs.Counts.{sum}
use Rattle.code.specs.Segments as G
use Rattle.builder.specs.declared.State.{State}
use Rattle.builder.specs.Steps.{Held}

-- a place of the segment that starts at base, as one of the open code
abbrev pub within : ℕ → ℕ → ℕ
within base at = sum base at

module _ {R : Type 0} where
  unfoldable pub targeted : State R → ℕ → ℕ → List ℕ → List ℕ
  targeted s at target words = G.targeted words (within s.code.base at) target

  -- to the segment's end
  unfoldable pub breaks_resolved : State R → ℕ → ℕ → ℕ → List ℕ → List ℕ
  breaks_resolved s at check cleanup words = G.range_resolved words (within s.code.base at) (s.code.top - within s.code.base at) check cleanup

  unfoldable pub opened : State R → State R
  opened s = record s { code = record s.code { base = s.code.top; waiting = false } }

  -- the segment is moved behind the finished code, and the one that began at base is open again
  unfoldable pub closed : ℕ → Bool → Held R → Held R
  closed base waiting h =
      let c = h.0.code in
      let n = c.top - c.base in (
        record h.0 { code = record { top = c.base; base = base; finished = G.moved_count n c.finished; waiting = waiting } },
        G.moved h.1 c.base n c.finished,
      )
