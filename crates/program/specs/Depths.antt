-- What the code's depths count. Definitions only.
use Rattle.program.specs.declared.Depths.{Depths}
use Rattle.program.specs.Counts.{Counts}

abbrev pub counts_of : Depths → Counts
counts_of d = record { operands = d.stack; loops = d.loops; handlers = d.handlers }

-- nothing is open
abbrev pub nothing : Depths
nothing = record { stack = 0; loops = 0; handlers = 0 }
