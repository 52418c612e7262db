-- The builder's state, where one field of its code is set. Definitions only.
use Rattle.std.specs.Prelude.{Bool, ℕ}
use Rattle.builder.specs.declared.State.{State}

module _ {R : Type 0} where
  abbrev pub set_top : ℕ → State R → State R
  set_top x s = record s { code = record s.code { top = x } }

  abbrev pub set_waiting : Bool → State R → State R
  set_waiting x s = record s { code = record s.code { waiting = x } }
