-- What a run is made of: events with open counts, outcomes, endings. Shared by the walk and the step machine. Definitions only.
use Rattle.std.specs.Prelude.{Bool, true, false, List, [], ◌∷◌, reverse, ℕ, suc, pred, ◌-◌, length}
use Rattle.numeric.specs.Post.{Post}
use Rattle.program.specs.Counts.{Counts, all}
use Rattle.program.specs.Program.{StoreRoot}

-- 01, Walk: "its name, sub, pool values in place of indices": an instruction with values; where it has a sub this comes first
-- (of HostMath the function, then argc), where it has a post this comes last
pub data Action : Type 0 where
  e_const e_hash e_resource : ℕ → Action
  e_this e_negate e_not e_and_last e_or_last e_post e_pointer_leave e_return e_add_last e_mul e_div e_and_step e_or_step e_pointer_enter : Post → Action
  e_store_var e_store_temp e_load_var e_load_temp e_load_ctx e_array_element e_member e_cmp e_eq : ℕ → Post → Action
  e_store_member : StoreRoot → List ℕ → Post → Action
  e_cmp_const e_eq_const e_eq_hash e_host_math : ℕ → ℕ → Post → Action
  e_call : ℕ → ℕ → ℕ → Post → Action
  e_push e_add_acc e_jump_if_falsy e_loop_begin e_loop_check e_loop_end e_each_begin e_halt : Action
  e_div_guard : Bool → Action
  e_each_next_var e_each_next_temp : ℕ → Action

-- 01, Walk: "and the open counts, before its own effect"; "each first logging its number from 0 as an event of its own without counts"
pub data Event : Type 0 where
  event : Action → Counts → Event
  argument : ℕ → Event

-- a run: the open counts, the outcomes left, the log with its last event first
pub record Run : Type 0 where
  pub counts : Counts
  pub outcomes : List Bool
  pub log : List Event

abbrev pub set_counts : Counts → Run → Run
set_counts c w = record { counts = c; outcomes = w.outcomes; log = w.log }

abbrev pub set_outcomes : List Bool → Run → Run
set_outcomes outcomes w = record { counts = w.counts; outcomes = outcomes; log = w.log }

abbrev pub note : Action → Run → Run
note e w = record { counts = w.counts; outcomes = w.outcomes; log = event e w.counts ∷ w.log }

abbrev pub note_argument : ℕ → Run → Run
note_argument j w = record { counts = w.counts; outcomes = w.outcomes; log = argument j ∷ w.log }

abbrev pub nothing_open : Counts
nothing_open = all 0

abbrev pub operand+ : Counts → Counts
operand+ c = record c { operands = suc c.operands }

-- k operands taken
abbrev pub operands- : ℕ → Counts → Counts
operands- k c = record c { operands = c.operands - k }

abbrev pub handler+ : Counts → Counts
handler+ c = record c { handlers = suc c.handlers }

abbrev pub handler- : Counts → Counts
handler- c = record c { handlers = pred c.handlers }

abbrev pub same : Counts → Counts
same c = c

-- 01, Walk: "LoopBegin going on add an operand", "LoopBegin and EachBegin going on open a loop"; true is LoopBegin's
unfoldable pub opens : Bool → Counts → Counts
opens true c = record c { operands = suc c.operands; loops = suc c.loops }
opens false c = record c { loops = suc c.loops }

-- 01, Walk: "LoopEnd then closes it and drops LoopBegin's operand"
unfoldable pub closes : Bool → Counts → Counts
closes true c = record c { operands = pred c.operands; loops = pred c.loops }
closes false c = record c { loops = pred c.loops }

abbrev pub count : (Counts → Counts) → Run → Run
count f w = set_counts (f w.counts) w

-- an outcome: none is left, yes, no
unfoldable pub pick : {X : Type 0} → List Bool → Run → (Run → X) → (Run → X) → (Run → X) → X
pick [] w dry good bad = dry (set_outcomes [] w)
pick (true ∷ outcomes) w dry good bad = good (set_outcomes outcomes w)
pick (false ∷ outcomes) w dry good bad = bad (set_outcomes outcomes w)

abbrev pub draw : {X : Type 0} → Run → (Run → X) → (Run → X) → (Run → X) → X
draw w dry good bad = pick w.outcomes w dry good bad

-- 01, Walk: "No outcome left ends with `out`; the other endings are `end`, `return` and `halt`."
pub data Ending : Type 0 where
  by_end by_return by_halt by_out : Ending

-- where a run comes to: its ending, its log with the last event first, the outcomes left
pub record Result : Type 0 where
  pub ending : Ending
  pub log : List Event
  pub left : List Bool

abbrev pub result : Ending → Run → Result
result e w = record { ending = e; log = w.log; left = w.outcomes }

-- 01, Walk: "both with nothing open and with the same outcomes"
abbrev pub begin : List Bool → Run
begin outcomes = record { counts = nothing_open; outcomes = outcomes; log = [] }

-- 01, Walk: what is compared: the log, the ending, and "used are the outcomes drawn"
pub record Behaviour : Type 0 where
  pub log : List Event
  pub ending : Ending
  pub used : ℕ

unfoldable pub behaviour : List Bool → Result → Behaviour
behaviour outcomes r = record { log = reverse r.log; ending = r.ending; used = length outcomes - length r.left }
