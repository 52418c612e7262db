-- The instructions, with pool indices and jump targets as numbers, in groups by what the step machine does. Definitions only.
use Rattle.std.specs.Prelude.{Bool, ℕ}

-- goes on
pub data Plain : Type 0 where
  const hash resource this negate not and_last or_last post pointer_leave : ℕ → Plain
  store_var store_temp store_member : ℕ → ℕ → Plain
  cmp_const eq_const eq_hash : ℕ → ℕ → ℕ → Plain
  add_acc : Plain

-- takes operands and goes on
pub data Taking : Type 0 where
  add_last mul div : ℕ → Taking
  cmp eq : ℕ → ℕ → Taking
  host_math : ℕ → ℕ → ℕ → Taking

-- draws an outcome: no means missing
pub data Reading : Type 0 where
  load_var load_temp load_ctx array_element member : ℕ → ℕ → Reading

-- draws an outcome: yes goes on, no jumps
pub data Guard : Type 0 where
  div_guard : Bool → Guard
  and_step or_step pointer_enter : ℕ → Guard
  jump_if_falsy : Guard

-- the variable that EachNext sets
pub data EachNext : Type 0 where
  each_next_var each_next_temp : ℕ → EachNext

-- the last argument of a jump is its target, of all others but EachNext the post where there is one
pub data Instruction : Type 0 where
  plain : Plain → Instruction
  taking : Taking → Instruction
  reading : Reading → Instruction
  guard : Guard → ℕ → Instruction
  push loop_end halt end : Instruction
  push_const jump handler_push handler_pop loop_begin loop_check each_begin return : ℕ → Instruction
  each_next : EachNext → ℕ → Instruction
  call : ℕ → ℕ → Instruction
