-- The opcodes that have a target, and what is added to it: 01, Modules: "program.rs: kinds and target_mut". Definitions only.
use Rattle.std.specs.Prelude.{List, [], ◌∷◌, cond, ℕ, eqb}
use Rattle.program.specs.Opcodes as O

-- base where the opcode is one of these, else 0
abbrev pub among : List ℕ → ℕ → ℕ → ℕ
among [] op base = 0
among (k ∷ ks) op base = cond (eqb op k) base (among ks op base)

-- the opcodes whose A is a target, from the last
abbrev pub leading : List ℕ
leading =
    O.EACH_NEXT_TEMP ∷ O.EACH_NEXT_VAR ∷ O.EACH_BEGIN ∷ O.LOOP_CHECK ∷ O.LOOP_BEGIN ∷ O.POINTER_ENTER ∷ O.HANDLER_POP ∷ O.HANDLER_PUSH
    ∷ O.JUMP_IF_FALSY ∷ O.JUMP ∷ O.OR_STEP ∷ O.AND_STEP ∷ O.DIV_GUARD ∷ []

-- what is added to A: a start where A is a target
abbrev pub shift_of : ℕ → ℕ → ℕ
shift_of op base = among leading op base
