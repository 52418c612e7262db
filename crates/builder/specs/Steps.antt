-- What each step of the builder makes of its state and the workspace's words. Definitions only.
use Rattle.std.specs.Prelude.{true, false, cond, List, ℕ, ◌*◌, Some}
use Rattle.std.specs.Option.{option_or}
use Rattle.program.specs.Opcodes as O
use Rattle.depth.specs.Counters as D
use Rattle.code.specs.Segments as G
use Rattle.builder.specs.declared.State.{State}
use Rattle.builder.specs.Fields.{set_top, set_waiting}

-- the state, and the workspace's words
abbrev pub Held : Type 0 → Type 0
Held R = State R × List ℕ

-- the first word of an instruction that has its opcode alone
abbrev pub alone : ℕ → ℕ
alone op = op * 16777216

module _ {R : Type 0} where
  -- a step beside the words
  abbrev pub still : (State R → State R) → Held R → Held R
  still f h = (f h.0, h.1)

  unfoldable pub emitted : ℕ → ℕ → Held R → Held R
  emitted front back h = (set_top (G.emitted_top h.0.code.top) h.0, G.emitted h.1 h.0.code.top front back)

  -- a Push that waits is put
  unfoldable pub flushed : Held R → Held R
  flushed h = cond h.0.code.waiting (emitted (alone O.PUSH) 0 (set_waiting false h.0, h.1)) h

  unfoldable pub put : ℕ → ℕ → Held R → Held R
  put front back h = emitted front back (flushed h)

  -- 01, Modules, code.rs: "Const after Push becomes PushConst"
  unfoldable pub put_const : ℕ → Held R → Held R
  put_const index h =
      cond h.0.code.waiting
      (emitted (alone O.PUSH_CONST) index (set_waiting false h.0, h.1))
      (emitted (alone O.CONST) index h)

  -- 01, Nine questions: "Of 5 to 8 the first met in lowering decides."
  unfoldable pub refused : R → State R → State R
  refused why s = record s { refusal = option_or s.refusal (Some why) }

  unfoldable pub failed : R → Held R → Held R
  failed why h = (refused why (flushed h).0, (flushed h).1)

  unfoldable pub pushed : State R → State R
  pushed s = set_waiting true (record s { depth = D.pushed s.depth })
