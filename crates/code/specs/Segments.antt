-- Instructions in the workspace's words: appended, given a target, resolved by their loop, moved to the finished code. Definitions only.
use Rattle.std.specs.Prelude.{◌≡◌, Bool, true, cond, List, [], ◌∷◌, ℕ, zero, suc, ◌+◌, ◌*◌, ◌/◌, ◌≤◌, ◌<◌, eqb, leb, get_or, set}
use Rattle.std.proofs.lemmas.List.Edits.{sets}
use Rattle.workspace.specs.Layout.{FINISHED, CODE_ROOM}
use Rattle.workspace.specs.Words.{plus}
use Rattle.program.specs.Targets.{shift_of}
use Rattle.code.specs.declared.segment.Waiting.{Waiting}
use Rattle.code.specs.declared.segment.Waiting.TheVariants as W

-- appended to the open code; a full region is left as it is
unfoldable pub emitted : List ℕ → ℕ → ℕ → ℕ → List ℕ
emitted words top front back = cond (leb (top + 1) CODE_ROOM) (sets words (top * 2) (front ∷ back ∷ [])) words

unfoldable pub emitted_top : ℕ → ℕ
emitted_top top = cond (leb (top + 1) CODE_ROOM) (top + 1) top

-- the second word of an instruction is its target
unfoldable pub targeted : List ℕ → ℕ → ℕ → List ℕ
targeted words at target = cond (leb (at + 1) CODE_ROOM) (set words (at * 2 + 1) target) words

-- the first words of a Break and a Continue that wait for their loop, and of a Jump
abbrev pub BREAK : ℕ
BREAK = 0xfa00_0000

abbrev pub CONTINUE : ℕ
CONTINUE = 0xfb00_0000

abbrev pub JUMP : ℕ
JUMP = 0x2000_0000

-- the first word of each that waits
abbrev pub front_of : Waiting → ℕ
front_of W.Break = BREAK
front_of W.Continue = CONTINUE

-- a Break or Continue of a loop's body becomes a Jump
unfoldable pub break_resolved : List ℕ → ℕ → ℕ → ℕ → List ℕ
break_resolved words at check cleanup =
    cond (eqb (get_or words (at * 2) 0) BREAK) (sets words (at * 2) (JUMP ∷ cleanup ∷ []))
    (cond (eqb (get_or words (at * 2) 0) CONTINUE) (sets words (at * 2) (JUMP ∷ check ∷ [])) words)

-- those of n instructions from a place on
unfoldable pub range_resolved : List ℕ → ℕ → ℕ → ℕ → ℕ → List ℕ
range_resolved words at zero check cleanup = words
range_resolved words at (suc n) check cleanup = range_resolved (break_resolved words at check cleanup) (suc at) n check cleanup

-- that none of eight instructions from a place on waits, if so answered: their first words lack the top bit
abbrev pub Idle : List ℕ → ℕ → ℕ → Bool → Type 0
Idle words at n r = r ≡ true → (8 ≤ n) × ((k : ℕ) → k < 8 → get_or words (at * 2 + 2 * k) 0 < 2147483648)

-- one instruction copied, its target moved by `by` where it has one
unfoldable pub relocated_one : List ℕ → ℕ → ℕ → ℕ → List ℕ
relocated_one words from to by = sets words to (get_or words from 0 ∷ plus (get_or words (from + 1) 0) (shift_of (get_or words from 0 / 16777216) by) ∷ [])

-- n of them, one after the other
unfoldable pub relocated_range : List ℕ → ℕ → ℕ → ℕ → ℕ → List ℕ
relocated_range words from to zero by = words
relocated_range words from to (suc n) by = relocated_range (relocated_one words from to by) (from + 2) (to + 2) n by

-- n instructions of the open code put behind the finished ones, where their segment starts
unfoldable pub moved : List ℕ → ℕ → ℕ → ℕ → List ℕ
moved words from n finished = cond (leb (finished + n) CODE_ROOM) (relocated_range words (from * 2) (FINISHED + finished * 2) n finished) words

unfoldable pub moved_count : ℕ → ℕ → ℕ
moved_count n finished = cond (leb (finished + n) CODE_ROOM) (finished + n) finished
