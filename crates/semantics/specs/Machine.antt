-- The step machine over a program. Definitions only.
use Rattle.std.specs.Prelude.{Bool, true, false, ℕ, zero, suc, pred, length}
use mathlib.Core.List.{List, [], ◌∷◌, tail}
use Rattle.std.proofs.Math.Option.{Option, some, none}
use Rattle.program.specs.Instruction as I
use Rattle.program.specs.Instruction.{Plain, Taking, Reading, Guard, EachNext, Instruction}
use Rattle.program.specs.Counts.{Counts}
use Rattle.program.specs.Program.{StoreRoot, root_var, root_temp, root_other, Program, code_at, const_at}
use Rattle.program.specs.Program.{post_at, hash_at, name_at, slot_at, member_at, store_at, call_at, start_at}
use Rattle.semantics.specs.Run as E
use Rattle.semantics.specs.Run.{Action, Run, set_counts, note, note_argument, operand+, operands-, handler+, handler-, count, draw, Result, result}

-- 01, Walk: "Names and members show their own hash, .. a store its root's kind, its root's hash unless Other, and its path"
unfoldable pub root_at : Program → StoreRoot → StoreRoot
root_at P (root_var n) = root_var (name_at P n)
root_at P (root_temp t) = root_temp (name_at P (slot_at P t))
root_at P root_other = root_other

unfoldable pub plain_action : Program → Plain → Action
plain_action P (I.const c) = E.e_const (const_at P c)
plain_action P (I.hash h) = E.e_hash (hash_at P h)
plain_action P (I.resource h) = E.e_resource (hash_at P h)
plain_action P (I.this p) = E.e_this (post_at P p)
plain_action P (I.negate p) = E.e_negate (post_at P p)
plain_action P (I.not p) = E.e_not (post_at P p)
plain_action P (I.and_last p) = E.e_and_last (post_at P p)
plain_action P (I.or_last p) = E.e_or_last (post_at P p)
plain_action P (I.post p) = E.e_post (post_at P p)
plain_action P (I.pointer_leave p) = E.e_pointer_leave (post_at P p)
plain_action P (I.store_var n p) = E.e_store_var (name_at P n) (post_at P p)
plain_action P (I.store_temp t p) = E.e_store_temp (name_at P (slot_at P t)) (post_at P p)
plain_action P (I.store_member s p) = E.e_store_member (root_at P (store_at P s).root) (store_at P s).path (post_at P p)
plain_action P (I.cmp_const o c p) = E.e_cmp_const o (const_at P c) (post_at P p)
plain_action P (I.eq_const o c p) = E.e_eq_const o (const_at P c) (post_at P p)
plain_action P (I.eq_hash o h p) = E.e_eq_hash o (hash_at P h) (post_at P p)
plain_action P I.add_acc = E.e_add_acc

unfoldable pub taking_action : Program → Taking → Action
taking_action P (I.add_last p) = E.e_add_last (post_at P p)
taking_action P (I.mul p) = E.e_mul (post_at P p)
taking_action P (I.div p) = E.e_div (post_at P p)
taking_action P (I.cmp o p) = E.e_cmp o (post_at P p)
taking_action P (I.eq o p) = E.e_eq o (post_at P p)
taking_action P (I.host_math f n p) = E.e_host_math f n (post_at P p)

-- 01, Walk: "AddLast, Mul, Div, Cmp and Eq take one, HostMath argc less one"
unfoldable pub taken : Taking → ℕ
taken (I.add_last p) = 1
taken (I.mul p) = 1
taken (I.div p) = 1
taken (I.cmp o p) = 1
taken (I.eq o p) = 1
taken (I.host_math f n p) = pred n

unfoldable pub reading_action : Program → Reading → Action
reading_action P (I.load_var n p) = E.e_load_var (name_at P n) (post_at P p)
reading_action P (I.load_temp t p) = E.e_load_temp (name_at P (slot_at P t)) (post_at P p)
reading_action P (I.load_ctx n p) = E.e_load_ctx (name_at P n) (post_at P p)
reading_action P (I.array_element n p) = E.e_array_element (name_at P n) (post_at P p)
reading_action P (I.member m p) = E.e_member (member_at P m) (post_at P p)

unfoldable pub guard_action : Program → Guard → Action
guard_action P (I.div_guard d) = E.e_div_guard d
guard_action P (I.and_step p) = E.e_and_step (post_at P p)
guard_action P (I.or_step p) = E.e_or_step (post_at P p)
guard_action P (I.pointer_enter p) = E.e_pointer_enter (post_at P p)
guard_action P I.jump_if_falsy = E.e_jump_if_falsy

-- 01, Walk: "DivGuard going on .. add an operand"
unfoldable pub guard_up : Guard → Counts → Counts
guard_up (I.div_guard d) c = operand+ c
guard_up (I.and_step p) c = c
guard_up (I.or_step p) c = c
guard_up (I.pointer_enter p) c = c
guard_up I.jump_if_falsy c = c

unfoldable pub each_action : Program → EachNext → Action
each_action P (I.each_next_var n) = E.e_each_next_var (name_at P n)
each_action P (I.each_next_temp t) = E.e_each_next_temp (name_at P (slot_at P t))

-- what is open in a segment: a loop (with LoopBegin's operand or not) and the counts just after its start,
-- a handler, its target and the counts before its HandlerPush
pub data Open : Type 0 where
  loop : Bool → Counts → Open
  handler : ℕ → Counts → Open

-- a call whose argument runs: where it goes on, its number, the arguments left, the next one's number, its counts and what is open there
pub record Frame : Type 0 where
  pub back : ℕ
  pub callee : ℕ
  pub todo : ℕ
  pub number : ℕ
  pub counts : Counts
  pub control : List Open

-- the next instruction, the run, what is open in this segment (innermost first), the calls around it
pub record Machine : Type 0 where
  pub pc : ℕ
  pub run : Run
  pub control : List Open
  pub frames : List Frame

abbrev pub machine : ℕ → Run → List Open → List Frame → Machine
machine n w es fs = record { pc = n; run = w; control = es; frames = fs }

pub data Next : Type 0 where
  go : Machine → Next
  stop : Result → Next

abbrev pub dry : Run → Next
dry w = stop (result E.by_out w)

-- 01, Walk: "A missing value goes to the innermost handler of its segment, counts cut back to those before its HandlerPush; with none, on."
unfoldable pub missed : List Open → Run → List Frame → Next → Next
missed [] w fs on = on
missed (loop k c ∷ es) w fs on = missed es w fs on
missed (handler t c ∷ es) w fs on = go (machine t (set_counts c w) es fs)

abbrev pub perhaps : ℕ → Run → List Open → List Frame → Next
perhaps n w es fs = draw w dry (λ w. go (machine n w es fs)) (λ w. missed es w fs (go (machine n w es fs)))

-- the handlers inside the innermost loop dropped
unfoldable pub cut : List Open → List Open
cut [] = []
cut (loop k c ∷ es) = loop k c ∷ es
cut (handler t c ∷ es) = cut es

-- 01, Walk: "Before they log, LoopCheck, EachNext and LoopEnd cut back to just after the loop's start"
unfoldable pub check : Action → ℕ → ℕ → Run → List Frame → List Open → Next
check a yes_to no_to w fs [] = stop (result E.by_halt w)
check a yes_to no_to w fs (handler u c ∷ es) = stop (result E.by_halt w)
check a yes_to no_to w fs (loop k c ∷ es) = draw (note a (set_counts c w)) dry
    (λ w. go (machine yes_to w (loop k c ∷ es) fs))
    (λ w. go (machine no_to w (loop k c ∷ es) fs))

unfoldable pub close : ℕ → Run → List Frame → List Open → Next
close n w fs [] = stop (result E.by_halt w)
close n w fs (handler u c ∷ es) = stop (result E.by_halt w)
close n w fs (loop k c ∷ es) = go (machine n (set_counts (E.closes k c) (note E.e_loop_end (set_counts c w))) es fs)

abbrev pub open_loop : Bool → ℕ → Run → List Open → List Frame → Next
open_loop k n w es fs = go (machine n (count (E.opens k) w) (loop k (E.opens k w.counts) ∷ es) fs)

-- 01, Walk: "Call logs, runs its arguments in order from the counts open there, .. and only then draws": call k with `todo` arguments left
unfoldable pub enter : Program → ℕ → (todo : ℕ) → ℕ → ℕ → Run → List Open → List Frame → Next
enter P k zero j n w es fs = perhaps n w es fs
enter P k (suc m) j n w es fs = go (machine (start_at P k j) (note_argument j w) []
    (record { back = n; callee = k; todo = m; number = suc j; counts = w.counts; control = es } ∷ fs))

-- 01, Walk: "Return or End ends its segment and restores the counts there.";
-- 02, C-15: "Halt inside a query argument now ends that argument alone, .. and the call goes on. In the main code it still ends the run."
unfoldable pub leave : Program → E.Ending → Run → List Frame → Next
leave P e w [] = stop (result e w)
leave P e w (f ∷ fs) = enter P f.callee f.todo f.number f.back (set_counts f.counts w) f.control fs

-- one instruction at n; "Jump, HandlerPush, HandlerPop and End log nothing; PushConst logs and does Push, then logs and does Const"
unfoldable pub execute : Program → Instruction → ℕ → Run → List Open → List Frame → Next
execute P (I.plain i) n w es fs = go (machine (suc n) (note (plain_action P i) w) es fs)
execute P (I.taking i) n w es fs = go (machine (suc n) (count (operands- (taken i)) (note (taking_action P i) w)) es fs)
execute P (I.reading i) n w es fs = perhaps (suc n) (note (reading_action P i) w) es fs
execute P (I.guard g t) n w es fs = draw (note (guard_action P g) w) dry (λ w. go (machine (suc n) (count (guard_up g) w) es fs)) (λ w. go (machine t w es fs))
execute P I.push n w es fs = go (machine (suc n) (count operand+ (note E.e_push w)) es fs)
execute P (I.push_const c) n w es fs = go (machine (suc n) (note (E.e_const (const_at P c)) (count operand+ (note E.e_push w))) es fs)
execute P (I.jump t) n w es fs = go (machine t w es fs)
execute P (I.handler_push t) n w es fs = go (machine (suc n) (count handler+ w) (handler t w.counts ∷ es) fs)
execute P (I.handler_pop t) n w es fs = go (machine t (count handler- w) (tail es) fs)
execute P (I.loop_begin t) n w es fs = draw (note E.e_loop_begin w) dry (λ w. open_loop true (suc n) w es fs) (λ w. go (machine t w es fs))
execute P (I.each_begin t) n w es fs = draw (note E.e_each_begin w) dry (λ w. open_loop false (suc n) w es fs) (λ w. go (machine t w es fs))
execute P (I.loop_check t) n w es fs = check E.e_loop_check t (suc n) w fs (cut es)
execute P (I.each_next i t) n w es fs = check (each_action P i) (suc n) t w fs (cut es)
execute P I.loop_end n w es fs = close (suc n) w fs (cut es)
execute P (I.call k p) n w es fs = enter P k (length (call_at P k).starts) 0 (suc n)
    (note (E.e_call (call_at P k).index (call_at P k).impl (length (call_at P k).starts) (post_at P p)) w) es fs
execute P (I.return p) n w es fs = leave P E.by_return (note (E.e_return (post_at P p)) w) fs
execute P I.halt n w es fs = leave P E.by_halt (note E.e_halt w) fs
execute P I.end n w es fs = leave P E.by_end w fs

unfoldable pub step : Program → Machine → Next
step P m = execute P (code_at P m.pc) m.pc m.run m.control m.frames

-- n steps on, the result if the machine has stopped
unfoldable pub follow : Program → ℕ → Next → Option Result
follow P zero (stop r) = some r
follow P zero (go m) = none
follow P (suc n) (stop r) = some r
follow P (suc n) (go m) = follow P n (step P m)

-- 01, Walk: "and the step machine at the first instruction of the image written, both with nothing open and with the same outcomes"
abbrev pub start : List Bool → Next
start outcomes = go (machine 0 (E.begin outcomes) [] [])
