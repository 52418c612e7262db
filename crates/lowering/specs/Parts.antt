-- The parts that rules are made of, as steps on the builder's state and the workspace's words. Definitions only.
use Rattle.std.specs.Prelude.{Bool, cond, List, [], ◌∷◌, ℕ, ◌+◌, ◌*◌, ◌-◌, ◌%◌, ltb, set, Option, None, Some}
use Rattle.answers.specs.declared.refusals.Refusal.{Refusal}
use Rattle.numeric.specs.Post.{Post, is_identity}
use Rattle.ast.specs.Node.{scale_at, offset_at}
use Rattle.program.specs.Opcodes as O
use Rattle.workspace.specs.Layout.{STORES, STORES_ROOM, PATHS, PATHS_ROOM, CALLS, CALLS_ROOM, ARGUMENTS, ARGUMENTS_ROOM}
use Rattle.workspace.specs.Words.{high, low}
use Rattle.workspace.specs.Counts.{sum, one_more}
use Rattle.workspace.specs.declared.counts.Listed.{Listed}
use Rattle.lowering.specs.Regions.{appended_count, appended_words}
use Rattle.payload.specs.declared.NameRef.{NameRef}
use Rattle.lowering.specs.Held.{State, Held}
use Rattle.lowering.specs.declared.interning.VariableIdx.{VariableIdx}
use Rattle.lowering.specs.declared.interning.VariableIdx.TheVariants.{Name, Temp}
use Rattle.builder.specs.Steps.{emitted, flushed, put, failed}
use Rattle.lowering.specs.Pools as B
use Rattle.lowering.specs.Pools.{Found}
use Rattle.builder.specs.Segments.{targeted, breaks_resolved, closed}

abbrev pub Step : Type 0
Step = Held → Held

-- what `do` is read by: one step after another, and an index handed to the rest
infixr 50 ◌>>◌
abbrev pub ◌>>◌ : Step → Step → Step
◌>>◌ f g h = g (f h)

abbrev pub ◌>>=◌ : ((ℕ → Step) → Step) → (ℕ → Step) → Step
◌>>=◌ indexed rest = indexed rest

-- the one step or the other
abbrev pub either : Bool → Step → Step → Step
either b f g h = cond b (f h) (g h)

-- a refusal that is known beforehand, or the step
abbrev pub unless_refused : Option Refusal → Step → Step
unless_refused None f h = f h
unless_refused (Some why) f h = failed why h

-- the first word of an instruction, its sub and B cut to their fields
abbrev pub front : ℕ → ℕ → ℕ → ℕ
front op sub b = op * 16777216 + sub % 256 * 65536 + b % 65536

unfoldable pub instr : ℕ → ℕ → ℕ → ℕ → Step
instr op sub a b = put (front op sub b) a

-- the one instruction with a variable's index, the other with a temp's
unfoldable pub put_variable : ℕ → ℕ → VariableIdx → ℕ → Step
put_variable variable temp (Name n) q = instr variable 0 n.0 q
put_variable variable temp (Temp n) q = instr temp 0 n.0 q

-- an entry is interned, and f goes on with its index
abbrev pub going : Found → (ℕ → Step) → Held
going e f = f e.0.index (e.0.state, e.1)

abbrev pub with_const : ℕ → (ℕ → Step) → Step
with_const v f h = going (B.konst v h) f

abbrev pub with_hash : ℕ → (ℕ → Step) → Step
with_hash v f h = going (B.hash v h) f

abbrev pub with_name : NameRef → (ℕ → Step) → Step
with_name v f h = going (B.name v h) f

abbrev pub with_temp : NameRef → (ℕ → Step) → Step
with_temp v f h = going (B.temp v h) f

abbrev pub with_member : NameRef → NameRef → (ℕ → Step) → Step
with_member v l f h = going (B.member v l h) f

-- the post of the node at p
abbrev pub post_bits : List ℕ → ℕ → Post
post_bits t p = record { scale = scale_at t p; offset = offset_at t p }

abbrev pub with_post : List ℕ → ℕ → (ℕ → Step) → Step
with_post t p f h = going (B.post (post_bits t p) h) f

-- an instruction with the node's post
unfoldable pub put_post : List ℕ → ℕ → ℕ → ℕ → ℕ → Step
put_post t p op sub a = with_post t p λ q. instr op sub a q

-- a Post behind a branch, nothing for the identity
unfoldable pub post_instr : List ℕ → ℕ → Step
post_instr t p = either (is_identity (post_bits t p)) flushed (put_post t p O.POST 0 0)

-- the place of the next instruction, counted from the segment's start
abbrev pub place : State → ℕ
place s = s.code.top - s.code.base

-- an instruction whose target is not known yet, and its place
unfoldable pub emit_jump : ℕ → ℕ → ℕ → Held → Found
emit_jump op sub b h =
    let g = flushed h in
    let r = emitted (front op sub b) 0 g in
    (record { state = r.0; index = place g.0 }, r.1)

abbrev pub with_jump : ℕ → ℕ → ℕ → (ℕ → Step) → Step
with_jump op sub b f h = going (emit_jump op sub b h) f

-- its target is the next instruction
unfoldable pub place_target : ℕ → Step
place_target at h = (h.0, targeted h.0 at (place h.0) h.1)

-- Break and Continue wait for their loop; Halt where none is open
unfoldable pub jump_out : ℕ → Bool → Step
jump_out waits looping = either looping (put waits 0) (instr O.HALT 0 0 0)

-- the Breaks and Continues from a place of the open segment on lead to these places of it
abbrev pub resolve_breaks : ℕ → ℕ → ℕ → Step
resolve_breaks at check cleanup h = (h.0, breaks_resolved h.0 at check cleanup h.1)

-- behind a loop's body: its Breaks and Continues, LoopCheck, LoopEnd, and the target of LoopBegin
unfoldable pub loop_closed : ℕ → Step
loop_closed at h =
    let check = place h.0 in
    (do
      resolve_breaks (one_more at) check (check + 1)
      instr O.LOOP_CHECK 0 (at + 1) 0
      instr O.LOOP_END 0 0 0
      place_target at) h

-- behind a ForEach's body: its Breaks and Continues, the Jump back, the target of EachNext, LoopEnd, and the target of EachBegin
unfoldable pub each_closed : ℕ → ℕ → Step
each_closed begin next h =
    let back = place h.0 in
    (do
      resolve_breaks (one_more next) next (back + 1)
      instr O.JUMP 0 next 0
      place_target next
      instr O.LOOP_END 0 0 0
      place_target begin) h

-- 01, The program image: "in EachNextVar and EachNextTemp, A is the exit and B the variable"
unfoldable pub each_next : VariableIdx → Held → Found
each_next (Name n) = emit_jump O.EACH_NEXT_VAR 0 n.0
each_next (Temp n) = emit_jump O.EACH_NEXT_TEMP 0 n.0

-- the step with the index of a variable or a temp, or the other where there is none
abbrev pub where_found : Option VariableIdx → Step → (VariableIdx → Step) → Step
where_found None other f h = other h
where_found (Some i) other f h = f i h

abbrev pub set_listed : Listed → State → State
set_listed x s = record s { listed = x }

-- a call takes its number, and places for its arguments' starts
unfoldable pub call_begun : ℕ → ℕ → ℕ → Held → Found
call_begun index impl count h =
    let k = h.0.listed.calls in
    let first = h.0.listed.arguments in (
      record { state = set_listed (record h.0.listed { calls = appended_count k CALLS_ROOM; arguments = sum first count }) h.0; index = k },
      appended_words k CALLS_ROOM h.1 (CALLS + 4 * k) (index ∷ impl ∷ count ∷ first ∷ []),
    )

abbrev pub with_call : ℕ → ℕ → ℕ → (ℕ → Step) → Step
with_call index impl count f h = going (call_begun index impl count h) f

-- the segment of the argument at that place is finished: its End, its start, and the caller's segment is open again
-- a Break or Continue that no loop has resolved leads to the start
unfoldable pub argument_closed : ℕ → Bool → ℕ → Step
argument_closed base waiting slot h =
    let g = instr O.END 0 0 0 h in
    let r = closed base waiting (resolve_breaks 0 0 0 g) in
    (r.0, cond (ltb slot ARGUMENTS_ROOM) (set r.1 (ARGUMENTS + slot) g.0.code.finished) r.1)

-- a hash of a path
unfoldable pub path_added : ℕ → Step
path_added v h =
    let n = h.0.listed.paths in
    (set_listed (record h.0.listed { paths = appended_count n PATHS_ROOM }) h.0, appended_words n PATHS_ROOM h.1 (PATHS + 2 * n) (high v ∷ low v ∷ []))

-- a store: its root's kind and index, the first entry of its path, their count
unfoldable pub store_added : ℕ → ℕ → ℕ → ℕ → Held → Found
store_added kind index first count h =
    let n = h.0.listed.stores in (
      record { state = set_listed (record h.0.listed { stores = appended_count n STORES_ROOM }) h.0; index = n },
      appended_words n STORES_ROOM h.1 (STORES + 4 * n) (kind ∷ index ∷ first ∷ count ∷ []),
    )
