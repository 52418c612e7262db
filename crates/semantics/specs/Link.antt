-- From a lowered tree to its program (the main code, then the segments, every target moved by its segment's start),
-- and from the bytes of a tree image to its refusal or its program image. Definitions only.
use Rattle.std.specs.Prelude.{false, cond, List, [], ◌∷◌, ◌++◌, map, ℕ, length}
use Rattle.std.proofs.Math.Option.{Option, some, none}
use Rattle.numeric.specs.Post.{identity}
use Rattle.ast.specs.Header.{Settings, settings}
use Rattle.ast.specs.Tree.{Tree}
use Rattle.ast.specs.Node.{parse}
use Rattle.ast.specs.Questions.{questions}
use Rattle.program.specs.Kinds.{in_float_loop}
use Rattle.program.specs.Instruction as I
use Rattle.program.specs.Instruction.{Instruction}
use Rattle.program.specs.Program.{MemberEntry, QueryCall, Program}
use Rattle.program.specs.Image.{image}
use Rattle.semantics.specs.Positions.{◌⊕◌, past}
use Rattle.semantics.specs.Run.{nothing_open}
use Rattle.semantics.specs.State.{Item, instr, to_cleanup, to_check, CallInfo, MemberRead, Flags, not_float_only, State, empty, first}
use Rattle.semantics.specs.Pieces.{Lowered, put, ◌⨾◌}
use Rattle.semantics.specs.Lowering.{lower}

unfoldable pub relocate : ℕ → Instruction → Instruction
relocate b (I.plain i) = I.plain i
relocate b (I.taking i) = I.taking i
relocate b (I.reading i) = I.reading i
relocate b (I.guard g t) = I.guard g (b ⊕ t)
relocate b I.push = I.push
relocate b I.loop_end = I.loop_end
relocate b I.halt = I.halt
relocate b I.end = I.end
relocate b (I.push_const c) = I.push_const c
relocate b (I.jump t) = I.jump (b ⊕ t)
relocate b (I.handler_push t) = I.handler_push (b ⊕ t)
relocate b (I.handler_pop t) = I.handler_pop (b ⊕ t)
relocate b (I.loop_begin t) = I.loop_begin (b ⊕ t)
relocate b (I.loop_check t) = I.loop_check (b ⊕ t)
relocate b (I.each_begin t) = I.each_begin (b ⊕ t)
relocate b (I.return p) = I.return p
relocate b (I.each_next i t) = I.each_next i (b ⊕ t)
relocate b (I.call k p) = I.call k p

-- an item of the segment that starts at b; no Break or Continue waits any more when a segment is complete, its loop has aimed it
unfoldable pub settle : ℕ → ℕ → ℕ → Item → Instruction
settle b check_at cleanup_at (instr i) = relocate b i
settle b check_at cleanup_at to_cleanup = I.jump (b ⊕ cleanup_at)
settle b check_at cleanup_at to_check = I.jump (b ⊕ check_at)

unfoldable pub place_segments : List (List Item) → ℕ → List Instruction
place_segments [] b = []
place_segments (c ∷ cs) b = map (settle b 0 0) c ++ place_segments cs (past c b)

unfoldable pub offsets_of : Option (List ℕ) → List ℕ
offsets_of none = []
offsets_of (some o) = o

unfoldable pub place_call : ℕ → CallInfo → QueryCall
place_call b i = record { index = i.index; impl = i.impl; starts = map (b ⊕◌) (offsets_of i.offsets) }

-- 01, The program image: "members (hash 8, text, report, both with their dot)"
unfoldable pub member_entry : MemberRead → MemberEntry
member_entry r = record { hash = r.own.hash; text = 46 ∷ r.own.text; report = 46 ∷ r.last.text }

-- 01, Modules: "Stack over 16, loops over 4, handlers over 4 or temps over 8 clears FLOAT_ONLY and float_loop."
unfoldable pub final_flags : State → Flags
final_flags s = cond (in_float_loop s.deepest (length s.pools.temps)) s.flags (not_float_only s.flags)

-- the root as an expression, nothing open, and End
unfoldable pub lowered : Settings → Tree → Lowered
lowered S t = ((lower S t).expr false ⨾ put I.end) nothing_open false 0 empty

unfoldable pub link : Lowered → Program
link x =
    let b = past x.code 0 in
    let s = x.state.pools in
    record {
      code = map (settle 0 0 0) x.code ++ place_segments s.segments b;
      consts = s.consts;
      posts = identity ∷ s.posts;
      hashes = s.hashes;
      names = s.names;
      temps = s.temps;
      members = map member_entry s.members;
      stores = s.stores;
      calls = map (place_call b) s.calls;
      depths = x.state.deepest;
      flags = (final_flags x.state).bits;
      float_loop = (final_flags x.state).float_loop;
    }

unfoldable pub program : Settings → Tree → Program
program S t = link (lowered S t)

-- questions 2 to 8: the number of the first that is answered by no, else 0
unfoldable pub refusal_of : List ℕ → ℕ
refusal_of s = first (questions s) (lowered (settings s) (parse s)).state.refusal

-- the program image of a tree image
unfoldable pub program_image : List ℕ → List ℕ
program_image s = image (program (settings s) (parse s))
