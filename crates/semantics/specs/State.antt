-- What the lowering carries: the pools and finished segments, the deepest counts, the flags and the first refusal. Definitions only.
use Rattle.std.specs.Prelude.{Bool, true, false, cond, List, [], ℕ, zero, suc, max}
use Rattle.std.proofs.Math.Option.{Option}
use Rattle.std.specs.Int.Bits.{bit_and, bit_or}
use Rattle.numeric.specs.Post.{Post}
use Rattle.ast.specs.Tree.{Name}
use Rattle.program.specs.Kinds.{FLOAT_ONLY, USES_QUERIES, NOT_FLOAT}
use Rattle.program.specs.Instruction.{Instruction}
use Rattle.program.specs.Counts.{Counts, pairwise}
use Rattle.program.specs.Program.{MemberStore}
use Rattle.semantics.specs.Run.{nothing_open}

-- an instruction of a segment that is being lowered, its targets counted from the segment's start;
-- a Break waits for its loop's LoopEnd, a Continue for its LoopCheck or EachNext
pub data Item : Type 0 where
  instr : Instruction → Item
  to_cleanup to_check : Item

-- a call; its arguments' starts, counted from the end of the main code, are known when they are lowered
pub record CallInfo : Type 0 where
  pub index : ℕ
  pub impl : ℕ
  pub offsets : Option (List ℕ)

-- a member that is read, and the last member of its path
pub record MemberRead : Type 0 where
  pub own : Name
  pub last : Name

-- post slot 0 stands outside its pool
pub record Pools : Type 0 where
  pub consts : List ℕ
  pub posts : List Post
  pub hashes : List ℕ
  pub names : List Name
  pub temps : List ℕ
  pub members : List MemberRead
  pub stores : List MemberStore
  pub calls : List CallInfo
  pub segments : List (List Item)

abbrev pub no_pools : Pools
no_pools = record { consts = []; posts = []; hashes = []; names = []; temps = []; members = []; stores = []; calls = []; segments = [] }

abbrev pub set_consts : List ℕ → Pools → Pools
set_consts x s = record s { consts = x }

abbrev pub set_posts : List Post → Pools → Pools
set_posts x s = record s { posts = x }

abbrev pub set_hashes : List ℕ → Pools → Pools
set_hashes x s = record s { hashes = x }

abbrev pub set_names : List Name → Pools → Pools
set_names x s = record s { names = x }

abbrev pub set_temps : List ℕ → Pools → Pools
set_temps x s = record s { temps = x }

abbrev pub set_members : List MemberRead → Pools → Pools
set_members x s = record s { members = x }

abbrev pub set_stores : List MemberStore → Pools → Pools
set_stores x s = record s { stores = x }

abbrev pub set_calls : List CallInfo → Pools → Pools
set_calls x s = record s { calls = x }

abbrev pub set_segments : List (List Item) → Pools → Pools
set_segments x s = record s { segments = x }

-- 01, The program image: "Flag bits from 0: FLOAT_ONLY, .., USES_RANDOM_OP", and float_loop
pub record Flags : Type 0 where
  pub bits : ℕ
  pub float_loop : Bool

-- FLOAT_ONLY and float_loop are set until something clears them
abbrev pub all_float : Flags
all_float = record { bits = FLOAT_ONLY; float_loop = true }

unfoldable pub sets : ℕ → Flags → Flags
sets k f = record f { bits = bit_or f.bits k }

-- all bits but FLOAT_ONLY stay
unfoldable pub not_float_only : Flags → Flags
not_float_only f = record { bits = bit_and f.bits NOT_FLOAT; float_loop = false }

-- 01, Bench pieces, M4 and M5: a query clears FLOAT_ONLY, and float_loop too if it has arguments
unfoldable pub queried : Bool → Flags → Flags
queried alone f = record { bits = bit_or (bit_and f.bits NOT_FLOAT) USES_QUERIES; float_loop = cond alone f.float_loop false }

pub record State : Type 0 where
  pub pools : Pools
  pub deepest : Counts
  pub flags : Flags
  pub refusal : ℕ

abbrev pub empty : State
empty = record { pools = no_pools; deepest = nothing_open; flags = all_float; refusal = 0 }

abbrev pub set_pools : Pools → State → State
set_pools x s = record s { pools = x }

abbrev pub set_flags : Flags → State → State
set_flags x s = record s { flags = x }

abbrev pub raise : Counts → State → State
raise c s = record s { deepest = pairwise max s.deepest c }

-- 01, Nine questions: "Of 5 to 8 the first met in lowering decides."
unfoldable pub first : ℕ → ℕ → ℕ
first zero n = n
first (suc m) n = suc m

abbrev pub fail : ℕ → State → State
fail n s = record s { refusal = first s.refusal n }
