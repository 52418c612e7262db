-- What the builder's state and the workspace's words stand for: the state of the lowering. Definitions of the proof; nothing here is to be believed.
use Rattle.std.proofs.Common.{◌≡◌, Bool, false, List, [], ◌∷◌, ◌++◌, ℕ, zero, suc, ◌+◌, ◌*◌, ◌/◌, ◌%◌, ◌≤◌, ◌<◌, length, get_or}
use Rattle.answers.specs.Refusals.{number_of_first}
use mathlib.Core.Option.{Option, some, none}
use Rattle.ast.specs.Tree.{Name}
use Rattle.numeric.specs.Post.{Post}
use Rattle.program.specs.Instruction.{Instruction}
use Rattle.program.specs.Counts.{Counts, all, EachCount, AtMost}
use Rattle.program.specs.Depths.{counts_of}
use Rattle.program.specs.Program.{MemberStore}
use Rattle.program.specs.Image.{word_of}
use Rattle.depth.specs.declared.Depth.{Depth}
use Rattle.semantics.specs.Positions.{past}
use Rattle.semantics.specs.Regions.{path_entries}
use Rattle.semantics.specs.State.{Item, instr, to_cleanup, to_check, CallInfo, MemberRead, Pools, Flags, State}
use Rattle.semantics.specs.Pieces as P
use Rattle.semantics.specs.Pieces.{Lowering}
use Rattle.semantics.specs.Link.{place_segments, member_entry, offsets_of}
use Rattle.code.specs.Segments.{BREAK, CONTINUE}
use Rattle.workspace.specs.Layout.{OPEN, FINISHED, STORES, CALLS, ARGUMENTS}
use Rattle.card.specs.Holds.{PostIs, HashIs, NameIs, MemberIs, StoreIs}
use Rattle.workspace.specs.declared.counts.Pools as N
use Rattle.workspace.specs.declared.counts.Listed.{Listed}
use Rattle.builder.specs.declared.OpenCode.{OpenCode}
use Rattle.program.specs.declared.Flags as F
use Rattle.lowering.specs.Held.{Held}
use Rattle.lowering.specs.Pools as B
use Rattle.lowering.specs.Pools.{SHARED, Found}
use Rattle.lowering.specs.Parts.{Step, front}
use Rattle.representation.proofs.Rows.{Rows}

-- ---- entries in words

abbrev pub instruction_front : Instruction → ℕ
instruction_front i = front (word_of i).opcode (word_of i).sub (word_of i).b

abbrev pub front_of : Item → ℕ
front_of (instr i) = instruction_front i
front_of to_cleanup = BREAK
front_of to_check = CONTINUE

abbrev pub back_of : Item → ℕ
back_of (instr i) = (word_of i).a
back_of to_cleanup = 0
back_of to_check = 0

-- an item of open code; an instruction of finished code; second words are held as far as 32 bits go
abbrev pub ItemAt : List ℕ → ℕ → Item → Type 0
ItemAt ws p x = (get_or ws p 0 ≡ front_of x) × (get_or ws (p + 1) 0 % 4294967296 ≡ back_of x % 4294967296)

abbrev pub InstructionAt : List ℕ → ℕ → Instruction → Type 0
InstructionAt ws p i = (get_or ws p 0 ≡ instruction_front i) × (get_or ws (p + 1) 0 % 4294967296 ≡ (word_of i).a % 4294967296)

abbrev pub WordAt : List ℕ → ℕ → ℕ → Type 0
WordAt ws p v = get_or ws p 0 ≡ v

-- a constant: its bits and the mark
abbrev pub ConstIs : List ℕ → ℕ → ℕ → Type 0
ConstIs ws p v = (get_or ws p 0 ≡ v) × (get_or ws (p + 1) 0 ≡ SHARED)

-- a member, with the words of the last one's hash, which are part of its key
abbrev pub MemberAt : List ℕ → List ℕ → ℕ → MemberRead → Type 0
MemberAt tree ws p r = MemberIs tree ws p (member_entry r) × (get_or ws (p + 2) 0 ≡ r.last.hash / 4294967296) × (get_or ws (p + 3) 0 ≡ r.last.hash % 4294967296)

-- a store; its path lies before the first free place
abbrev pub StoreAt : ℕ → List ℕ → ℕ → MemberStore → Type 0
StoreAt paths ws p s = StoreIs ws p s × (get_or ws (p + 2) 0 + length s.path ≤ paths)

-- how many argument places a call has, and the first
abbrev pub places : List ℕ → ℕ → ℕ
places ws p = get_or ws (p + 2) 0

abbrev pub first_place : List ℕ → ℕ → ℕ
first_place ws p = get_or ws (p + 3) 0

-- the starts of a call's arguments, when they are known
abbrev pub Filled : List ℕ → ℕ → Option (List ℕ) → Type 0
Filled ws p none = Unit {0}
Filled ws p (some o) = (places ws p ≡ length o) × Rows 1 (WordAt ws) (ARGUMENTS + first_place ws p) o

-- calls one behind the other; their argument places follow one another from lo on and end at hi or before
abbrev pub CallsFrom : List ℕ → ℕ → ℕ → ℕ → List CallInfo → Type 0
CallsFrom ws hi p lo [] = lo ≤ hi
CallsFrom ws hi p lo (i ∷ is) =
    (get_or ws p 0 ≡ i.index) × (get_or ws (p + 1) 0 ≡ i.impl) × Filled ws p i.offsets × (lo ≤ first_place ws p) × CallsFrom ws hi (p + 4) (first_place ws p + places ws p) is

-- a call whose arguments are being lowered: its number, its first argument place, how many it has, the starts so far
pub record OpenCall : Type 0 where
  pub number : ℕ
  pub first : ℕ
  pub reserved : ℕ
  pub starts : List ℕ

-- the call of that number has no starts yet
abbrev pub Pending : ℕ → List CallInfo → Type 0
Pending k [] = ⊥
Pending zero (i ∷ is) = i.offsets ≡ none
Pending (suc k) (i ∷ is) = Pending k is

pub record OpenCallAt (ws : List ℕ) (is : List CallInfo) (o : OpenCall) : Type 0 where
  pub waits : Pending o.number is
  pub first_is : first_place ws (CALLS + 4 * o.number) ≡ o.first
  pub reserved_is : places ws (CALLS + 4 * o.number) ≡ o.reserved
  pub fit : length o.starts ≤ o.reserved
  pub starts_are : Rows 1 (WordAt ws) (ARGUMENTS + first_place ws (CALLS + 4 * o.number)) o.starts

-- the innermost first, each of a lower number
abbrev pub OpenCalls : List ℕ → List CallInfo → ℕ → List OpenCall → Type 0
OpenCalls ws is bound [] = Unit {0}
OpenCalls ws is bound (o ∷ os) = (o.number < bound) × OpenCallAt ws is o × OpenCalls ws is o.number os

abbrev pub reserved_by : List OpenCall → ℕ
reserved_by [] = 0
reserved_by (o ∷ os) = o.reserved + reserved_by os

abbrev pub filled : List CallInfo → ℕ
filled [] = 0
filled (i ∷ is) = length (offsets_of i.offsets) + filled is

-- ---- the state of the lowering: the code of the outer open segments, the open one's, whether a Push waits, the open calls, pools and the rest

pub record Abs : Type 0 where
  pub outer : List Item
  pub code : List Item
  pub wait : Bool
  pub open_calls : List OpenCall
  pub state : State

-- the finished code: all closed segments, with targets counted from its start
abbrev pub finished_code : Pools → List Instruction
finished_code P = place_segments P.segments 0

-- each region has room for what is in it, and no counter is full; over values, so that a step that changes none of them leaves it as it is
pub record Room (in_code in_consts in_posts in_hashes in_names in_temps in_members in_stores in_paths in_calls in_arguments : ℕ) (in_counts : Counts) : Type 0 where
  pub code : in_code ≤ 2048
  pub consts : in_consts ≤ 384
  pub posts : in_posts ≤ 384
  pub hashes : in_hashes ≤ 384
  pub names : in_names ≤ 256
  pub temps : in_temps ≤ 256
  pub members : in_members ≤ 256
  pub stores : in_stores ≤ 192
  pub paths : in_paths ≤ 256
  pub calls : in_calls ≤ 384
  pub arguments : in_arguments ≤ 384
  pub counts : AtMost in_counts (all 65535)

abbrev pub Fits : Abs → Type 0
Fits A =
    let P = A.state.pools in
    Room (length A.outer + length A.code + length (finished_code P)) (length P.consts) (length P.posts) (length P.hashes) (length P.names) (length P.temps) (length P.members)
    (length P.stores) (path_entries P.stores) (length P.calls) (reserved_by A.open_calls + filled P.calls) A.state.deepest

-- n entries of w words from o on are xs
pub record Table {X : Type 0} (w : ℕ) (Q : ℕ → X → Type 0) (o n : ℕ) (xs : List X) : Type 0 where
  pub count : n ≡ length xs
  pub rows : Rows w Q o xs

-- the regions, by how much of each is in use: open and finished code, and whether a Push waits
pub record CodeHeld (ws : List ℕ) (s : OpenCode) (outer code : List Item) (wait : Bool) (closed : List Instruction) : Type 0 where
  pub open_base : s.base ≡ length outer
  pub open_code : Table 2 (ItemAt ws) OPEN s.top (outer ++ code)
  pub the_finished_code : Table 2 (InstructionAt ws) FINISHED s.finished closed
  pub waiting_is : s.waiting ≡ wait

-- ---- the pools that are interned

pub data Pooled : Type 0 where
  consts posts hashes names temps members : Pooled

-- a pool's region, its list with its keys, and what words say of an entry
pub record Row (tree : List ℕ) : Type 1 where
  pub Entry : Type 0
  pub Key : Type 0
  pub region : B.Pool
  pub pool : P.Pool Entry Key
  pub At : List ℕ → ℕ → Entry → Type 0

abbrev pub row : (tree : List ℕ) → Pooled → Row tree
row tree consts = record { Entry = ℕ; Key = ℕ; region = B.const_pool; pool = P.const_pool; At = ConstIs }
row tree posts = record { Entry = Post; Key = ℕ × ℕ; region = B.post_pool; pool = P.post_pool; At = PostIs }
row tree hashes = record { Entry = ℕ; Key = ℕ; region = B.hash_pool; pool = P.hash_pool; At = HashIs }
row tree names = record { Entry = Name; Key = ℕ; region = B.name_pool; pool = P.name_pool; At = NameIs tree }
row tree temps = record { Entry = ℕ; Key = ℕ; region = B.slot_pool; pool = P.slot_pool; At = WordAt }
row tree members = record { Entry = MemberRead; Key = ℕ × ℕ; region = B.member_pool; pool = P.member_pool; At = MemberAt tree }

-- n entries of a pool's region are its list
abbrev pub TableOf : (tree ws : List ℕ) (i : Pooled) → ℕ → List (row tree i).Entry → Type 0
TableOf tree ws i n xs = let r = row tree i in Table r.region.width (r.At ws) r.region.from n xs

module _ (tree ws : List ℕ) (n : N.Pools) (Q : Pools) where
  abbrev pub PoolHeld : Pooled → Type 0
  PoolHeld i = TableOf tree ws i ((row tree i).region.count n) ((row tree i).pool.get Q)

  -- a product, so that a step that changes none of the lists leaves it as it is
  abbrev pub PoolsHeld : Type 0
  PoolsHeld = PoolHeld consts × PoolHeld posts × PoolHeld hashes × PoolHeld names × PoolHeld temps × PoolHeld members

  abbrev pub pool_held : PoolsHeld → (i : Pooled) → PoolHeld i
  pool_held h consts = h.0
  pool_held h posts = h.1
  pool_held h hashes = h.2
  pool_held h names = h.3
  pool_held h temps = h.4
  pool_held h members = h.5

  abbrev pub all_held : ((i : Pooled) → PoolHeld i) → PoolsHeld
  all_held h = (h consts, h posts, h hashes, h names, h temps, h members)

-- ---- the other regions

pub record StoresHeld (ws : List ℕ) (stores paths : ℕ) (xs : List MemberStore) : Type 0 where
  pub the_stores : Table 4 (StoreAt paths ws) STORES stores xs
  pub path_count : paths ≡ path_entries xs

pub record CallsHeld (ws : List ℕ) (calls arguments : ℕ) (is : List CallInfo) (os : List OpenCall) : Type 0 where
  pub call_count : calls ≡ length is
  pub the_calls : CallsFrom ws arguments CALLS 0 is
  pub the_open : OpenCalls ws is calls os
  pub argument_count : arguments ≡ reserved_by os + filled is

pub record Tables (tree ws : List ℕ) (n : N.Pools) (l : Listed) (s : OpenCode) (outer code : List Item) (wait : Bool) (open_calls : List OpenCall) (P : Pools) : Type 0 where
  pub code_held : CodeHeld ws s outer code wait (finished_code P)
  pub pools_held : PoolsHeld tree ws n P
  pub stores_held : StoresHeld ws l.stores l.paths P.stores
  pub calls_held : CallsHeld ws l.calls l.arguments P.calls open_calls

-- the builder's counters, now and at their deepest, where c is open
pub record Counted (c deepest : Counts) (d : Depth) : Type 0 where
  pub open_are : EachCount (λ m n. m ≡ n) (counts_of d.now) c
  pub most_are : EachCount (λ m n. m ≡ n) (counts_of d.max) deepest
  pub within : AtMost c deepest

-- what stands beside the words; it is over values, so that a step on the words leaves it as it is
pub record Beside (c : Counts) (depth : Depth) (held : F.Flags) (number : ℕ) (deepest : Counts) (flags : Flags) (refusal : ℕ) : Type 0 where
  pub counted : Counted c deepest depth
  pub bits_are : held.bits ≡ flags.bits
  pub float_loop_is : held.float_loop ≡ flags.float_loop
  pub number_is : number ≡ refusal

pub record Content (tree : List ℕ) (c : Counts) (h : Held) (A : Abs) : Type 0 where
  pub enough : 16384 ≤ length h.1
  pub beside : Beside c h.0.depth h.0.flags (number_of_first h.0.refusal) A.state.deepest A.state.flags A.state.refusal
  pub tables : Tables tree h.1 h.0.pools h.0.listed h.0.code A.outer A.code A.wait A.open_calls A.state.pools

-- ---- steps

-- G is what F does, from the open counts c to d: what fits afterwards fitted before, and the content follows
pub record Moves (tree : List ℕ) (G : Abs → Abs) (c d : Counts) (F : Step) : Type 0 where
  pub back : (A : Abs) → Fits (G A) → Fits A
  pub keep : (A : Abs) (h : Held) → Fits (G A) → Content tree c h A → Content tree d (F h) (G A)

abbrev pub run : Lowering → Counts → Abs → Abs
run f c A =
    let x = f c A.wait (past A.code 0) A.state in
    record { outer = A.outer; code = A.code ++ x.code; wait = false; open_calls = A.open_calls; state = x.state }

-- F is the lowering f from the open counts c, and leaves d open
pub record Ends (tree : List ℕ) (f : Lowering) (c d : Counts) (F : Step) : Type 0 where
  pub back : (A : Abs) → Fits (run f c A) → Fits A
  pub keep : (A : Abs) (h : Held) → Fits (run f c A) → Content tree c h A → Content tree d (F h) (run f c A)

-- F is the lowering f at the open counts c, and leaves them as they are
abbrev pub Does : List ℕ → Lowering → Counts → Step → Type 0
Does tree f c F = Ends tree f c c F

abbrev pub on_state : (State → State) → Abs → Abs
on_state g A = record { outer = A.outer; code = A.code; wait = A.wait; open_calls = A.open_calls; state = g A.state }

-- E interns: the state becomes g of it, and the index is the one that k gives for the state before
pub record Enters (tree : List ℕ) (g : State → State) (k : State → ℕ) (E : Held → Found) : Type 0 where
  pub back : (A : Abs) → Fits (on_state g A) → Fits A
  pub index : (c : Counts) (A : Abs) (h : Held) → Fits (on_state g A) → Content tree c h A → (E h).0.index ≡ k A.state
  pub keep : (c : Counts) (A : Abs) (h : Held) → Fits (on_state g A) → Content tree c h A → Content tree c ((E h).0.state, (E h).1) (on_state g A)
