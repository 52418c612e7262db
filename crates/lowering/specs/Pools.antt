-- What interning makes of the builder's state and the workspace's words, and the entry's index. Definitions only.
use Rattle.std.specs.Prelude.{cond, List, [], ◌∷◌, ℕ, ◌+◌, ◌-◌, ◌*◌, ◌%◌, take}
use Rattle.workspace.specs.Layout.{CONSTS, CONSTS_ROOM, POSTS, POSTS_ROOM, HASHES, HASHES_ROOM, NAMES, NAMES_ROOM, TEMPS, TEMPS_ROOM, MEMBERS, MEMBERS_ROOM}
use Rattle.workspace.specs.Words.{high, low}
use Rattle.workspace.specs.Counts.{one_more}
use Rattle.workspace.specs.declared.counts.Pools.{Pools}
use Rattle.numeric.specs.Post.{Post, is_identity}
use Rattle.program.specs.Kinds.{USES_TEMPS}
use Rattle.lowering.specs.Search.{hit}
use Rattle.lowering.specs.Regions.{interned_index, interned_count, interned_words}
use Rattle.payload.specs.declared.NameRef.{NameRef}
use Rattle.lowering.specs.Held.{State, Held}
use Rattle.builder.specs.Steps.{put_const}
use Rattle.lowering.specs.Steps.{flagged}

-- a state with an index
pub record Entry : Type 0 where
  pub state : State
  pub index : ℕ

-- the state with the entry's index, and the words
abbrev pub Found : Type 0
Found = Entry × List ℕ

abbrev pub set_pools : Pools → State → State
set_pools x s = record s { pools = x }

-- a pool in its region: its count, where it begins, the entries that it has room for, the words of each, and how many of them are the key
pub record Pool : Type 0 where
  pub count : Pools → ℕ
  pub set_count : ℕ → Pools → Pools
  pub from : ℕ
  pub room : ℕ
  pub width : ℕ
  pub key : ℕ

-- the entry of these words' key, found or appended
abbrev pub interned : Pool → List ℕ → Held → Found
interned pool entry h =
    let n = pool.count h.0.pools in
    let k = interned_index (hit h.1 pool.from pool.width (take pool.key entry)) n in (
      record { state = set_pools (pool.set_count (interned_count k n pool.room) h.0.pools) h.0; index = k },
      interned_words k n pool.room h.1 (pool.from + pool.width * n) entry,
    )

-- the mark behind a constant's bits where all places with these bits share the entry, as they all do
abbrev pub SHARED : ℕ
SHARED = 0

-- 01, Modules, pools.rs: "consts by bits", and by the mark behind them
abbrev pub const_pool : Pool
const_pool = record { count = λ p. p.consts; set_count = λ n p. record p { consts = n }; from = CONSTS; room = CONSTS_ROOM; width = 2; key = 2 }

-- "posts by both bit patterns"
abbrev pub post_pool : Pool
post_pool = record { count = λ p. p.posts; set_count = λ n p. record p { posts = n }; from = POSTS; room = POSTS_ROOM; width = 2; key = 2 }

abbrev pub hash_pool : Pool
hash_pool = record { count = λ p. p.hashes; set_count = λ n p. record p { hashes = n }; from = HASHES; room = HASHES_ROOM; width = 2; key = 2 }

-- "names by hash (first text stays)"
abbrev pub name_pool : Pool
name_pool = record { count = λ p. p.names; set_count = λ n p. record p { names = n }; from = NAMES; room = NAMES_ROOM; width = 3; key = 2 }

-- a temp slot is its name's index
abbrev pub slot_pool : Pool
slot_pool = record { count = λ p. p.temps; set_count = λ n p. record p { temps = n }; from = TEMPS; room = TEMPS_ROOM; width = 1; key = 1 }

-- "members by (own, outermost) hashes"
abbrev pub member_pool : Pool
member_pool = record { count = λ p. p.members; set_count = λ n p. record p { members = n }; from = MEMBERS; room = MEMBERS_ROOM; width = 6; key = 4 }

-- a text is kept as the place of its length byte in the tree image
abbrev pub text_place : ℕ → ℕ
text_place at = (at - 1) % 4294967296

unfoldable pub konst : ℕ → Held → Found
konst bits = interned const_pool (bits ∷ SHARED ∷ [])

unfoldable pub hash : ℕ → Held → Found
hash v = interned hash_pool (high v ∷ low v ∷ [])

unfoldable pub name : NameRef → Held → Found
name v = interned name_pool (high v.hash ∷ low v.hash ∷ text_place v.at ∷ [])

unfoldable pub member : NameRef → NameRef → Held → Found
member v l = interned member_pool (high v.hash ∷ low v.hash ∷ high l.hash ∷ low l.hash ∷ text_place v.at ∷ text_place l.at ∷ [])

unfoldable pub slot : ℕ → Held → Found
slot named = interned slot_pool (named ∷ [])

-- a temp goes to names first, then to temps; USES_TEMPS
unfoldable pub temp : NameRef → Held → Found
temp v h =
    let e = name v h in
    slot e.0.index (flagged USES_TEMPS e.0.state, e.1)

-- the identity is post 0 and is not looked up, the pool's come behind it
abbrev pub behind_identity : Found → Found
behind_identity e = (record { state = e.0.state; index = one_more e.0.index }, e.1)

unfoldable pub post : Post → Held → Found
post v h = cond (is_identity v) (record { state = h.0; index = 0 }, h.1) (behind_identity (interned post_pool (v.scale ∷ v.offset ∷ []) h))

unfoldable pub constant : ℕ → Held → Held
constant bits h = let e = konst bits h in put_const e.0.index (e.0.state, e.1)
