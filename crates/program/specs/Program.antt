-- A program: its nine sections and its closing fields, and what stands at an index. Definitions only.
use Rattle.std.specs.Prelude.{Bool, List, [], ℕ, get_or}
use Rattle.numeric.specs.Post.{Post, identity}
use Rattle.ast.specs.Tree.{Name}
use Rattle.program.specs.Instruction.{Instruction, halt}
use Rattle.program.specs.Counts.{Counts}

-- 01, The program image: "members (hash 8, text, report, both with their dot)"
pub record MemberEntry : Type 0 where
  pub hash : ℕ
  pub text : List ℕ
  pub report : List ℕ

-- 01, The program image: "stores (root 0 Var, 1 Temp, 2 Other; ..)": a name's index, a temp's, or none; in an event their hashes
pub data StoreRoot : Type 0 where
  root_var root_temp : ℕ → StoreRoot
  root_other : StoreRoot

pub record MemberStore : Type 0 where
  pub root : StoreRoot
  pub path : List ℕ

-- 01, The program image: "calls (index 2, impl_idx 1, argument count 2, starts 4 each)"
pub record QueryCall : Type 0 where
  pub index : ℕ
  pub impl : ℕ
  pub starts : List ℕ

pub record Program : Type 0 where
  pub code : List Instruction
  pub consts : List ℕ
  pub posts : List Post
  pub hashes : List ℕ
  pub names : List Name
  pub temps : List ℕ
  pub members : List MemberEntry
  pub stores : List MemberStore
  pub calls : List QueryCall
  pub depths : Counts
  pub flags : ℕ
  pub float_loop : Bool

-- what stands at an index; of a name and a member its own hash
unfoldable pub code_at : Program → ℕ → Instruction
code_at P n = get_or P.code n halt

unfoldable pub const_at : Program → ℕ → ℕ
const_at P n = get_or P.consts n 0

unfoldable pub post_at : Program → ℕ → Post
post_at P n = get_or P.posts n identity

unfoldable pub hash_at : Program → ℕ → ℕ
hash_at P n = get_or P.hashes n 0

unfoldable pub name_at : Program → ℕ → ℕ
name_at P n = (get_or P.names n (record { hash = 0; text = [] })).hash

-- a temp slot's name index
unfoldable pub slot_at : Program → ℕ → ℕ
slot_at P n = get_or P.temps n 0

unfoldable pub member_at : Program → ℕ → ℕ
member_at P n = (get_or P.members n (record { hash = 0; text = []; report = [] })).hash

unfoldable pub store_at : Program → ℕ → MemberStore
store_at P n = get_or P.stores n (record { root = root_other; path = [] })

unfoldable pub call_at : Program → ℕ → QueryCall
call_at P k = get_or P.calls k (record { index = 0; impl = 0; starts = [] })

unfoldable pub start_at : Program → ℕ → ℕ → ℕ
start_at P k j = get_or (call_at P k).starts j 0
