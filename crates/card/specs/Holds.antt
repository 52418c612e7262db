-- How the lent workspace and the counts of its sections show a program. Definitions only.
use Rattle.std.specs.Prelude.{◌≡◌, List, [], ◌∷◌, ◌++◌, ℕ, ◌+◌, ◌*◌, ◌/◌, ◌%◌, ◌<◌, length, get_or}
use Rattle.numeric.specs.Post.{Post, identity}
use Rattle.ast.specs.Tree.{Name}
use Rattle.program.specs.Instruction.{Instruction, halt}
use Rattle.program.specs.Depths.{counts_of}
use Rattle.program.specs.Program.{MemberEntry, StoreRoot, root_var, root_temp, root_other, MemberStore, QueryCall, Program}
use Rattle.program.specs.Image.{word_of, VAR_ROOT, TEMP_ROOT, OTHER_ROOT}
use Rattle.program.specs.Fits.{root_index}
use Rattle.program.specs.Targets.{shift_of}
use Rattle.workspace.specs.Layout.{OPEN, FINISHED, CONSTS, POSTS, HASHES, NAMES, TEMPS, MEMBERS, STORES, PATHS, CALLS, ARGUMENTS}
use Rattle.card.specs.declared.Sections.{Sections}

-- Q holds of every number and the entry there; d is any value
abbrev pub Each : {A : Type 0} → A → (ℕ → A → Type 0) → List A → Type 0
Each d Q xs = (k : ℕ) → k < length xs → Q k (get_or xs k d)

-- an instruction: its first word at k, its A without the base where A is a target behind it; the sum is one of words
pub record InstructionIs (ws : List ℕ) (base k : ℕ) (i : Instruction) : Type 0 where
  pub first : get_or ws k 0 ≡ (word_of i).opcode * 16777216 + (word_of i).sub * 65536 + (word_of i).b
  pub second : (get_or ws (k + 1) 0 + shift_of (word_of i).opcode base) % 4294967296 ≡ (word_of i).a

-- words from a place on, each with base left out
abbrev pub WordsAre : List ℕ → ℕ → ℕ → List ℕ → Type 0
WordsAre ws from base = Each 0 (λ k v. get_or ws (from + k) 0 + base ≡ v)

-- a post's two words
pub record PostIs (ws : List ℕ) (k : ℕ) (p : Post) : Type 0 where
  pub scale : get_or ws k 0 ≡ p.scale
  pub offset : get_or ws (k + 1) 0 ≡ p.offset

-- a hash's two words
pub record HashIs (ws : List ℕ) (k v : ℕ) : Type 0 where
  pub high : get_or ws k 0 ≡ v / 4294967296
  pub low : get_or ws (k + 1) 0 ≡ v % 4294967296

abbrev pub HashesAre : List ℕ → ℕ → List ℕ → Type 0
HashesAre ws from = Each 0 (λ k v. HashIs ws (from + 2 * k) v)

-- the text whose length byte stands at o of the tree image
pub record TextIs (tree : List ℕ) (o : ℕ) (t : List ℕ) : Type 0 where
  pub count : get_or tree o 0 ≡ length t
  pub letters : Each 0 (λ k b. get_or tree (o + 1 + k) 0 ≡ b) t

pub record NameIs (tree ws : List ℕ) (k : ℕ) (n : Name) : Type 0 where
  pub hash : HashIs ws k n.hash
  pub text : TextIs tree (get_or ws (k + 2) 0) n.text

-- a member's texts stand in the tree image without their dot; the last hash, of words k + 2 and k + 3, is not in the image
pub record MemberIs (tree ws : List ℕ) (k : ℕ) (m : MemberEntry) : Type 0 where
  pub hash : HashIs ws k m.hash
  pub own : List ℕ
  pub last : List ℕ
  pub text : m.text ≡ 46 ∷ own
  pub report : m.report ≡ 46 ∷ last
  pub own_text : TextIs tree (get_or ws (k + 4) 0) own
  pub last_text : TextIs tree (get_or ws (k + 5) 0) last

-- the number of a store's root
unfoldable pub root_kind : StoreRoot → ℕ
root_kind (root_var n) = VAR_ROOT
root_kind (root_temp n) = TEMP_ROOT
root_kind root_other = OTHER_ROOT

pub record StoreIs (ws : List ℕ) (k : ℕ) (s : MemberStore) : Type 0 where
  pub kind : get_or ws k 0 ≡ root_kind s.root
  pub index : get_or ws (k + 1) 0 ≡ root_index s.root
  pub count : get_or ws (k + 3) 0 ≡ length s.path
  pub path : HashesAre ws (PATHS + 2 * get_or ws (k + 2) 0) s.path

pub record CallIs (ws : List ℕ) (base k : ℕ) (q : QueryCall) : Type 0 where
  pub index : get_or ws k 0 ≡ q.index
  pub impl : get_or ws (k + 1) 0 ≡ q.impl
  pub count : get_or ws (k + 2) 0 ≡ length q.starts
  pub starts : WordsAre ws (ARGUMENTS + get_or ws (k + 3) 0) base q.starts

-- the workspace, with its counts and closing fields, holds the program; targets and starts of argument code lack the main code's length
pub record Holds (tree ws : List ℕ) (c : Sections) (P : Program) : Type 0 where
  pub main : List Instruction
  pub finished : List Instruction
  pub code : P.code ≡ main ++ finished
  pub main_count : length main ≡ c.code
  pub main_is : Each halt (λ k i. InstructionIs ws 0 (OPEN + 2 * k) i) main
  pub finished_count : length finished ≡ c.finished
  pub finished_is : Each halt (λ k i. InstructionIs ws c.code (FINISHED + 2 * k) i) finished
  pub consts_count : length P.consts ≡ c.pools.consts
  pub consts : Each 0 (λ k v. get_or ws (CONSTS + 2 * k) 0 ≡ v) P.consts
  pub further : List Post
  pub posts : P.posts ≡ identity ∷ further
  pub posts_count : length further ≡ c.pools.posts
  pub posts_are : Each identity (λ k p. PostIs ws (POSTS + 2 * k) p) further
  pub hashes_count : length P.hashes ≡ c.pools.hashes
  pub hashes : HashesAre ws HASHES P.hashes
  pub names_count : length P.names ≡ c.pools.names
  pub names : Each (record { hash = 0; text = [] }) (λ k n. NameIs tree ws (NAMES + 3 * k) n) P.names
  pub temps_count : length P.temps ≡ c.pools.temps
  pub temps : Each 0 (λ k v. get_or ws (TEMPS + k) 0 ≡ v) P.temps
  pub members_count : length P.members ≡ c.pools.members
  pub members : Each (record { hash = 0; text = []; report = [] }) (λ k m. MemberIs tree ws (MEMBERS + 6 * k) m) P.members
  pub stores_count : length P.stores ≡ c.listed.stores
  pub stores : Each (record { root = root_other; path = [] }) (λ k s. StoreIs ws (STORES + 4 * k) s) P.stores
  pub calls_count : length P.calls ≡ c.listed.calls
  pub calls : Each (record { index = 0; impl = 0; starts = [] }) (λ k q. CallIs ws c.code (CALLS + 4 * k) q) P.calls
  pub depths : counts_of c.depths ≡ P.depths
  pub flags : c.flags.bits ≡ P.flags
  pub float_loop : c.flags.float_loop ≡ P.float_loop
