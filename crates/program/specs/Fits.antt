-- What fits its fields: the numbers, texts and counts of a program. Definitions only, for the proofs.
use Rattle.std.specs.Prelude.{List, [], ◌∷◌, ℕ, ◌^◌, ◌<◌, length}
use Rattle.numeric.specs.Post.{Post}
use Rattle.ast.specs.Tree.{Name}
use Rattle.program.specs.Instruction.{Instruction}
use Rattle.program.specs.Counts.{Counts, numbers}
use Rattle.program.specs.Program.{MemberEntry, StoreRoot, root_var, root_temp, root_other, MemberStore, QueryCall, Program}
use Rattle.program.specs.Image.{word_of}

-- v fits k bytes
abbrev pub Below : ℕ → ℕ → Type 0
Below k v = v < 256 ^ k

abbrev pub Every : {A : Type 0} → (A → Type 0) → List A → Type 0
Every Q [] = Unit {0}
Every Q (a ∷ xs) = Q a × Every Q xs

-- the count fits k bytes, and every entry its own
pub record Listed {A : Type 0} (Q : A → Type 0) (k : ℕ) (xs : List A) : Type 0 where
  pub short : length xs < 256 ^ k
  pub each : Every Q xs

pub record FitInstruction (i : Instruction) : Type 0 where
  pub opcode : Below 1 (word_of i).opcode
  pub sub : Below 1 (word_of i).sub
  pub a : Below 4 (word_of i).a
  pub b : Below 2 (word_of i).b

pub record FitPost (p : Post) : Type 0 where
  pub scale : Below 4 p.scale
  pub offset : Below 4 p.offset

pub record FitName (n : Name) : Type 0 where
  pub hash : Below 8 n.hash
  pub text : Listed (Below 1) 2 n.text

pub record FitMember (m : MemberEntry) : Type 0 where
  pub hash : Below 8 m.hash
  pub text : Listed (Below 1) 2 m.text
  pub report : Listed (Below 1) 2 m.report

unfoldable pub root_index : StoreRoot → ℕ
root_index (root_var n) = n
root_index (root_temp n) = n
root_index root_other = 0

pub record FitStore (s : MemberStore) : Type 0 where
  pub root : Below 2 (root_index s.root)
  pub path : Listed (Below 8) 2 s.path

pub record FitCall (c : QueryCall) : Type 0 where
  pub index : Below 2 c.index
  pub impl : Below 1 c.impl
  pub starts : Listed (Below 4) 2 c.starts

abbrev pub FitCounts : Counts → Type 0
FitCounts d = Every (Below 2) (numbers d)

pub record FitProgram (P : Program) : Type 0 where
  pub code : Listed FitInstruction 4 P.code
  pub consts : Listed (Below 4) 4 P.consts
  pub posts : Listed FitPost 4 P.posts
  pub hashes : Listed (Below 8) 4 P.hashes
  pub names : Listed FitName 4 P.names
  pub temps : Listed (Below 2) 4 P.temps
  pub members : Listed FitMember 4 P.members
  pub stores : Listed FitStore 4 P.stores
  pub calls : Listed FitCall 4 P.calls
  pub depths : FitCounts P.depths
  pub flags : Below 2 P.flags
