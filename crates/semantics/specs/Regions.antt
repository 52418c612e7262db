-- What the workspace's regions hold of a program: how many entries each has room for. Definitions only.
use Rattle.std.specs.Prelude.{List, [], ◌∷◌, ℕ, ◌+◌, ◌≤◌, length}
use Rattle.workspace.specs.Layout as W
use Rattle.program.specs.Program.{MemberStore, QueryCall, Program}

-- the entries of all paths, and of all calls' arguments
abbrev pub path_entries : List MemberStore → ℕ
path_entries [] = 0
path_entries (v ∷ vs) = length v.path + path_entries vs

abbrev pub argument_starts : List QueryCall → ℕ
argument_starts [] = 0
argument_starts (v ∷ vs) = length v.starts + argument_starts vs

-- a workspace of 16,384 words has two regions of 2,048 instructions of 2 words, and one for each pool; post slot 0 takes no room
pub record Regions (P : Program) : Type 0 where
  pub code : length P.code ≤ W.CODE_ROOM
  pub consts : length P.consts ≤ W.CONSTS_ROOM
  pub posts : length P.posts ≤ W.POSTS_ROOM + 1
  pub hashes : length P.hashes ≤ W.HASHES_ROOM
  pub names : length P.names ≤ W.NAMES_ROOM
  pub temps : length P.temps ≤ W.TEMPS_ROOM
  pub members : length P.members ≤ W.MEMBERS_ROOM
  pub stores : length P.stores ≤ W.STORES_ROOM
  pub paths : path_entries P.stores ≤ W.PATHS_ROOM
  pub calls : length P.calls ≤ W.CALLS_ROOM
  pub arguments : argument_starts P.calls ≤ W.ARGUMENTS_ROOM
