-- The regions of the lent workspace, one behind the other: the word at which each begins, and the entries it has room for. Definitions only; the names and
-- numbers of src/layout.rt.
use Rattle.std.specs.Prelude.{ℕ}

-- the open code: instructions of 2 words
abbrev pub OPEN : ℕ
OPEN = 0

-- the finished argument code: instructions of 2 words
abbrev pub FINISHED : ℕ
FINISHED = 4096

-- the instructions that each of these two has room for
abbrev pub CODE_ROOM : ℕ
CODE_ROOM = 2048

-- constants: 2 words, bits and mark
abbrev pub CONSTS : ℕ
CONSTS = 8192

abbrev pub CONSTS_ROOM : ℕ
CONSTS_ROOM = 384

-- posts but slot 0: 2 words, scale and offset
abbrev pub POSTS : ℕ
POSTS = 8960

abbrev pub POSTS_ROOM : ℕ
POSTS_ROOM = 384

-- hashes: 2 words, high and low
abbrev pub HASHES : ℕ
HASHES = 9728

abbrev pub HASHES_ROOM : ℕ
HASHES_ROOM = 384

-- names: 3 words, the hash's two and the place of the text's length byte in the tree image
abbrev pub NAMES : ℕ
NAMES = 10496

abbrev pub NAMES_ROOM : ℕ
NAMES_ROOM = 256

-- temps: 1 word, the name's index
abbrev pub TEMPS : ℕ
TEMPS = 11264

abbrev pub TEMPS_ROOM : ℕ
TEMPS_ROOM = 256

-- members: 6 words, the own hash's two, the last hash's two, and the places of both texts' length bytes
abbrev pub MEMBERS : ℕ
MEMBERS = 11520

abbrev pub MEMBERS_ROOM : ℕ
MEMBERS_ROOM = 256

-- stores: 4 words, the root's kind, its index, the first path entry and their count
abbrev pub STORES : ℕ
STORES = 13056

abbrev pub STORES_ROOM : ℕ
STORES_ROOM = 192

-- the stores' paths: 2 words, a hash
abbrev pub PATHS : ℕ
PATHS = 13824

abbrev pub PATHS_ROOM : ℕ
PATHS_ROOM = 256

-- calls: 4 words, the index, impl_idx, the argument count and the first argument
abbrev pub CALLS : ℕ
CALLS = 14336

abbrev pub CALLS_ROOM : ℕ
CALLS_ROOM = 384

-- the calls' arguments: 1 word, the start, counted from the start of the argument code
abbrev pub ARGUMENTS : ℕ
ARGUMENTS = 15872

abbrev pub ARGUMENTS_ROOM : ℕ
ARGUMENTS_ROOM = 384

-- 01, Nine questions, 1: "Has the workspace 16,384 words or more?"
abbrev pub WORDS : ℕ
WORDS = 16384
