-- The program image that a workspace, its sections' counts and a tree image stand for, and what is answered and written. Definitions only.
use Rattle.std.specs.Prelude.{List, [], ◌∷◌, ◌++◌, map, cond, ℕ, ◌+◌, ◌*◌, ◌/◌, ◌%◌, length, get_or, drop, leb, Result, Ok, Err}
use Rattle.answers.specs.declared.refusals.Refusal.{Refusal}
use Rattle.answers.specs.declared.refusals.Refusal.TheVariants.{SmallOutput}
use Rattle.wire.specs.Bytes.{be8, be}
use Rattle.numeric.specs.Post.{identity}
use Rattle.program.specs.Image.{bit}
use Rattle.program.specs.Targets.{shift_of}
use Rattle.program.specs.Counts.{numbers}
use Rattle.program.specs.Depths.{counts_of}
use Rattle.workspace.specs.Layout.{OPEN, FINISHED, CONSTS, POSTS, HASHES, NAMES, TEMPS, MEMBERS, STORES, PATHS, CALLS, ARGUMENTS}
use Rattle.workspace.specs.Words.{plus}
use Rattle.card.specs.Written.{cat, joined}
use Rattle.card.specs.declared.Sections.{Sections}

-- a word from a place on, base added; a temp; a text's byte
abbrev pub word_entry : List ℕ → ℕ → ℕ → ℕ → List ℕ
word_entry ws from base k = be 4 (plus (get_or ws (from + k) 0) base) []

abbrev pub half_entry : List ℕ → ℕ → ℕ → List ℕ
half_entry ws from k = be 2 (get_or ws (from + k) 0 % 65536) []

abbrev pub byte_entry : List ℕ → ℕ → ℕ → List ℕ
byte_entry tree from k = be 1 (be8 tree from k) []

-- 01, The program image: "An instruction is 8 bytes: opcode, sub, A (4), B (2)", of the words opcode * 2^24 + sub * 2^16 + B and A
unfoldable pub instruction_bytes : ℕ → ℕ → ℕ → List ℕ
instruction_bytes base w a = be 1 (w / 16777216) [] ++ be 1 (w / 65536 % 256) [] ++ be 4 (plus a (shift_of (w / 16777216) base)) [] ++ be 2 (w % 65536) []

abbrev pub instruction_entry : List ℕ → ℕ → ℕ → ℕ → List ℕ
instruction_entry ws from base k = instruction_bytes base (get_or ws (from + 2 * k) 0) (get_or ws (from + 2 * k + 1) 0)

-- 01, The program image: "consts (4)": the first of a constant's two words
abbrev pub const_entry : List ℕ → ℕ → List ℕ
const_entry ws k = be 4 (get_or ws (CONSTS + 2 * k) 0) []

-- 01, The program image: "A text has a 2-byte length": the tree image's text whose length byte stands at o, as it is and with a dot
unfoldable pub text_bytes : List ℕ → ℕ → List ℕ
text_bytes tree o = be 2 (be8 tree o 0) [] ++ cat (byte_entry tree (o + 1)) (be8 tree o 0)

unfoldable pub dotted_bytes : List ℕ → ℕ → List ℕ
dotted_bytes tree o = be 2 (be8 tree o 0 + 1) [] ++ be 1 46 [] ++ cat (byte_entry tree (o + 1)) (be8 tree o 0)

-- a hash of two words
abbrev pub hash_bytes : List ℕ → ℕ → List ℕ
hash_bytes ws k = be 4 (get_or ws k 0) [] ++ be 4 (get_or ws (k + 1) 0) []

-- 01, The program image: "names (hash 8, text)"
unfoldable pub name_bytes : List ℕ → List ℕ → ℕ → List ℕ
name_bytes tree ws k = hash_bytes ws k ++ text_bytes tree (get_or ws (k + 2) 0)

abbrev pub name_entry : List ℕ → List ℕ → ℕ → List ℕ
name_entry tree ws k = name_bytes tree ws (NAMES + 3 * k)

-- 01, The program image: "members (hash 8, text, report, both with their dot)"
unfoldable pub member_bytes : List ℕ → List ℕ → ℕ → List ℕ
member_bytes tree ws k = hash_bytes ws k ++ dotted_bytes tree (get_or ws (k + 4) 0) ++ dotted_bytes tree (get_or ws (k + 5) 0)

abbrev pub member_entry : List ℕ → List ℕ → ℕ → List ℕ
member_entry tree ws k = member_bytes tree ws (MEMBERS + 6 * k)

-- 01, The program image: "stores (root 0 Var, 1 Temp, 2 Other; index 2, 0 for Other; path count 2; hashes)"
unfoldable pub store_bytes : List ℕ → ℕ → ℕ → ℕ → ℕ → List ℕ
store_bytes ws root index first count =
    be 1 (root % 256) [] ++ be 2 (index % 65536) []
    ++ be 2 (count % 65536) [] ++ cat (word_entry ws (PATHS + 2 * first) 0) (2 * (count % 65536))

abbrev pub store_at : List ℕ → ℕ → List ℕ
store_at ws k = store_bytes ws (get_or ws k 0) (get_or ws (k + 1) 0) (get_or ws (k + 2) 0) (get_or ws (k + 3) 0)

abbrev pub store_entry : List ℕ → ℕ → List ℕ
store_entry ws k = store_at ws (STORES + 4 * k)

-- 01, The program image: "calls (index 2, impl_idx 1, argument count 2, starts 4 each)"
unfoldable pub call_bytes : List ℕ → ℕ → ℕ → ℕ → ℕ → ℕ → List ℕ
call_bytes ws base index impl count first =
    be 2 (index % 65536) [] ++ be 1 (impl % 256) []
    ++ be 2 (count % 65536) [] ++ cat (word_entry ws (ARGUMENTS + first) base) (count % 65536)

abbrev pub call_at : List ℕ → ℕ → ℕ → List ℕ
call_at ws base k = call_bytes ws base (get_or ws k 0) (get_or ws (k + 1) 0) (get_or ws (k + 2) 0) (get_or ws (k + 3) 0)

abbrev pub call_entry : List ℕ → ℕ → ℕ → List ℕ
call_entry ws base k = call_at ws base (CALLS + 4 * k)

-- 01, The program image: "Nine sections, each a 4-byte count and its entries"
unfoldable pub code_section : List ℕ → ℕ → ℕ → List ℕ
code_section ws n m = be 4 (n + m) [] ++ cat (instruction_entry ws OPEN 0) n ++ cat (instruction_entry ws FINISHED n) m

unfoldable pub consts_section : List ℕ → ℕ → List ℕ
consts_section ws n = be 4 n [] ++ cat (const_entry ws) n

unfoldable pub posts_section : List ℕ → ℕ → List ℕ
posts_section ws n = be 4 (n + 1) [] ++ be 4 identity.scale [] ++ be 4 identity.offset [] ++ cat (word_entry ws POSTS 0) (2 * n)

unfoldable pub hashes_section : List ℕ → ℕ → List ℕ
hashes_section ws n = be 4 n [] ++ cat (word_entry ws HASHES 0) (2 * n)

unfoldable pub names_section : List ℕ → List ℕ → ℕ → List ℕ
names_section tree ws n = be 4 n [] ++ cat (name_entry tree ws) n

unfoldable pub temps_section : List ℕ → ℕ → List ℕ
temps_section ws n = be 4 n [] ++ cat (half_entry ws TEMPS) n

unfoldable pub members_section : List ℕ → List ℕ → ℕ → List ℕ
members_section tree ws n = be 4 n [] ++ cat (member_entry tree ws) n

unfoldable pub stores_section : List ℕ → ℕ → List ℕ
stores_section ws n = be 4 n [] ++ cat (store_entry ws) n

unfoldable pub calls_section : List ℕ → ℕ → ℕ → List ℕ
calls_section ws base n = be 4 n [] ++ cat (call_entry ws base) n

-- 01, The program image: "Then stack, loops, handlers (2 each), flags (2), float_loop (1)."
unfoldable pub closing_bytes : Sections → List ℕ
closing_bytes c = joined (map (λ n. be 2 n []) (numbers (counts_of c.depths))) (be 2 c.flags.bits [] ++ be 1 (bit c.flags.float_loop) [])

-- the nine sections, code to calls
unfoldable pub sections_of : List ℕ → List ℕ → Sections → List (List ℕ)
sections_of tree ws c =
    code_section ws c.code c.finished
    ∷ consts_section ws c.pools.consts
    ∷ posts_section ws c.pools.posts
    ∷ hashes_section ws c.pools.hashes
    ∷ names_section tree ws c.pools.names
    ∷ temps_section ws c.pools.temps
    ∷ members_section tree ws c.pools.members
    ∷ stores_section ws c.listed.stores
    ∷ calls_section ws c.code c.listed.calls
    ∷ []

-- all behind the length: the sections one behind the other, then the closing fields
unfoldable pub body_of : List ℕ → List ℕ → Sections → List ℕ
body_of tree ws c = joined (sections_of tree ws c) (closing_bytes c)

-- 01, The program image: "Byte 0 is 1, then a 4-byte length of the rest."
unfoldable pub image_of : List ℕ → List ℕ → Sections → List ℕ
image_of tree ws c = be 1 1 [] ++ be 4 (length (body_of tree ws c) % 4294967296) [] ++ body_of tree ws c

-- 01, Nine questions: the image at the front of the output where it has its place there, "output beyond it is unchanged", and the output as it is where not
unfoldable pub laid : List ℕ → List ℕ → List ℕ
laid img s = cond (leb (length img) (length s)) (img ++ drop (length img) s) s

-- 01, Nine questions, 9: "Is the output at least as long as the program image? No: 9."
unfoldable pub answer_of : List ℕ → List ℕ → Result ℕ Refusal
answer_of img s = cond (leb (length img) (length s)) (Ok (length img)) (Err SmallOutput)
