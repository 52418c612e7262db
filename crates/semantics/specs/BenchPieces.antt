-- The bench pieces M1 to M12 of 01: the image of each tree, and what a call on it gives. Definitions only.
-- What 01 leaves out of a piece, as the bytes of M2 to M9, is as the genuine build gives it.
use Rattle.std.specs.Prelude.{Bool, true, false, List, [], ◌∷◌, ℕ}
use Rattle.wire.specs.Bytes.{be}
use Rattle.numeric.specs.Post.{identity}
use Rattle.numeric.specs.PostOp.{post}
use Rattle.ast.specs.Tree.{p_none, p_float, p_name, p_query, Tree, node, nil, cons}
use Rattle.ast.specs.Encode.{image}
use Rattle.program.specs.Counts.{Counts}
use Rattle.program.specs.Image.{Word, word}
use Rattle.semantics.specs.Example.{depths}

-- 01, Bench pieces: "each instruction as index, opcode, sub, A, B, then the closing fields, or `refused` and the number": the program
-- image's length and bytes, its instructions in order, the starts of each call's arguments, depths, flags and float_loop
pub data Outcome : Type 0 where
  accepted : ℕ → List ℕ → List Word → List (List ℕ) → Counts → ℕ → Bool → Outcome
  refused : ℕ → Outcome

-- the bytes of a tree image, how many they are, and what a call with room enough gives
pub record Piece : Type 0 where
  pub tree : List ℕ
  pub size : ℕ
  pub outcome : Outcome

-- a piece by its tree, with arrays Unresolved and divisor Signed
abbrev pub piece : Tree → ℕ → Outcome → Piece
piece t size outcome = record { tree = image 0 0 t; size = size; outcome = outcome }

-- 01, The tree image: "Operator codes: 1 Array to 51 Comma in order of first mention in `expr`; the 60 stdlib operators, 64 Mod"
abbrev pub array : ℕ
array = 1

abbrev pub literal : ℕ
literal = 7

abbrev pub this : ℕ
this = 12

abbrev pub entity : ℕ
entity = 13

abbrev pub query : ℕ
query = 17

abbrev pub coalesce : ℕ
coalesce = 26

abbrev pub conditional : ℕ
conditional = 27

abbrev pub loop : ℕ
loop = 29

abbrev pub break : ℕ
break = 31

abbrev pub assignment : ℕ
assignment = 33

abbrev pub pointer : ℕ
pointer = 34

abbrev pub add : ℕ
add = 39

abbrev pub mul : ℕ
mul = 40

abbrev pub div : ℕ
div = 41

abbrev pub modulo : ℕ
modulo = 64

abbrev pub leaf : ℕ → Tree
leaf op = node op identity p_none nil

abbrev pub float : ℕ → Tree
float bits = node literal identity (p_float bits) nil

abbrev pub pair : ℕ → Tree → Tree → Tree
pair op a b = node op identity p_none (cons a (cons b nil))

-- 01, M1: "Mul of Float 2 and Float 3, 63 bytes in, a program image of 98", and the whole listing
abbrev pub M1 : Piece
M1 =
    piece (pair mul (float 0x4000_0000) (float 0x4040_0000)) 63
    (accepted 98
    (be 41 0x010000005d00000004_0100000000000000_0e00000000010000_1300000000000000_3000000000000000
    (be 57 0x000000024000000040400000_000000013f80000000000000_00000000_00000000_00000000_00000000_00000000_00000000_000100000000000101 []))
    (word 1 0 0 0 ∷ word 14 0 1 0 ∷ word 19 0 0 0 ∷ word 48 0 0 0 ∷ [])
    [] (depths 1 0 0) 1 true)

-- 01, M2: "Break alone: Halt, End."
abbrev pub M2 : Piece
M2 =
    piece (leaf break) 23
    (accepted 74
    (be 25 0x010000004500000002_2f00000000000000_3000000000000000
    (be 49 0x00000000_000000013f80000000000000_00000000_00000000_00000000_00000000_00000000_00000000_000000000000000101 []))
    (word 47 0 0 0 ∷ word 48 0 0 0 ∷ [])
    [] (depths 0 0 0) 1 true)

-- 01, M3: "Conditional of This, Float 1: This, JumpIfFalsy 4, Const, Jump 5, Const, End."
abbrev pub M3 : Piece
M3 =
    piece (pair conditional (leaf this) (float 0x3f80_0000)) 59
    (accepted 114
    (be 57 0x010000006d00000006_0400000000000000_2100000000040000_0100000000000000_2000000000050000_0100000000010000_3000000000000000
    (be 57 0x000000023f80000000000000_000000013f80000000000000_00000000_00000000_00000000_00000000_00000000_00000000_000000000000000101 []))
    (word 4 0 0 0 ∷ word 33 0 4 0 ∷ word 1 0 0 0 ∷ word 32 0 5 0 ∷ word 1 0 1 0 ∷ word 48 0 0 0 ∷ [])
    [] (depths 0 0 0) 1 true)

-- 01, M4: "query with Float 1: Call, End, Const, End, start 2, flags 256, float_loop 0."
abbrev pub M4 : Piece
M4 =
    piece (node query identity (p_query 7 2) (cons (float 0x3f80_0000) nil)) 46
    (accepted 103
    (be 41 0x010000006200000004_2700000000000000_3000000000000000_0100000000000000_3000000000000000
    (be 62 0x000000013f800000_000000013f80000000000000_00000000_00000000_00000000_00000000_00000000_00000001000702000100000002_000000000000010000 []))
    (word 39 0 0 0 ∷ word 48 0 0 0 ∷ word 1 0 0 0 ∷ word 48 0 0 0 ∷ [])
    ((2 ∷ []) ∷ []) (depths 0 0 0) 256 false)

-- 01, M5: "query without arguments: float_loop 1."
abbrev pub M5 : Piece
M5 =
    piece (node query identity (p_query 7 2) nil) 26
    (accepted 79
    (be 25 0x010000004a00000002_2700000000000000_3000000000000000
    (be 54 0x00000000_000000013f80000000000000_00000000_00000000_00000000_00000000_00000000_000000010007020000_000000000000010001 []))
    (word 39 0 0 0 ∷ word 48 0 0 0 ∷ [])
    ([] ∷ []) (depths 0 0 0) 256 true)

-- 01, M6: "`??` of This, Float 0: HandlerPush 3, This, HandlerPop 4, Const, End."
abbrev pub M6 : Piece
M6 =
    piece (pair coalesce (leaf this) (float 0)) 59
    (accepted 102
    (be 49 0x010000006100000005_2300000000030000_0400000000000000_2400000000040000_0100000000000000_3000000000000000
    (be 53 0x0000000100000000_000000013f80000000000000_00000000_00000000_00000000_00000000_00000000_00000000_000000000001000101 []))
    (word 35 0 3 0 ∷ word 4 0 0 0 ∷ word 36 0 4 0 ∷ word 1 0 0 0 ∷ word 48 0 0 0 ∷ [])
    [] (depths 0 0 1) 1 true)

-- 01, M7: "Loop of Float 3, Break: Const, LoopBegin 5, Jump 4, LoopCheck 2, LoopEnd, Const, End, flags 65."
abbrev pub M7 : Piece
M7 =
    piece (pair loop (float 0x4040_0000) (leaf break)) 59
    (accepted 122
    (be 65 0x010000007500000007_0100000000000000_2800000000050000_2000000000040000_2900000000020000_2a00000000000000_0100000000010000_3000000000000000
    (be 57 0x000000024040000000000000_000000013f80000000000000_00000000_00000000_00000000_00000000_00000000_00000000_000100010000004101 []))
    (word 1 0 0 0 ∷ word 40 0 5 0 ∷ word 32 0 4 0 ∷ word 41 0 2 0 ∷ word 42 0 0 0 ∷ word 1 0 1 0 ∷ word 48 0 0 0 ∷ [])
    [] (depths 1 1 0) 65 true)

-- 01, M8: "Div of This, Float 2: Const, DivGuard 4, This, Div, End."
abbrev pub M8 : Piece
M8 =
    piece (pair div (leaf this) (float 0x4000_0000)) 59
    (accepted 102
    (be 49 0x010000006100000005_0100000000000000_1400000000040000_0400000000000000_1500000000000000_3000000000000000
    (be 53 0x0000000140000000_000000013f80000000000000_00000000_00000000_00000000_00000000_00000000_00000000_000100000000000101 []))
    (word 1 0 0 0 ∷ word 20 0 4 0 ∷ word 4 0 0 0 ∷ word 21 0 0 0 ∷ word 48 0 0 0 ∷ [])
    [] (depths 1 0 0) 1 true)

-- 01, M9: "Add of This alone, offset 1.0: This, Post 1, End."
abbrev pub M9 : Piece
M9 =
    piece (node add (post 0x3f80_0000 0x3f80_0000) p_none (cons (leaf this) nil)) 39
    (accepted 90
    (be 33 0x010000005500000003_0400000000000000_2200000000000001_3000000000000000
    (be 57 0x00000000_000000023f800000000000003f8000003f800000_00000000_00000000_00000000_00000000_00000000_00000000_000000000000000101 []))
    (word 4 0 0 0 ∷ word 34 0 0 1 ∷ word 48 0 0 0 ∷ [])
    [] (depths 0 0 0) 1 true)

-- 01, M10: "Mod: 7."
abbrev pub M10 : Piece
M10 = piece (leaf modulo) 23 (refused 7)

-- 01, M11: "Array, Unresolved: 5."
abbrev pub M11 : Piece
M11 = piece (leaf array) 23 (refused 5)

-- 01, M12: "assignment to a Pointer: 8."
abbrev pub M12 : Piece
M12 =
    piece (pair assignment (pair pointer (leaf this) (node entity identity (p_name 4 (record { hash = 5; text = 97 ∷ [] })) nil)) (float 0x3f80_0000)) 101
    (refused 8)

abbrev pub pieces : List Piece
pieces = M1 ∷ M2 ∷ M3 ∷ M4 ∷ M5 ∷ M6 ∷ M7 ∷ M8 ∷ M9 ∷ M10 ∷ M11 ∷ M12 ∷ []
