-- 01, The program image: "Opcodes follow `Instr` without its stdlib arms, Const 1 to End 48." Definitions only.
use Rattle.std.specs.Prelude.{◌≡◌, ◌<◌, ◌⊎◌, ℕ}
use Rattle.program.specs.declared.opcodes.Opcode.{Opcode}
use Rattle.program.specs.declared.opcodes.Opcode.TheVariants as Op

abbrev pub CONST : ℕ
CONST = 1

abbrev pub HASH : ℕ
HASH = 2

abbrev pub RESOURCE : ℕ
RESOURCE = 3

abbrev pub THIS : ℕ
THIS = 4

abbrev pub LOAD_VAR : ℕ
LOAD_VAR = 5

abbrev pub LOAD_TEMP : ℕ
LOAD_TEMP = 6

abbrev pub LOAD_CTX : ℕ
LOAD_CTX = 7

abbrev pub ARRAY_ELEMENT : ℕ
ARRAY_ELEMENT = 8

abbrev pub MEMBER : ℕ
MEMBER = 9

abbrev pub STORE_VAR : ℕ
STORE_VAR = 10

abbrev pub STORE_TEMP : ℕ
STORE_TEMP = 11

abbrev pub STORE_MEMBER : ℕ
STORE_MEMBER = 12

abbrev pub PUSH : ℕ
PUSH = 13

abbrev pub PUSH_CONST : ℕ
PUSH_CONST = 14

abbrev pub NEGATE : ℕ
NEGATE = 15

abbrev pub NOT : ℕ
NOT = 16

abbrev pub ADD_ACC : ℕ
ADD_ACC = 17

abbrev pub ADD_LAST : ℕ
ADD_LAST = 18

abbrev pub MUL : ℕ
MUL = 19

abbrev pub DIV_GUARD : ℕ
DIV_GUARD = 20

abbrev pub DIV : ℕ
DIV = 21

abbrev pub HOST_MATH : ℕ
HOST_MATH = 22

abbrev pub CMP : ℕ
CMP = 23

abbrev pub CMP_CONST : ℕ
CMP_CONST = 24

abbrev pub EQ : ℕ
EQ = 25

abbrev pub EQ_CONST : ℕ
EQ_CONST = 26

abbrev pub EQ_HASH : ℕ
EQ_HASH = 27

abbrev pub AND_STEP : ℕ
AND_STEP = 28

abbrev pub OR_STEP : ℕ
OR_STEP = 29

abbrev pub AND_LAST : ℕ
AND_LAST = 30

abbrev pub OR_LAST : ℕ
OR_LAST = 31

abbrev pub JUMP : ℕ
JUMP = 32

abbrev pub JUMP_IF_FALSY : ℕ
JUMP_IF_FALSY = 33

abbrev pub POST : ℕ
POST = 34

abbrev pub HANDLER_PUSH : ℕ
HANDLER_PUSH = 35

abbrev pub HANDLER_POP : ℕ
HANDLER_POP = 36

abbrev pub POINTER_ENTER : ℕ
POINTER_ENTER = 37

abbrev pub POINTER_LEAVE : ℕ
POINTER_LEAVE = 38

abbrev pub CALL : ℕ
CALL = 39

abbrev pub LOOP_BEGIN : ℕ
LOOP_BEGIN = 40

abbrev pub LOOP_CHECK : ℕ
LOOP_CHECK = 41

abbrev pub LOOP_END : ℕ
LOOP_END = 42

abbrev pub EACH_BEGIN : ℕ
EACH_BEGIN = 43

abbrev pub EACH_NEXT_VAR : ℕ
EACH_NEXT_VAR = 44

abbrev pub EACH_NEXT_TEMP : ℕ
EACH_NEXT_TEMP = 45

abbrev pub RETURN : ℕ
RETURN = 46

abbrev pub HALT : ℕ
HALT = 47

abbrev pub END : ℕ
END = 48

-- the number of each
abbrev pub number_of : Opcode → ℕ
number_of Op.Const = CONST
number_of Op.Hash = HASH
number_of Op.Resource = RESOURCE
number_of Op.This = THIS
number_of Op.LoadVar = LOAD_VAR
number_of Op.LoadTemp = LOAD_TEMP
number_of Op.LoadCtx = LOAD_CTX
number_of Op.ArrayElement = ARRAY_ELEMENT
number_of Op.Member = MEMBER
number_of Op.StoreVar = STORE_VAR
number_of Op.StoreTemp = STORE_TEMP
number_of Op.StoreMember = STORE_MEMBER
number_of Op.Push = PUSH
number_of Op.PushConst = PUSH_CONST
number_of Op.Negate = NEGATE
number_of Op.Not = NOT
number_of Op.AddAcc = ADD_ACC
number_of Op.AddLast = ADD_LAST
number_of Op.Mul = MUL
number_of Op.DivGuard = DIV_GUARD
number_of Op.Div = DIV
number_of Op.HostMath = HOST_MATH
number_of Op.Cmp = CMP
number_of Op.CmpConst = CMP_CONST
number_of Op.Eq = EQ
number_of Op.EqConst = EQ_CONST
number_of Op.EqHash = EQ_HASH
number_of Op.AndStep = AND_STEP
number_of Op.OrStep = OR_STEP
number_of Op.AndLast = AND_LAST
number_of Op.OrLast = OR_LAST
number_of Op.Jump = JUMP
number_of Op.JumpIfFalsy = JUMP_IF_FALSY
number_of Op.Post = POST
number_of Op.HandlerPush = HANDLER_PUSH
number_of Op.HandlerPop = HANDLER_POP
number_of Op.PointerEnter = POINTER_ENTER
number_of Op.PointerLeave = POINTER_LEAVE
number_of Op.Call = CALL
number_of Op.LoopBegin = LOOP_BEGIN
number_of Op.LoopCheck = LOOP_CHECK
number_of Op.LoopEnd = LOOP_END
number_of Op.EachBegin = EACH_BEGIN
number_of Op.EachNextVar = EACH_NEXT_VAR
number_of Op.EachNextTemp = EACH_NEXT_TEMP
number_of Op.Return = RETURN
number_of Op.Halt = HALT
number_of Op.End = END

-- a number that is no opcode's
abbrev pub NoOpcode : ℕ → Type 0
NoOpcode n = (n ≡ 0) ⊎ (END < n)
