-- The operator codes that have a rule, which has its operator's code as its number. Definitions only.
-- 01, The tree image: "Operator codes: 1 Array to 51 Comma in order of first mention in `expr`"
use Rattle.std.specs.Prelude.{ℕ}

abbrev pub ARRAY : ℕ
ARRAY = 1

abbrev pub ARRAY_VARIABLE : ℕ
ARRAY_VARIABLE = 2

abbrev pub EXPRESSION_ARRAY : ℕ
EXPRESSION_ARRAY = 3

abbrev pub GEOMETRY_VARIABLE : ℕ
GEOMETRY_VARIABLE = 4

abbrev pub MATERIAL_VARIABLE : ℕ
MATERIAL_VARIABLE = 5

abbrev pub TEXTURE_VARIABLE : ℕ
TEXTURE_VARIABLE = 6

abbrev pub FLOAT : ℕ
FLOAT = 7

abbrev pub STRING_LITERAL : ℕ
STRING_LITERAL = 8

abbrev pub GEOMETRY : ℕ
GEOMETRY = 9

abbrev pub MATERIAL : ℕ
MATERIAL = 10

abbrev pub TEXTURE : ℕ
TEXTURE = 11

abbrev pub THIS : ℕ
THIS = 12

abbrev pub ENTITY_VARIABLE : ℕ
ENTITY_VARIABLE = 13

abbrev pub TEMP_VARIABLE : ℕ
TEMP_VARIABLE = 14

abbrev pub CONTEXT_VARIABLE : ℕ
CONTEXT_VARIABLE = 15

abbrev pub MEMBER_ACCESSOR : ℕ
MEMBER_ACCESSOR = 16

abbrev pub QUERY_FUNCTION : ℕ
QUERY_FUNCTION = 17

abbrev pub LESS_THAN : ℕ
LESS_THAN = 18

abbrev pub LESS_EQUAL : ℕ
LESS_EQUAL = 19

abbrev pub GREATER_EQUAL : ℕ
GREATER_EQUAL = 20

abbrev pub GREATER_THAN : ℕ
GREATER_THAN = 21

abbrev pub LOGICAL_EQUAL : ℕ
LOGICAL_EQUAL = 22

abbrev pub LOGICAL_NOT_EQUAL : ℕ
LOGICAL_NOT_EQUAL = 23

abbrev pub LOGICAL_AND : ℕ
LOGICAL_AND = 24

abbrev pub LOGICAL_OR : ℕ
LOGICAL_OR = 25

abbrev pub NULL_COALESCING : ℕ
NULL_COALESCING = 26

abbrev pub CONDITIONAL : ℕ
CONDITIONAL = 27

abbrev pub SEMICOLON : ℕ
SEMICOLON = 28

abbrev pub LOOP : ℕ
LOOP = 29

abbrev pub FOR_EACH : ℕ
FOR_EACH = 30

abbrev pub BREAK : ℕ
BREAK = 31

abbrev pub CONTINUE : ℕ
CONTINUE = 32

abbrev pub ASSIGNMENT : ℕ
ASSIGNMENT = 33

abbrev pub POINTER : ℕ
POINTER = 34

abbrev pub LEFT_BRACKET : ℕ
LEFT_BRACKET = 35

abbrev pub LEFT_PARENTHESIS : ℕ
LEFT_PARENTHESIS = 36

abbrev pub NEGATE : ℕ
NEGATE = 37

abbrev pub LOGICAL_NOT : ℕ
LOGICAL_NOT = 38

abbrev pub ADD : ℕ
ADD = 39

abbrev pub MUL : ℕ
MUL = 40

abbrev pub DIV : ℕ
DIV = 41

abbrev pub HOST_MATH : ℕ
HOST_MATH = 42

abbrev pub HOST_MATH_VOLATILE : ℕ
HOST_MATH_VOLATILE = 43

abbrev pub RETURN : ℕ
RETURN = 44

abbrev pub PI : ℕ
PI = 45

abbrev pub LEFT_BRACE : ℕ
LEFT_BRACE = 46

abbrev pub RIGHT_BRACE : ℕ
RIGHT_BRACE = 47

abbrev pub RIGHT_BRACKET : ℕ
RIGHT_BRACKET = 48

abbrev pub RIGHT_PARENTHESIS : ℕ
RIGHT_PARENTHESIS = 49

abbrev pub CONDITIONAL_ELSE : ℕ
CONDITIONAL_ELSE = 50

abbrev pub COMMA : ℕ
COMMA = 51
