-- The payload kinds that are a name. Definitions only.
-- 01, The tree image: "3 Context, 4 Entity, 5 Temp, 6 Member, 7 ArrayVariable, 8 Geometry, 9 Material, 10 Texture"
use Rattle.std.specs.Prelude.{ℕ}

abbrev pub CONTEXT : ℕ
CONTEXT = 3

abbrev pub ENTITY : ℕ
ENTITY = 4

abbrev pub TEMP : ℕ
TEMP = 5

abbrev pub MEMBER : ℕ
MEMBER = 6

abbrev pub ARRAY_VARIABLE : ℕ
ARRAY_VARIABLE = 7

abbrev pub GEOMETRY : ℕ
GEOMETRY = 8

abbrev pub MATERIAL : ℕ
MATERIAL = 9

abbrev pub TEXTURE : ℕ
TEXTURE = 10
