-- The payload kinds by their numbers. Definitions only.
-- 01, The tree image: "Payload kinds: 0 None, 1 Float (4 bytes), 2 Hash (8), .. 11 Query (index 2, impl_idx 1), 12 HostMath (2)"
use Rattle.std.specs.Prelude.{ℕ, ◌≡◌, ◌≤◌, ◌<◌, Result, MatchResult}
use Rattle.ast.specs.NameKinds as Name
use Rattle.ast.specs.declared.kinds.Kind.{Kind}
use Rattle.ast.specs.declared.kinds.Kind.TheVariants as K
use Rattle.ast.specs.declared.kinds.UnknownKind.{UnknownKind}

abbrev pub number_of : Kind → ℕ
number_of K.None = 0
number_of K.Float = 1
number_of K.Hash = 2
number_of K.Context = Name.CONTEXT
number_of K.Entity = Name.ENTITY
number_of K.Temp = Name.TEMP
number_of K.Member = Name.MEMBER
number_of K.ArrayVariable = Name.ARRAY_VARIABLE
number_of K.Geometry = Name.GEOMETRY
number_of K.Material = Name.MATERIAL
number_of K.Texture = Name.TEXTURE
number_of K.Query = 11
number_of K.HostMath = 12

-- what a byte is read as: the kind whose number it is, or the byte itself, which is no kind's number
abbrev pub KindOf : ℕ → Result Kind UnknownKind → Type 0
KindOf n r = MatchResult r (λ kind. (number_of kind ≡ n) × (n ≤ 12)) (λ e. (e.0 ≡ n) × (12 < n))
