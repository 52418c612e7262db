-- What the rules read in a payload that the code holds; the text of a name stays in the image. Definitions only.
use Rattle.std.specs.Prelude.{cond, ℕ, ◌%◌, eqb}
use Rattle.ast.specs.NameKinds as Kind
use Rattle.payload.specs.declared.NameRef.{NameRef}
use Rattle.payload.specs.declared.Payload.{Payload}
use Rattle.payload.specs.declared.Payload.TheVariants.{None, Float, Hash, Context, Entity, Temp, Member, ArrayVariable}
use Rattle.payload.specs.declared.Payload.TheVariants.{Geometry, Material, Texture, Query, HostMath}

-- by the payload's variant: none, a float, a hash, a host function, a name of a kind, a query
unfoldable pub cases : {X : Type 0} → Payload → X → (ℕ → X) → (ℕ → X) → (ℕ → X) → (ℕ → NameRef → X) → (ℕ → ℕ → X) → X
cases None n f h m s q = n
cases (Float b) n f h m s q = f b
cases (Hash v) n f h m s q = h v
cases (Context r) n f h m s q = s Kind.CONTEXT r
cases (Entity r) n f h m s q = s Kind.ENTITY r
cases (Temp r) n f h m s q = s Kind.TEMP r
cases (Member r) n f h m s q = s Kind.MEMBER r
cases (ArrayVariable r) n f h m s q = s Kind.ARRAY_VARIABLE r
cases (Geometry r) n f h m s q = s Kind.GEOMETRY r
cases (Material r) n f h m s q = s Kind.MATERIAL r
cases (Texture r) n f h m s q = s Kind.TEXTURE r
cases (Query r) n f h m s q = q r.index r.impl_idx
cases (HostMath v) n f h m s q = m v

-- f of the payload if it is of that kind, else d
module _ {X : Type 0} where
  unfoldable pub as_name : ℕ → Payload → X → (NameRef → X) → X
  as_name k v d f = cases v d (λ x. d) (λ x. d) (λ x. d) (λ j n. cond (eqb j k) (f n) d) (λ i m. d)

  unfoldable pub as_hash : Payload → X → (ℕ → X) → X
  as_hash v d f = cases v d (λ x. d) f (λ x. d) (λ j n. d) (λ i m. d)

  unfoldable pub as_math : Payload → X → (ℕ → X) → X
  as_math v d f = cases v d (λ x. d) (λ x. d) f (λ j n. d) (λ i m. d)

  unfoldable pub as_query : Payload → X → (ℕ → ℕ → X) → X
  as_query v d f = cases v d (λ x. d) (λ x. d) (λ x. d) (λ j n. d) f

unfoldable pub float_of : Payload → ℕ
float_of v = cases v 0 (λ x. x) (λ x. 0) (λ x. 0) (λ j n. 0) (λ i m. 0)

-- the low 32 bits of a hash, else the float
unfoldable pub const_of : Payload → ℕ
const_of v = as_hash v (float_of v) (λ h. h % 4294967296)

unfoldable pub string_of : Payload → ℕ
string_of v = as_hash v 0 (λ h. h)

unfoldable pub resource_of : Payload → ℕ
resource_of v =
    as_name Kind.GEOMETRY v
    (as_name Kind.MATERIAL v
    (as_name Kind.TEXTURE v 0 (λ n. n.hash))
    (λ n. n.hash))
    (λ n. n.hash)
