-- What the rules read in a payload, the first children of a node, and the member path that an assignment stores to. Definitions only.
use Rattle.std.specs.Prelude.{Bool, true, false, List, [], ◌∷◌, ◌++◌, ℕ, ◌%◌, ◌^◌}
use Rattle.std.proofs.Math.Decide.{ℕ_discrete}
use Rattle.ast.specs.NameKinds as Kind
use Rattle.ast.specs.Tree.{Name, Payload, p_none, p_float, p_hash, p_math, p_name, p_query, Tree, node, Forest, nil, cons}
use Rattle.ast.specs.Rules.{Rule, return, member, entity, pointer, plain, rule_at}

-- by the payload's constructor, in the order of Tree
unfoldable pub cases : {X : Type 0} → Payload → X → (ℕ → X) → (ℕ → X) → (ℕ → X) → (ℕ → Name → X) → (ℕ → ℕ → X) → X
cases p_none n f h m s q = n
cases (p_float v) n f h m s q = f v
cases (p_hash v) n f h m s q = h v
cases (p_math v) n f h m s q = m v
cases (p_name k x) n f h m s q = s k x
cases (p_query i v) n f h m s q = q i v

-- f of the payload if it is of that kind, else d
module _ {X : Type 0} where
  unfoldable pub as_name : ℕ → Payload → X → (Name → X) → X
  as_name k v d f = cases v d (λ x. d) (λ x. d) (λ x. d) (λ j n. elim (ℕ_discrete j k) [ yes p ↦ f n | no p ↦ d ]) (λ i m. d)

  unfoldable pub as_hash : Payload → X → (ℕ → X) → X
  as_hash v d f = cases v d (λ x. d) f (λ x. d) (λ j n. d) (λ i m. d)

  unfoldable pub as_math : Payload → X → (ℕ → X) → X
  as_math v d f = cases v d (λ x. d) (λ x. d) f (λ j n. d) (λ i m. d)

  unfoldable pub as_query : Payload → X → (ℕ → ℕ → X) → X
  as_query v d f = cases v d (λ x. d) (λ x. d) (λ x. d) (λ j n. d) f

-- by the kind of a variable's name: 4 Entity, 5 Temp, any other payload
pub record Kinds (X : Type 0) : Type 0 where
  pub entity : Name → X
  pub temp : Name → X
  pub other : X

abbrev pub by_kind : {X : Type 0} → Payload → Kinds X → X
by_kind v k = as_name Kind.ENTITY v (as_name Kind.TEMP v k.other k.temp) k.entity

-- 01, Nine questions, 7: "a float then reads 0.0"
unfoldable pub float_of : Payload → ℕ
float_of v = cases v 0 (λ x. x) (λ x. 0) (λ x. 0) (λ j n. 0) (λ i m. 0)

-- 01, Nine questions, 7: "a constant too unless it is a Hash"; 01, Slips: "plain constants do read those bits", the low 32
unfoldable pub const_of : Payload → ℕ
const_of v = as_hash v (float_of v) (λ h. h % 2 ^ 32)

-- 01, Nine questions, 7: "a string or resource hash 0", "a resource any of kinds 8 to 10"
unfoldable pub string_of : Payload → ℕ
string_of v = as_hash v 0 (λ h. h)

unfoldable pub resource_of : Payload → ℕ
resource_of v = as_name Kind.GEOMETRY v (as_name Kind.MATERIAL v (as_name Kind.TEXTURE v 0 (λ n. n.hash)) (λ n. n.hash)) (λ n. n.hash)

-- the first children of a node, or d where there are too few
module _ {A X : Type 0} where
  abbrev pub one : List A → X → (A → X) → X
  one [] d f = d
  one (a ∷ xs) d f = f a

  abbrev pub two : List A → X → (A → A → X) → X
  two [] d f = d
  two (a ∷ xs) d f = one xs d (f a)

  abbrev pub three : List A → X → (A → A → A → X) → X
  three [] d f = d
  three (a ∷ xs) d f = two xs d (f a)

  -- the first and the rest; exactly one
  abbrev pub some : List A → X → (A → List A → X) → X
  some [] d f = d
  some (a ∷ xs) d f = f a xs

  abbrev pub just : List A → X → (A → X) → X
  just [] d f = d
  just (a ∷ xs) d f = some xs (f a) (λ b ys. d)

-- a member path that is stored to: its hashes from the root outwards and the root's payload; not fine where a link is no member with a child
pub record Path : Type 0 where
  pub fine : Bool
  pub hashes : List ℕ
  pub root : Payload

abbrev pub no_path : Path
no_path = record { fine = false; hashes = []; root = p_none }

abbrev pub root_path : Payload → Path
root_path v = record { fine = true; hashes = []; root = v }

abbrev pub longer : ℕ → Path → Path
longer h p = record { fine = p.fine; hashes = p.hashes ++ (h ∷ []); root = p.root }

-- a member accessor is a link on the path of its first child, any other node is the root
unfoldable pub link : Rule → Payload → Path → Path
link return v p = root_path v
link entity v p = root_path v
link pointer v p = root_path v
link (plain r) v p = root_path v
link member v p = as_name Kind.MEMBER v no_path (λ n. longer n.hash p)

unfoldable mutual
  pub path : Tree → Path
  path (node op p v ts) = link (rule_at op) v (paths ts)

  pub paths : Forest → Path
  paths nil = no_path
  paths (cons t ts) = path t
