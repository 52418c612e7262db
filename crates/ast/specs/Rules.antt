-- The rules, the operator codes, and the rule of each code. Definitions only.
use Rattle.std.specs.Prelude.{Bool, true, false, ◌&&◌, ◌||◌, cond, ◌≡◌, List, [], ◌∷◌, ℕ, ◌<◌, leb, get_or}

-- the rules that no other rule looks at; a number is the sub, `logic` is of And or Or, `unary` of Negate or Not, `host_math` volatile or not
pub data Plain : Type 0 where
  array uses_arrays uses_resources float string resource this load query : Plain
  compare equal : ℕ → Plain
  logic : Bool → Plain
  coalesce conditional statements loop for_each break continue assign bracket : Plain
  unary : Bool → Plain
  add mul div : Plain
  host_math : Bool → Plain
  generic refused : Plain

-- Return differs in a statement list; member reads, EntityVariable and Pointer differ as an assignment's target
pub data Rule : Type 0 where
  return member entity pointer : Rule
  plain : Plain → Rule

-- a member read is a link of a member path; a Return is a statement of its own in a list
abbrev pub is_member : Rule → Bool
is_member return = false
is_member member = true
is_member entity = false
is_member pointer = false
is_member (plain r) = false

abbrev pub is_return : Rule → Bool
is_return return = true
is_return member = false
is_return entity = false
is_return pointer = false
is_return (plain r) = false

-- 01, The tree image: "1 Array to 51 Comma in order of first mention in `expr`"; in front the unknown codes, behind the refused ones
unfoldable pub rules : List Rule
rules =
    plain refused
    ∷ plain array ∷ plain uses_arrays ∷ plain uses_arrays ∷ plain uses_resources ∷ plain uses_resources ∷ plain uses_resources
    ∷ plain float ∷ plain string ∷ plain resource ∷ plain resource ∷ plain resource ∷ plain this
    ∷ entity ∷ plain load ∷ plain load ∷ member ∷ plain query
    ∷ plain (compare 0) ∷ plain (compare 1) ∷ plain (compare 2) ∷ plain (compare 3)
    ∷ plain (equal 0) ∷ plain (equal 1) ∷ plain (logic true) ∷ plain (logic false)
    ∷ plain coalesce ∷ plain conditional ∷ plain statements ∷ plain loop ∷ plain for_each ∷ plain break ∷ plain continue
    ∷ plain assign ∷ pointer ∷ plain bracket ∷ plain bracket
    ∷ plain (unary true) ∷ plain (unary false) ∷ plain add ∷ plain mul ∷ plain div ∷ plain (host_math false) ∷ plain (host_math true)
    ∷ return ∷ plain generic ∷ plain generic ∷ plain generic ∷ plain generic ∷ plain generic ∷ plain generic ∷ plain generic
    ∷ plain refused ∷ []

-- the number of the rule of the operators that are refused whatever their children
abbrev pub refusal : ℕ
refusal = 52

-- 01, The tree image: "1 to 51 have their rule, 64 to 123 a refusal, all others unknown"
unfoldable pub rule_of : ℕ → ℕ
rule_of op = cond (leb 1 op && leb op 51) op (cond (leb 64 op && leb op 123) refusal 0)

unfoldable pub rule_at : ℕ → Rule
rule_at op = get_or rules (rule_of op) (plain refused)

-- 01, Forms: "a constant table of 256 entries, operator code to rule"
abbrev pub HasRules : List ℕ → Type 0
HasRules table = (op : ℕ) → op < 256 → get_or table op 0 ≡ rule_of op

-- 01, Nine questions, 3: "every code and kind known"
unfoldable pub known : ℕ → Bool
known op = (leb 1 op && leb op 51) || (leb 64 op && leb op 123)
