-- The refusals: number, name and text of each, one row a refusal. 01, Nine questions: "A refusal returns its number". Definitions only.
use Rattle.std.specs.Prelude.{◌≡◌, ◌<◌, ◌⊎◌, cond, List, [], ◌∷◌, ◌++◌, ℕ, length, drop, eqb, leb, Option, None, Some, Result, Ok, Err}
use Rattle.answers.specs.declared.refusals.Refusal.{Refusal}
use Rattle.answers.specs.declared.refusals.Refusal.TheVariants.{SmallWorkspace, NoTreeImage, Damaged, TooDeep}
use Rattle.answers.specs.declared.refusals.Refusal.TheVariants.{UsesArrays, UsesResources, Failed, WriteToOtherMob, SmallOutput}
use Prim.Native.Char.{code}
use Prim.Native.String.{String, [] as end, ◌∷◌ as ◌then◌}

-- 01, Nine questions: "Acceptance returns 0"
abbrev pub ACCEPTED : ℕ
ACCEPTED = 0

-- 1. "Has the workspace 16,384 words or more?"
abbrev pub SMALL_WORKSPACE : ℕ
SMALL_WORKSPACE = 1

-- 2. "Has the image 5 to 6,144 bytes, first byte 1, and a true length?"
abbrev pub NO_TREE_IMAGE : ℕ
NO_TREE_IMAGE = 2

-- 3. "Are both setting bytes 0 or 1, every code and kind known, every node length exact, nothing left over?"
abbrev pub DAMAGED : ℕ
DAMAGED = 3

-- 4. "Is every node at level .. or less (the root is level 1)?"; 02, C-12: "level 31 passes, level 32 gives 4"
abbrev pub TOO_DEEP : ℕ
TOO_DEEP = 4

-- 5. "Does lowering, in Rust's order, meet no UsesArrays?"
abbrev pub USES_ARRAYS : ℕ
USES_ARRAYS = 5

-- 6. "No UsesResources?"
abbrev pub USES_RESOURCES : ℕ
USES_RESOURCES = 6

-- 7. "No Failed?"
abbrev pub FAILED : ℕ
FAILED = 7

-- 8. "No assignment to a Pointer (WriteToOtherMob)?"
abbrev pub WRITE_TO_OTHER_MOB : ℕ
WRITE_TO_OTHER_MOB = 8

-- 9. "Is the output at least as long as the program image?"
abbrev pub SMALL_OUTPUT : ℕ
SMALL_OUTPUT = 9

-- the number of each
abbrev pub number_of : Refusal → ℕ
number_of SmallWorkspace = SMALL_WORKSPACE
number_of NoTreeImage = NO_TREE_IMAGE
number_of Damaged = DAMAGED
number_of TooDeep = TOO_DEEP
number_of UsesArrays = USES_ARRAYS
number_of UsesResources = USES_RESOURCES
number_of Failed = FAILED
number_of WriteToOtherMob = WRITE_TO_OTHER_MOB
number_of SmallOutput = SMALL_OUTPUT

-- a number that is no refusal's
abbrev pub NoRefusal : ℕ → Type 0
NoRefusal n = (n ≡ ACCEPTED) ⊎ (SMALL_OUTPUT < n)

-- "A refusal returns its number", "Acceptance returns 0": the number of what may be a refusal, and of a result
abbrev pub number_of_first : Option Refusal → ℕ
number_of_first None = ACCEPTED
number_of_first (Some r) = number_of r

abbrev pub number_of_result : {A : Type 0} → Result A Refusal → ℕ
number_of_result (Ok a) = ACCEPTED
number_of_result (Err r) = number_of r

-- what a program says of each, without a line end
abbrev pub texts : List (ℕ × String)
texts =
    (ACCEPTED, "accepted")
    ∷ (SMALL_WORKSPACE, "the workspace has fewer than 16,384 words")
    ∷ (NO_TREE_IMAGE, "not a tree image, which has 5 to 6,144 bytes, begins with the byte 1 and gives its true length")
    ∷ (DAMAGED, "a setting, an operator code, a payload kind or a node's length is wrong, or something is left over")
    ∷ (TOO_DEEP, "a node stands deeper than level 31")
    ∷ (USES_ARRAYS, "the expression uses arrays")
    ∷ (USES_RESOURCES, "the expression uses resources")
    ∷ (FAILED, "an operator has the wrong operands or payload, or has no bytecode")
    ∷ (WRITE_TO_OTHER_MOB, "an assignment writes to another mob")
    ∷ (SMALL_OUTPUT, "the program image is longer than the output")
    ∷ []

-- a text's bytes, all of them ASCII
abbrev pub bytes : String → List ℕ
bytes end = []
bytes (c then s) = code c ∷ bytes s

-- the text of a number among rows; none for any other
abbrev pub text_in : List (ℕ × String) → ℕ → List ℕ
text_in [] n = []
text_in (row ∷ rows) n = cond (eqb n row.0) (bytes row.1) (text_in rows n)

abbrev pub text_of : ℕ → List ℕ
text_of n = text_in texts n

-- a text at the start of an output that has room for it, and how many bytes that is
abbrev pub laid : List ℕ → List ℕ → List ℕ
laid t s = cond (leb (length t) (length s)) (t ++ drop (length t) s) s

abbrev pub taken : List ℕ → List ℕ → ℕ
taken t s = cond (leb (length t) (length s)) (length t) 0
