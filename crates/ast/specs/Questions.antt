-- Questions 2 to 4 on an image. Definitions only.
use Rattle.std.specs.Prelude.{ℕ, zero, suc, ◌+◌, List, Bool, true, false, ◌&&◌, cond, leb, eqb, length}
use Rattle.answers.specs.Refusals as Refusal
use Rattle.ast.specs.Header.{VERSION, version_of, rest_of, arrays_of, divisor_of, ROOT, SHORTEST, LONGEST, LEVELS, ALL_LEVELS}
use Rattle.ast.specs.Rules.{known}
use Rattle.ast.specs.Node.{len_at, op_at, kind_at, size_at, count_at, first_at, next_at}

-- 01, Nine questions, 3: "every code and kind known": so at p; its own fields lie in its length, which ends at e or before
unfoldable pub fits : List ℕ → ℕ → ℕ → Bool
fits s p e =
    known (op_at s p)
    && (leb (kind_at s p) 12 && (leb (12 + size_at s p) (len_at s p) && leb (p + (4 + len_at s p)) e))

-- from p on n nodes stand one behind the other, the last ends at e, and each is right inside
unfoldable pub row : (ℕ → Bool) → List ℕ → ℕ → ℕ → ℕ → Bool
row inside s zero p e = eqb p e
row inside s (suc n) p e =
    elim (fits s p e) [
      | true ↦ elim (inside p) [ true ↦ row inside s n (next_at s p) e | false ↦ false ]
      | false ↦ false
    ]

-- 01, Nine questions, 3: "every node length exact": its children fill the node at p, to so many levels
unfoldable pub filled : ℕ → List ℕ → ℕ → Bool
filled zero s p = false
filled (suc levels) s p = row (filled levels s) s (count_at s p) (first_at s p) (next_at s p)

-- 01, Nine questions, 3: "nothing left over": the root fills what follows the settings, to so many levels
unfoldable pub rooted : ℕ → List ℕ → Bool
rooted levels s = row (filled levels s) s 1 ROOT (length s)

-- 01, Nine questions, 2: "Has the image 5 to 6,144 bytes, first byte 1, and a true length?"
unfoldable pub whole : List ℕ → Bool
whole s =
    leb SHORTEST (length s)
    && (leb (length s) LONGEST && (eqb (version_of s) VERSION && eqb (SHORTEST + rest_of s) (length s)))

-- 01, Nine questions, 3: "Are both setting bytes 0 or 1, every code and kind known, every node length exact, nothing left over?"
unfoldable pub formed : List ℕ → Bool
formed s = leb (arrays_of s) 1 && (leb (divisor_of s) 1 && rooted ALL_LEVELS s)

-- 01, Nine questions, 4: "Is every node at level .. or less (the root is level 1)?"; Header has the limit
unfoldable pub shallow : List ℕ → Bool
shallow s = rooted LEVELS s

-- 01, Nine questions, "in this order": 2, 3 or 4 for the first that is answered by no, else 0
unfoldable pub questions : List ℕ → ℕ
questions s = cond (whole s) (cond (formed s) (cond (shallow s) Refusal.ACCEPTED Refusal.TOO_DEEP) Refusal.DAMAGED) Refusal.NO_TREE_IMAGE
