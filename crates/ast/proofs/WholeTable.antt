-- The table of rules, and what it says of every code by one test over the whole table. Assumes nothing.
use mathlib.Core.Path.{◌≡◌, refl}
use mathlib.Core.List.{List, [], ◌∷◌}
use mathlib.Core.Bool.{Bool, true, false, cond, not, ◌&&◌, ◌||◌}
use Prim.Native.Nat.{ℕ, zero, suc}
use native.Mathlib.Omega.{arith}
use lib.Dec.{eqb, leb, eqb→eq}
use lib.ListN.{get_or}
use borrow.Author.Tests.{ne_eqb}
use Rattle.ast.specs.Rules.{rule_of, known, HasRules}
use Rattle.ast.proofs.Table.{at}

-- the table as src/rules.rt has it
unfoldable pub rules : List ℕ
rules =
    0 ∷ 1 ∷ 2 ∷ 3 ∷ 4 ∷ 5 ∷ 6 ∷ 7 ∷ 8 ∷ 9 ∷ 10 ∷ 11 ∷ 12 ∷ 13 ∷ 14 ∷ 15
    ∷ 16 ∷ 17 ∷ 18 ∷ 19 ∷ 20 ∷ 21 ∷ 22 ∷ 23 ∷ 24 ∷ 25 ∷ 26 ∷ 27 ∷ 28 ∷ 29 ∷ 30 ∷ 31
    ∷ 32 ∷ 33 ∷ 34 ∷ 35 ∷ 36 ∷ 37 ∷ 38 ∷ 39 ∷ 40 ∷ 41 ∷ 42 ∷ 43 ∷ 44 ∷ 45 ∷ 46 ∷ 47
    ∷ 48 ∷ 49 ∷ 50 ∷ 51 ∷ 0 ∷ 0 ∷ 0 ∷ 0 ∷ 0 ∷ 0 ∷ 0 ∷ 0 ∷ 0 ∷ 0 ∷ 0 ∷ 0
    ∷ 52 ∷ 52 ∷ 52 ∷ 52 ∷ 52 ∷ 52 ∷ 52 ∷ 52 ∷ 52 ∷ 52 ∷ 52 ∷ 52 ∷ 52 ∷ 52 ∷ 52 ∷ 52
    ∷ 52 ∷ 52 ∷ 52 ∷ 52 ∷ 52 ∷ 52 ∷ 52 ∷ 52 ∷ 52 ∷ 52 ∷ 52 ∷ 52 ∷ 52 ∷ 52 ∷ 52 ∷ 52
    ∷ 52 ∷ 52 ∷ 52 ∷ 52 ∷ 52 ∷ 52 ∷ 52 ∷ 52 ∷ 52 ∷ 52 ∷ 52 ∷ 52 ∷ 52 ∷ 52 ∷ 52 ∷ 52
    ∷ 52 ∷ 52 ∷ 52 ∷ 52 ∷ 52 ∷ 52 ∷ 52 ∷ 52 ∷ 52 ∷ 52 ∷ 52 ∷ 52 ∷ 0 ∷ 0 ∷ 0 ∷ 0
    ∷ 0 ∷ 0 ∷ 0 ∷ 0 ∷ 0 ∷ 0 ∷ 0 ∷ 0 ∷ 0 ∷ 0 ∷ 0 ∷ 0 ∷ 0 ∷ 0 ∷ 0 ∷ 0
    ∷ 0 ∷ 0 ∷ 0 ∷ 0 ∷ 0 ∷ 0 ∷ 0 ∷ 0 ∷ 0 ∷ 0 ∷ 0 ∷ 0 ∷ 0 ∷ 0 ∷ 0 ∷ 0
    ∷ 0 ∷ 0 ∷ 0 ∷ 0 ∷ 0 ∷ 0 ∷ 0 ∷ 0 ∷ 0 ∷ 0 ∷ 0 ∷ 0 ∷ 0 ∷ 0 ∷ 0 ∷ 0
    ∷ 0 ∷ 0 ∷ 0 ∷ 0 ∷ 0 ∷ 0 ∷ 0 ∷ 0 ∷ 0 ∷ 0 ∷ 0 ∷ 0 ∷ 0 ∷ 0 ∷ 0 ∷ 0
    ∷ 0 ∷ 0 ∷ 0 ∷ 0 ∷ 0 ∷ 0 ∷ 0 ∷ 0 ∷ 0 ∷ 0 ∷ 0 ∷ 0 ∷ 0 ∷ 0 ∷ 0 ∷ 0
    ∷ 0 ∷ 0 ∷ 0 ∷ 0 ∷ 0 ∷ 0 ∷ 0 ∷ 0 ∷ 0 ∷ 0 ∷ 0 ∷ 0 ∷ 0 ∷ 0 ∷ 0 ∷ 0
    ∷ 0 ∷ 0 ∷ 0 ∷ 0 ∷ 0 ∷ 0 ∷ 0 ∷ 0 ∷ 0 ∷ 0 ∷ 0 ∷ 0 ∷ 0 ∷ 0 ∷ 0 ∷ 0
    ∷ 0 ∷ 0 ∷ 0 ∷ 0 ∷ 0 ∷ 0 ∷ 0 ∷ 0 ∷ 0 ∷ 0 ∷ 0 ∷ 0 ∷ 0 ∷ 0 ∷ 0 ∷ 0 ∷ []

is_rule : ℕ → ℕ → Bool
is_rule op x = eqb x (rule_of op)

-- the table's entry at a code is the code's rule
pub rule_at_lem : HasRules rules
unfolding rules is_rule rule_of
rule_at_lem op h = eqb→eq (get_or rules op 0) (rule_of op) (at is_rule rules tt op h)

-- a code is known where its rule is not 0
either : (n : ℕ) (a b : Bool) → not (eqb (cond a (suc n) (cond b 52 0)) 0) ≡ (a || b)
either n true b = rw (ne_eqb (suc n) 0 (omega arith))
either n false true = refl
either n false false = refl

pub known_rule : (op : ℕ) → not (eqb (rule_of op) 0) ≡ known op
unfolding rule_of known
known_rule zero = refl
known_rule (suc n) = either n (leb 1 (suc n) && leb (suc n) 51) (leb 64 (suc n) && leb (suc n) 123)
