-- Open operands, loops and handlers: one record, combined and compared count by count. Definitions only.
use Rattle.std.specs.Prelude.{List, [], ◌∷◌, ℕ, ◌≤◌}

-- in an event what is open; in a program the declared maxima, where stack is of operands
pub record Counts : Type 0 where
  pub operands : ℕ
  pub loops : ℕ
  pub handlers : ℕ

-- in the order of a program image
abbrev pub numbers : Counts → List ℕ
numbers c = c.operands ∷ c.loops ∷ c.handlers ∷ []

-- every count is n
abbrev pub all : ℕ → Counts
all n = record { operands = n; loops = n; handlers = n }

-- f of each count of one and of the other
abbrev pub pairwise : (ℕ → ℕ → ℕ) → Counts → Counts → Counts
pairwise f a b = record { operands = f a.operands b.operands; loops = f a.loops b.loops; handlers = f a.handlers b.handlers }

-- R holds of each count of one and of the other
pub record EachCount (R : ℕ → ℕ → Type 0) (a b : Counts) : Type 0 where
  pub operands : R a.operands b.operands
  pub loops : R a.loops b.loops
  pub handlers : R a.handlers b.handlers

-- no more open than declared
abbrev pub AtMost : Counts → Counts → Type 0
AtMost now declared = EachCount (λ n most. n ≤ most) now declared
