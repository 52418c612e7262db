-- Readers of bytes: a reader gives a value and the bytes after it; a writer puts bytes in front of what follows. Definitions only.
use Rattle.std.specs.Prelude.{List, [], ◌∷◌, ℕ, zero, suc, ◌+◌, ◌*◌, length}
use Rattle.wire.specs.Bytes.{be}

infixr 30 ◌and◌
-- what a reader gives
pub record Got (A : Type 0) : Type 0 where
  pub val : A
  pub rest : List ℕ

abbrev pub got : {A : Type 0} → A → List ℕ → Got A
got a r = record { val = a; rest = r }

-- one reader after another; the second may depend on the first's value
unfoldable pub ◌and◌ : {A B : Type 0} → (List ℕ → Got A) → (A → List ℕ → Got B) → List ℕ → Got B
◌and◌ f g bytes = g (f bytes).val (f bytes).rest

-- what `do` is read by
abbrev pub ◌>>=◌ : {A B : Type 0} → (List ℕ → Got A) → (A → List ℕ → Got B) → List ℕ → Got B
◌>>=◌ f g = f and g

-- the number a, and k more bytes after its digits, the highest first; where the bytes end the number ends
unfoldable pub number : ℕ → ℕ → List ℕ → Got ℕ
number zero a r = got a r
number (suc k) a [] = got a []
number (suc k) a (b ∷ r) = number k (a * 256 + b) r

-- an unsigned number of k bytes
abbrev pub u : ℕ → List ℕ → Got ℕ
u k = number k 0

-- 01, The program image: "each a 4-byte count and its entries": a count of k bytes and the entries
module _ {A : Type 0} (put : A → List ℕ → List ℕ) where
  unfoldable pub entries : List A → List ℕ → List ℕ
  entries [] r = r
  entries (a ∷ xs) r = put a (entries xs r)

  unfoldable pub list : ℕ → List A → List ℕ → List ℕ
  list k xs r = be k (length xs) (entries xs r)

module _ {A : Type 0} (get : List ℕ → Got A) where
  unfoldable pub times : ℕ → List ℕ → Got (List A)
  times zero r = got [] r
  times (suc n) r = (get and λ a. times n and λ xs. got (a ∷ xs)) r

  unfoldable pub lists : ℕ → List ℕ → Got (List A)
  lists k = u k and times
