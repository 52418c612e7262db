-- What a hit says of the words: it is the decision of any claim that they decide. Assumes nothing.
use mathlib.Core.Path.{◌≡◌, refl, ◌∙◌}
use mathlib.Core.Bool.{true, false}
use mathlib.Core.List.{List, [], ◌∷◌}
use Prim.Native.Nat.{ℕ, zero, suc, ◌+◌, ◌*◌, ◌-◌, ◌<◌}
use native.Mathlib.Omega.{arith}
use borrow.Author.Tests.{eqb-true, eq-eqb}
use lib.Dec.{eqb}
use lib.ListN.{length, get_or, take, drop}
use Rattle.std.specs.Cmp.Derive.{both_true}
use Rattle.std.proofs.Math.Bool.{and-false}
use Rattle.std.proofs.lemmas.Bool.{and_parts}
use Rattle.std.proofs.lemmas.List.{drop_more}
use Rattle.lowering.specs.Search.{stands, hit}
use Rattle.lowering.proofs.Slots.{same, same_is}

module _ (W : List ℕ) where
  -- the words from a place on, one by one
  abbrev pub Stand : ℕ → List ℕ → Type 0
  Stand at [] = Unit {0}
  Stand at (a ∷ key) = (get_or W at 0 ≡ a) × Stand (at + 1) key

  stands_true : (at : ℕ) (key : List ℕ) → Stand at key → stands W at key ≡ true
  unfolding stands
  stands_true at [] s = refl
  stands_true at (a ∷ key) s = both_true (eq-eqb _ a s.0) (stands_true (at + 1) key s.1)

  true_stands : (at : ℕ) (key : List ℕ) → stands W at key ≡ true → Stand at key
  unfolding stands
  true_stands at [] e = tt
  true_stands at (a ∷ key) e = let h = and_parts _ _ e in (eqb-true _ a h.0, true_stands (at + 1) key h.1)

  -- one word that is another is enough
  pub stands_false : (at n : ℕ) (words : List ℕ) (j : ℕ) → j < n → j < length words → eqb (get_or W (at + j) 0) (get_or words j 0) ≡ false → stands W at (take n words) ≡ false
  unfolding stands
  stands_false at n [] j l m e = absurd (omega arith)
  stands_false at zero (a ∷ words) j l m e = absurd (omega arith)
  stands_false at (suc n) (a ∷ words) zero l m e = let z : at + 0 ≡ at = omega arith in rw (rw z at e)
  stands_false at (suc n) (a ∷ words) (suc j) l m e = let z : at + suc j ≡ at + 1 + j = omega arith in rw (stands_false (at + 1) n words j (omega arith) (omega arith) (rw z at e)) (and-false _)

  -- the words compared one by one: those behind the first j decide
  abbrev pub Stood : ℕ → ℕ → List ℕ → ℕ → Type 0
  Stood at n words j = stands W at (take n words) ≡ stands W (at + j) (take (n - j) (drop j words))

  pub stood_on : (at n : ℕ) (words : List ℕ) (j : ℕ) → j < n → j < length words → get_or W (at + j) 0 ≡ get_or words j 0 → Stood at n words j → Stood at n words (j + 1)
  unfolding stands
  stood_on at n words j l m e s =
      let z : at + j + 1 ≡ at + (j + 1) = omega arith in
      let k : n - j ≡ suc (n - (j + 1)) = omega arith in
      s ∙ rw (k, drop_more words j 0 m, eq-eqb _ _ e, z)

-- where the key's words are what decides
pub hit_decides : (W : List ℕ) (from width : ℕ) (key : List ℕ) (i : ℕ) {P : Type 0} (d : Dec P) → (Stand W (from + width * i) key → P) → (P → Stand W (from + width * i) key) → hit W from width key i ≡ same d
unfolding hit
hit_decides W from width key i d f g = same_is _ d (λ e. f (true_stands W _ key e)) (λ p. stands_true W _ key (g p))
