-- The best of some packings is the first with the fewest pages. Assumes nothing.
use Rattle.std.proofs.Common.{◌≡◌, refl, ap, Bool, true, false, cond, List, [], ◌∷◌, ◌++◌, ◌≤◌, ◌<◌, arith, ltb, ltb-true, ltb-false}
use Rattle.std.specs.List.{AllByRecursion as Each}
use Rattle.std.proofs.lemmas.Bool.Decides.{nat_tests}
use Rattle.pages.specs.declared.state.State.{State}
use Rattle.pages.specs.Search.{better, fewest}

better_le : (m s : State) → (better m s).opened ≤ m.opened
better_le m s = grind (arith, nat_tests)

-- the best of more packings has no more pages
pub fewest_le : (m : State) (ss : List State) → (fewest m ss).opened ≤ m.opened
fewest_le m [] = omega arith
fewest_le m (s ∷ ss) = omega (arith, fewest_le (better m s) ss, better_le m s)

-- f stands among some packings, those before it have more pages, and those behind it have as many or more
abbrev First : State → List State → Type 0
First f ms = (us : List State) × (ts : List State) × (ms ≡ us ++ f ∷ ts) × Each (λ s. f.opened < s.opened) us × Each (λ s. f.opened ≤ s.opened) ts

-- a packing that is not better comes in behind m
kept : (m s f : State) (ss us ts : List State) → m.opened ≤ s.opened → m ∷ ss ≡ us ++ f ∷ ts → Each (λ s. f.opened < s.opened) us
    → Each (λ s. f.opened ≤ s.opened) ts → First f (m ∷ s ∷ ss)
kept m s f ss [] ts l e h k =
    let z : m ≡ f = cc in
    ([], s ∷ ts, cc, tt, (omega (arith, ap (λ (x : State). x.opened) z), k))
kept m s f ss (u ∷ us) ts l e h k =
    let z : m ≡ u = cc in
    let n : f.opened < m.opened = omega (arith, h.0, ap (λ (x : State). x.opened) z) in
    (m ∷ s ∷ us, ts, cc, (n, (omega arith, h.1)), k)

first_by : (m s f : State) (ss : List State) (c : Bool) → ltb s.opened m.opened ≡ c → f.opened ≤ (cond c s m).opened
    → First f (cond c s m ∷ ss) → First f (m ∷ s ∷ ss)
first_by m s f ss true e l r = (m ∷ r.0, r.1, ap (λ x. m ∷ x) r.2, (omega (arith, ltb-true s.opened m.opened e), r.3), r.4)
first_by m s f ss false e l r = kept m s f ss r.0 r.1 (ltb-false s.opened m.opened e) r.2 r.3 r.4

pub first_fewest : (m : State) (ss : List State) → First (fewest m ss) (m ∷ ss)
first_fewest m [] = ([], [], refl, tt, tt)
first_fewest m (s ∷ ss) = first_by m s _ ss (ltb s.opened m.opened) refl (fewest_le (better m s) ss) (first_fewest (better m s) ss)
