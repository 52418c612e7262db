-- The search from nothing placed, and the checks. Assumes nothing.
use mathlib.Core.Path.{sym, ap, ◌∙◌}
use mathlib.Core.Path.{◌≡◌, refl}
use native.Mathlib.Omega.{arith}
use Rattle.std.proofs.Common.{ℕ, ◌<◌, ◌≤◌, min, Bool, true, false, cond, ◌&&◌, List, [], ◌∷◌, length, leb, take, drop, replicate, ◌++◌, ◌-◌}
use Rattle.std.proofs.lemmas.Bool.{lt-leb, le-leb}
use Rattle.std.proofs.lemmas.List.{length-take-le, drop-replicate}
use Rattle.std.proofs.Math.Seq.{take-append_seam, drop-append_seam}
use Rattle.pages.specs.declared.state.State.{State}
use Rattle.pages.specs.Search.{visits, packings, best, steps}
use Rattle.pages.proofs.Turns.{take_none}
use Rattle.pages.specs.Order.{ordered}
use Rattle.pages.specs.State.{start, started}
use Rattle.pages.specs.Answer.{Answer, small, packed, refused, answer}

pub none_placed : (xs : List ℕ) (budget : ℕ) → length xs ≡ 0 → ◌≡◌ {A = State × ℕ} (start xs, 0) (best xs budget, steps xs budget)
unfolding visits packings started ordered
none_placed [] b e = let m : min b 0 ≡ 0 = omega arith in rw (take_none b, m) refl
none_placed (x ∷ xs) b e = absurd (omega arith)

by_either : (x y : Answer) (p q : Bool) → false ≡ q → y ≡ cond (p && q) x y
by_either x y true q h = rw (← h) refl
by_either x y false q h = refl

module _ (xs : List ℕ) (b : ℕ) where
  pub too_many : 32 < length xs → refused ≡ answer xs b
  unfolding answer
  too_many h = rw (lt-leb (length xs) 32 h) refl

  pub too_large : false ≡ small xs → refused ≡ answer xs b
  unfolding answer
  too_large h = by_either (packed xs b) refused (leb (length xs) 32) (small xs) h

  pub taken : length xs ≤ 32 → true ≡ small xs → packed xs b ≡ answer xs b
  unfolding answer
  taken h k = rw (le-leb (length xs) 32 h, ← k) refl

-- the first n of a list, and zeros behind them
pub seam : (xs ps : List ℕ) (n : ℕ) → length ps ≡ 32 → n ≤ 32 → xs ≡ take n ps
    → (take n (xs ++ drop n (replicate 32 0)) ≡ take n ps) × (drop n (xs ++ drop n (replicate 32 0)) ≡ replicate (32 - n) 0)
seam xs ps n e h is =
    let l : length xs ≡ n = ap length is ∙ length-take-le n ps (omega arith) in
    let zs = drop n (replicate 32 0) in (
      ap (λ k. take k (xs ++ zs)) (sym l) ∙ take-append_seam xs zs ∙ is,
      ap (λ k. drop k (xs ++ zs)) (sym l) ∙ drop-append_seam xs zs ∙ drop-replicate n 32 0,
    )
