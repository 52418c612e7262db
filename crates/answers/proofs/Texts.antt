-- A text laid at the start of an output that has room for it. Assumes nothing.
use mathlib.Core.Path.{◌≡◌, sym, ap, ◌∙◌}
use mathlib.Core.Bool.{Bool, cond}
use mathlib.Core.List.{List, ◌++◌}
use Prim.Native.Nat.{ℕ, ◌≤◌}
use lib.ListN.{length, drop}
use borrow.Author.Tests.{le-leb}
use Rattle.answers.specs.Refusals.{laid, taken}

-- what `put_text` promises of a text
abbrev pub Put : List ℕ → List ℕ → List ℕ → ℕ → Type 0
Put t s s' r = (s' ≡ laid t s) × (r ≡ taken t s)

pub fits : (t s c : List ℕ) → length t ≤ length s → c ≡ t → Put t s (c ++ drop (length t) s) (length t)
fits t s c h e =
    let b = le-leb (length t) (length s) h in (
      ap (λ (x : List ℕ). x ++ drop (length t) s) e ∙ sym (ap (λ (b : Bool). cond b (t ++ drop (length t) s) s) b),
      sym (ap (λ (b : Bool). cond b (length t) 0) b),
    )
