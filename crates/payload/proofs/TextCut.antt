-- A name's text cut at the end of the image, as a reader holds it, is the definition's text. Assumes nothing.
use Prim.Native.Nat.{ℕ, ◌+◌, ◌-◌, min}
use native.Mathlib.Omega.{arith}
use native.Mathlib.Decide.{dec_le}
use mathlib.Core.Path.{◌≡◌, sym, ap, ◌∙◌}
use mathlib.Core.List.{List}
use lib.ListN.{length, take, drop, length-drop, drop_of_length-le}
use lib.Seq.{take_all, take-length, drop-length}
use Rattle.wire.specs.Bytes.{be8, reach}
use Rattle.ast.specs.Node.{name_at}

take_min : (n : ℕ) (l : List ℕ) → take (min n (length l)) l ≡ take n l
take_min n l = elim (dec_le n (length l)) [
  | yes h ↦ (let e : min n (length l) ≡ n = omega arith in ap (λ (m : ℕ). take m l) e)
  | no h ↦ (let e : min n (length l) ≡ length l = omega arith in ap (λ (m : ℕ). take m l) e ∙ take-length l ∙ sym (take_all n l (omega arith)))
]

drop_reach : (s : List ℕ) (p k : ℕ) → drop (reach s p k) s ≡ drop (p + k) s
drop_reach s p k = elim (dec_le (p + k) (length s)) [
  | yes h ↦ (let e : reach s p k ≡ p + k = omega arith in ap (λ (m : ℕ). drop m s) e)
  | no h ↦ (let e : reach s p k ≡ length s = omega arith in ap (λ (m : ℕ). drop m s) e ∙ drop-length s ∙ sym (drop_of_length-le s {i = p + k} (omega arith)))
]

pub text_cut : (s : List ℕ) (p : ℕ) → take (min (be8 s p 22) (length s - reach s p 23)) (drop (reach s p 23) s) ≡ (name_at s p).text
unfolding name_at
text_cut s p =
    ap (λ (n : ℕ). take (min (be8 s p 22) n) (drop (reach s p 23) s)) (sym (length-drop (reach s p 23) s))
    ∙ take_min (be8 s p 22) (drop (reach s p 23) s)
    ∙ ap (take (be8 s p 22)) (drop_reach s p 23)
