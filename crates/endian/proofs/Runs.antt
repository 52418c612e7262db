-- A run of stores, one byte at a time. Assumes nothing.
use mathlib.Core.Path.{◌≡◌, refl, sym, ap, ◌∙◌}
use mathlib.Core.List.{List, [], ◌++◌}
use Prim.Native.Nat.{ℕ, ◌+◌, ◌<◌, ◌≤◌}
use native.Mathlib.Omega.{arith}
use lib.ListN.{length, get_or, take, drop}
use lib.Seq.{sets}
use borrow.Rule.Slice.PartMut.{put_mid}
use Rattle.std.proofs.lemmas.List.Edits.{sets-eq}
use Rattle.std.proofs.lemmas.List.{take_more, length-take-le, append_assoc, drop-drop}
use Rattle.wire.specs.Bytes.{be}
use Rattle.wire.proofs.Numbers.{be_one}
use Rattle.wire.proofs.Stores.{sets_join}

-- one byte more
pub sets_more : (s t bs : List ℕ) (at i : ℕ) → i < length bs → t ≡ sets s at (take i bs) → sets t (at + i) (be 1 (get_or bs i 0) []) ≡ sets s at (take (i + 1) bs)
sets_more s t bs at i h e =
    sets_join s at (take i bs) (at + i) (be 1 (get_or bs i 0) []) e refl (ap (λ n. at + n) (sym (length-take-le i bs (omega arith))))
    ∙ ap (λ r. sets s at r) (ap (λ r. take i bs ++ r) (be_one (get_or bs i 0)) ∙ sym (take_more bs i 0 h))

-- bytes that all have a place
pub sets_whole : (s bs : List ℕ) (at k : ℕ) → at + k ≤ length s → length bs ≡ k → put_mid at k s bs ≡ sets s at bs
sets_whole s bs at k h e =
    let i : at + length bs ≤ length s = omega arith in
    sym (sets-eq bs s at i ∙ append_assoc (take at s) bs (drop (at + length bs) s) ∙ ap (λ r. take at s ++ (bs ++ r)) (ap (λ n. drop (at + n) s) e ∙ sym (drop-drop k at s)))
