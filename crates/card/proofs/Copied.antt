-- A run of the tree's bytes copied at once is the run written byte by byte. Assumes nothing.
use Rattle.std.proofs.Common.{◌≡◌, ℕ, zero, suc, ◌+◌, ◌≤◌, ◌<◌, List, [], ◌∷◌, ◌++◌, length, get_or, take, drop, refl, sym, ap, ap₂, ◌∙◌, arith, length-drop}
use Rattle.std.proofs.Math.Seq.{take-suc}
use Rattle.std.proofs.lemmas.List.{get_or-drop, length-take}
use borrow.Rule.Slice.PartMut.{put_mid}
use Rattle.wire.proofs.Numbers.{be_one}
use Rattle.endian.proofs.Runs.{sets_whole}
use Rattle.card.specs.Written.{Wrote, cat}
use Rattle.card.specs.Image.{byte_entry}

pub run : (tree : List ℕ) (from n : ℕ) → from + n ≤ length tree → cat (byte_entry tree from) n ≡ take n (drop from tree)
unfolding cat
run tree from zero h = refl
run tree from (suc n) h =
    let l : n < length (drop from tree) = omega (arith, length-drop from tree) in
    let b : get_or (drop from tree) n 0 ≡ get_or tree (from + n) 0 = get_or-drop from tree n 0 in
    ap₂ (λ xs ys. xs ++ ys) (run tree from n (omega arith)) (be_one (get_or tree (from + n) 0) ∙ sym (ap (λ v. v ∷ []) b))
    ∙ sym (take-suc (drop from tree) n 0 l)

pub copied : (tree out new : List ℕ) (from n at a k : ℕ) → a ≡ n → k ≡ n → from + n ≤ length tree → at + n ≤ length out → new ≡ take a (drop from tree)
    → Wrote out at (cat (byte_entry tree from) n) (put_mid at k out new) (at + n)
copied tree out new from n at a k p q h l e =
    let vs : List ℕ = cat (byte_entry tree from) n in
    let is : new ≡ vs = e ∙ ap (λ m. take m (drop from tree)) p ∙ sym (run tree from n h) in
    let long : length vs ≡ n = ap length (run tree from n h) ∙ simp (length-take, length-drop) (omega arith) in
    record { bytes = ap (put_mid at k out) is ∙ sets_whole out vs at k (omega arith) (omega arith); next = ap (λ m. at + m) (sym long) }
