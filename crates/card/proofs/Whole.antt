-- The image as a whole: its length, where it is laid, the answer. Assumes nothing.
use mathlib.Core.Path.{◌≡◌, ap, ◌∙◌}
use mathlib.Core.List.{List, [], ◌++◌}
use Prim.Native.Nat.{ℕ, ◌+◌, ◌%◌, ◌≤◌, ◌<◌}
use native.Mathlib.Omega.{arith}
use lib.ListN.{length, length-append, drop}
use borrow.Author.Tests.{le-leb, lt-leb}
use Rattle.wire.specs.Bytes.{be}
use Rattle.wire.proofs.Numbers.{be_length}
use Rattle.card.specs.declared.Sections.{Sections}
use Rattle.card.specs.Written.{Wrote}
use Rattle.card.specs.Image.{body_of, image_of, laid}
use Rattle.card.proofs.Join.{whole, long, being}

pub image_length : (tree ws : List ℕ) (c : Sections) → length (image_of tree ws c) ≡ length (body_of tree ws c) + 5
unfolding image_of
image_length tree ws c =
    let b = body_of tree ws c in
    let n = length b % 4294967296 in
    simp length-append (omega (arith, be_length 1 1 [], be_length 4 n []))

-- where the image has no place, and where it has
pub left : (img s : List ℕ) → length s < length img → s ≡ laid img s
unfolding laid
left img s h = rw lt-leb

pub placed : (img s : List ℕ) → length img ≤ length s → img ++ drop (length img) s ≡ laid img s
unfolding laid
placed img s h = rw le-leb

same : (tree ws : List ℕ) (c : Sections) {n : ℕ} → n ≡ length (body_of tree ws c) → be 1 1 [] ++ be 4 (n % 4294967296) [] ++ body_of tree ws c ≡ image_of tree ws c
unfolding image_of
same tree ws c e = ap (λ k. be 1 1 [] ++ be 4 (k % 4294967296) [] ++ body_of tree ws c) e

pub written : (tree ws : List ℕ) (c : Sections) {s t : List ℕ} {n r : ℕ} → n ≡ length (body_of tree ws c) → n + 5 ≤ length s
    → Wrote s 0 (be 1 1 [] ++ be 4 (n % 4294967296) [] ++ body_of tree ws c) t r → (t ≡ laid (image_of tree ws c) s) × (r ≡ length (image_of tree ws c))
written tree ws c {s} {t} {n} {r} e h p =
    let w : Wrote s 0 (image_of tree ws c) t r = being p (same tree ws c e) in
    let k = image_length tree ws c in
    let l : length (image_of tree ws c) ≤ length s = omega arith in
    (whole w l ∙ placed (image_of tree ws c) s l, long w)
