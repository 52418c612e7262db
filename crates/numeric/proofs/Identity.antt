-- A float that equals 1.0 has 1.0's bits, and one that equals 0.0 those of one of the two zeros. So the test on two floats is the test on their patterns. Assumes nothing.
use mathlib.Core.Path.{◌≡◌, refl, sym, ap, ap₂, ◌∙◌, subst}
use mathlib.Core.Bool.{Bool, true, false, not, ◌&&◌, ◌||◌, beq, cond}
use mathlib.Core.Logic.{◌⊎◌, inl, inr}
use Prim.Native.Nat.{ℕ, ◌*◌, ◌<◌}
use native.Mathlib.Nat.{one-mul}
use native.Mathlib.Omega.{arith}
use lib.IntN.{pos}
use lib.Dec.{T, eqb}
use lib.Ieee.{Float, nan, inf, fin, up, down, binary32, fits, is_nan, of_bits, to_bits, eq}
use lib.Ieee.Bits.{of_bits-fits, to_bits-of_bits}
use lib.Ieee.Fits.{down_pos}
use lib.Ieee.Exact.{HasValue}
use lib.Ieee.Back.{whole_unique}
use borrow.Author.Tests.{eqb-true, eq-eqb}
use Rattle.std.proofs.lemmas.Bool.{and_parts, or_cases}
use Rattle.numeric.specs.Post.{Post, identity, is_identity, scaled, fold}
use Rattle.numeric.specs.PostOp.{post_of, patterns_of, identity_op, scaled_op, fold_op}

-- two tests that each pass where the other does
same_test : (a b : Bool) → (a ≡ true → b ≡ true) → (b ≡ true → a ≡ true) → a ≡ b
same_test true b f g = sym (f refl)
same_test false true f g = g refl
same_test false false f g = refl

-- ---- what `eq` says against 1.0 and against 0.0
-- the sign is plus, unless the size is 0, which 1 is not
plus : (s : Bool) (a d : ℕ) → 0 < d → a ≡ d → (beq s false || eqb a 0) ≡ true → s ≡ false
plus false a d h e t = refl
plus true a d h e t = let z : a ≡ 0 = eqb-true a 0 t in absurd (omega arith)

eq_one_value : (x : Float) → eq x (fin false 1 (pos 0)) ≡ true → HasValue x false 1 1
unfolding eq
eq_one_value nan e = cc
eq_one_value (inf s) e = cc
eq_one_value (fin s m k) e =
    let p = and_parts (eqb (m * up k * 1) (1 * down k)) (beq s false || eqb (m * up k * 1) 0) e in
    let v : m * up k * 1 ≡ 1 * down k = eqb-true (m * up k * 1) (1 * down k) p.0 in
    (plus s (m * up k * 1) (1 * down k) (subst (λ (n : ℕ). 0 < n) (sym (one-mul (down k))) (down_pos k)) v p.1, v)

eq_zero_value : (x : Float) → eq x (fin false 0 (pos 0)) ≡ true → HasValue x false 0 1 ⊎ HasValue x true 0 1
unfolding eq
eq_zero_value nan e = cc
eq_zero_value (inf s) e = cc
eq_zero_value (fin false m k) e = inl (refl, eqb-true (m * up k * 1) (0 * down k) (and_parts (eqb (m * up k * 1) (0 * down k)) (beq false false || eqb (m * up k * 1) 0) e).0)
eq_zero_value (fin true m k) e = inr (refl, eqb-true (m * up k * 1) (0 * down k) (and_parts (eqb (m * up k * 1) (0 * down k)) (beq true false || eqb (m * up k * 1) 0) e).0)

-- ---- a pattern whose float has such a value is the number's own pattern
back : (n : ℕ) (v : Float) → n < 4294967296 → of_bits binary32 n ≡ v → T (not (is_nan v)) → to_bits binary32 v ≡ n
back n v h e t = ap (to_bits binary32) (sym e) ∙ to_bits-of_bits binary32 n h (subst (λ (x : Float). T (not (is_nan x))) (sym e) t)

one_bits : (n : ℕ) → n < 4294967296 → eq (of_bits binary32 n) (fin false 1 (pos 0)) ≡ true → n ≡ 0x3f800000
unfolding to_bits is_nan fits
one_bits n h e = sym (back n (fin false 1 (pos 0)) h (whole_unique binary32 (of_bits binary32 n) (fin false 1 (pos 0)) false 1 (of_bits-fits binary32 n) tt (eq_one_value (of_bits binary32 n) e) (refl, refl)) tt)

zero_bits : (n : ℕ) → n < 4294967296 → eq (of_bits binary32 n) (fin false 0 (pos 0)) ≡ true → (n ≡ 0) ⊎ (n ≡ 0x80000000)
unfolding to_bits is_nan fits
zero_bits n h e = pick (eq_zero_value (of_bits binary32 n) e)
  where
    pick : HasValue (of_bits binary32 n) false 0 1 ⊎ HasValue (of_bits binary32 n) true 0 1 → (n ≡ 0) ⊎ (n ≡ 0x80000000)
    pick (inl v) = inl (sym (back n (fin false 0 (pos 0)) h (whole_unique binary32 (of_bits binary32 n) (fin false 0 (pos 0)) false 0 (of_bits-fits binary32 n) tt v (refl, refl)) tt))
    pick (inr v) = inr (sym (back n (fin true 0 (pos 0)) h (whole_unique binary32 (of_bits binary32 n) (fin true 0 (pos 0)) true 0 (of_bits-fits binary32 n) tt v (refl, refl)) tt))

-- ---- the two tests are one
pub one_test : (n : ℕ) → n < 4294967296 → eq (of_bits binary32 n) (of_bits binary32 0x3f800000) ≡ eqb n 0x3f800000
unfolding eq of_bits
one_test n h =
    same_test (eq (of_bits binary32 n) (fin false 1 (pos 0))) (eqb n 0x3f800000)
    (λ e. eq-eqb n 0x3f800000 (one_bits n h e))
    (λ e. ap (λ (m : ℕ). eq (of_bits binary32 m) (fin false 1 (pos 0))) (eqb-true n 0x3f800000 e))

pub zero_test : (n : ℕ) → n < 4294967296 → eq (of_bits binary32 n) (of_bits binary32 0) ≡ (eqb n 0 || eqb n 0x80000000)
unfolding eq of_bits
zero_test n h = same_test (eq (of_bits binary32 n) (fin false 0 (pos 0))) (eqb n 0 || eqb n 0x80000000) (λ e. to (zero_bits n h e)) (λ e. from (or_cases (eqb n 0) (eqb n 0x80000000) e))
  where
    to : (n ≡ 0) ⊎ (n ≡ 0x80000000) → (eqb n 0 || eqb n 0x80000000) ≡ true
    to (inl z) = ap (λ (m : ℕ). eqb m 0 || eqb m 0x80000000) z
    to (inr z) = ap (λ (m : ℕ). eqb m 0 || eqb m 0x80000000) z

    from : (eqb n 0 ≡ true) ⊎ (eqb n 0x80000000 ≡ true) → eq (of_bits binary32 n) (fin false 0 (pos 0)) ≡ true
    from (inl z) = ap (λ (m : ℕ). eq (of_bits binary32 m) (fin false 0 (pos 0))) (eqb-true n 0 z)
    from (inr z) = ap (λ (m : ℕ). eq (of_bits binary32 m) (fin false 0 (pos 0))) (eqb-true n 0x80000000 z)

-- the test on the two floats is the test on the two patterns
pub identity_is : (p : Post) → p.scale < 4294967296 → p.offset < 4294967296 → identity_op (post_of p) ≡ is_identity p
unfolding identity_op is_identity
identity_is p hs ho = ap₂ (λ (a b : Bool). a && b) (one_test p.scale hs) (zero_test p.offset ho)

-- and so is the fold
pub fold_is : (p : Post) (raw : ℕ) → p.scale < 4294967296 → p.offset < 4294967296 → fold_op (post_of p) raw ≡ fold p raw
unfolding fold_op fold scaled_op scaled
fold_is p raw hs ho = ap (λ (b : Bool). cond b raw (scaled p raw)) (identity_is p hs ho)

-- the identity's floats have the identity's patterns
pub identity_patterns : patterns_of (post_of identity) ≡ identity
unfolding of_bits to_bits
identity_patterns = refl
