-- The bytes of a number by shifts: one law for every shift and every width. Assumes nothing.
use mathlib.Core.Path.{◌≡◌, refl, sym, ap, ap₂, ◌∙◌}
use mathlib.Core.List.{List, [], ◌∷◌}
use Prim.Native.Nat.{ℕ, zero, suc, ◌+◌, ◌*◌, ◌^◌, ◌/◌, ◌%◌, ◌<◌}
use native.Mathlib.Nat.{mod-lt, mod-eq_of_lt, mul-suc, pow-suc, pow-succ'}
use native.Mathlib.Omega.{arith}
use lib.Arith.{digits_div, digits_mod, mod-mul}
use lib.Pow.{pow-add}
use Rattle.wire.specs.Bytes.{be}
use Rattle.wire.proofs.ReadBack.{pow_pos}

-- 8 * k bits are k digits
base : (k : ℕ) → 2 ^ (8 * k) ≡ 256 ^ k
base zero = refl
base (suc k) = ap (λ n. 2 ^ n) (mul-suc 8 k) ∙ pow-add 2 (8 * k) 8 ∙ ap (λ n. n * 256) (base k) ∙ sym (pow-suc 256 k)

-- the byte at a shift of 8 * k is the k-th digit in base 256
pub digit : (v k : ℕ) → v / 2 ^ (8 * k) % 256 ≡ v / 256 ^ k % 256
digit v k = ap (λ n. v / n % 256) (base k)

-- the bytes at the shifts 8 * (k - 1), .. 8, 0
abbrev pub shifts : ℕ → ℕ → List ℕ
shifts zero v = []
shifts (suc k) v = v / 2 ^ (8 * k) % 256 ∷ shifts k v

-- they are a number's k low bytes
low_bytes : (k v : ℕ) → be k (v % 256 ^ k) [] ≡ shifts k v
unfolding be
low_bytes zero v = refl
low_bytes (suc k) v =
    let parts : v % 256 ^ suc k ≡ v / 256 ^ k % 256 * 256 ^ k + v % 256 ^ k = ap (λ n. v % n) (pow-succ' 256 k) ∙ mod-mul v (omega arith) (pow_pos k) in
    let rest : v % 256 ^ k < 256 ^ k = mod-lt v (pow_pos k) in
    ap₂ (λ b s. b ∷ s)
    (ap (λ n. n / 256 ^ k) parts ∙ digits_div (v / 256 ^ k % 256) rest ∙ sym (digit v k))
    (ap (λ n. be k n []) (ap (λ n. n % 256 ^ k) parts ∙ digits_mod (v / 256 ^ k % 256) rest) ∙ low_bytes k v)

-- and all its bytes where it fits
pub be_shifts : (k v : ℕ) → v < 256 ^ k → be k v [] ≡ shifts k v
be_shifts k v h = ap (λ n. be k n []) (sym (mod-eq_of_lt h)) ∙ low_bytes k v
