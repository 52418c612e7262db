-- The bytes of a number: how many, each one a byte, one alone, and eight by halves. Assumes nothing.
use mathlib.Core.Path.{◌≡◌, refl, ap}
use mathlib.Core.List.{List, [], ◌∷◌, ◌++◌}
use Prim.Native.Nat.{ℕ, zero, suc, ◌+◌, ◌*◌, ◌^◌, ◌/◌, ◌%◌, ◌<◌}
use native.Mathlib.Nat.{div-lt_iff_lt-mul, mod-lt, pow-suc}
use native.Mathlib.Omega.{arith}
use lib.ListN.{length}
use Rattle.wire.specs.Bytes.{Bytes, be}
use Rattle.wire.proofs.ReadBack.{pow_pos}

pub be_length : (k v : ℕ) (r : List ℕ) → length (be k v r) ≡ k + length r
unfolding be
be_length zero v r = omega arith
be_length (suc k) v r = let h = be_length k (v % 256 ^ k) r in omega (arith, h)

pub be_append : (k v : ℕ) (r t : List ℕ) → be k v (r ++ t) ≡ be k v r ++ t
unfolding be
be_append zero v r t = refl
be_append (suc k) v r t = ap (λ s. v / 256 ^ k ∷ s) (be_append k (v % 256 ^ k) r t)

-- of a number that fits, each is a byte
pub be_bytes : (k v : ℕ) (r : List ℕ) → v < 256 ^ k → Bytes r → Bytes (be k v r)
unfolding be
be_bytes zero v r h rest = rest
be_bytes (suc k) v r h rest = ((div-lt_iff_lt-mul (pow_pos k)).1 (let i : v < 256 ^ k * 256 = rw pow-suc at h in omega arith), be_bytes k (v % 256 ^ k) r (mod-lt v (pow_pos k)) rest)

pub be_one : (v : ℕ) → be 1 v [] ≡ v ∷ []
unfolding be
be_one v = ap (λ a. a ∷ []) (omega arith)

-- eight bytes are two times four
pub be_eight : (v : ℕ) → be 8 v [] ≡ be 4 (v / 4294967296) [] ++ be 4 (v % 4294967296) []
unfolding be
be_eight v =
    let a : v / 4294967296 / 16777216 ≡ v / 72057594037927936 = omega arith in
    let b : v / 4294967296 % 16777216 / 65536 ≡ v % 72057594037927936 / 281474976710656 = omega arith in
    let c : v / 4294967296 % 16777216 % 65536 / 256 ≡ v % 72057594037927936 % 281474976710656 / 1099511627776 = omega arith in
    let d : v / 4294967296 % 16777216 % 65536 % 256 / 1 ≡ v % 72057594037927936 % 281474976710656 % 1099511627776 / 4294967296 = omega arith in
    let e : v % 72057594037927936 % 281474976710656 % 1099511627776 % 4294967296 ≡ v % 4294967296 = omega arith in
    rw (a, b, c, d, e)
