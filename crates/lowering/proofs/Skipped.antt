-- Entries passed by steps: none of them is a hit. Assumes nothing.
use mathlib.Core.Path.{◌≡◌}
use mathlib.Core.Bool.{Bool, true, false}
use mathlib.Core.List.{List}
use Prim.Native.Nat.{ℕ, ◌+◌, ◌-◌, ◌*◌, ◌/◌, ◌≤◌, ◌<◌}
use native.Mathlib.Decide.{dec_lt}
use native.Mathlib.Nat.{mul-add, mul-le-mul_left}
use Rattle.std.proofs.Math.Nat.{mul-div-le}
use native.Mathlib.Omega.{arith}
use lib.ListN.{length, get_or, take}
use Rattle.lowering.specs.Search.{hit, Without, NoneHas}
use Rattle.lowering.proofs.Hits.{stands_false}

-- what is not true has every consequence
pub untrue : {A : Type 0} → false ≡ true → A
untrue e = let z : ◌≡◌ {A = ℕ} 0 1 = cc in absurd (omega arith)

-- none up to n, nor from there up to m
pub none_more : (test : ℕ → Bool) (i n m : ℕ) → NoneHas test i n → NoneHas test n m → NoneHas test i m
none_more test i n m f g k a b = go (dec_lt k n)
  where
    go : Dec (k < n) → test k ≡ false
    go (yes l) = f k a l
    go (no l) = g k (omega arith) b

-- entries that are without one word of the key
pub key_missed : (W : List ℕ) (from width size : ℕ) (words : List ℕ) (j i m : ℕ) → j < size → j < length words → Without W (from + width * i + j) width (get_or words j 0) m → NoneHas (hit W from width (take size words)) i (i + m)
unfolding hit
key_missed W from width size words j i m l o f k a b =
    let d : i + (k - i) ≡ k = omega arith in
    let e : from + width * i + j + width * (k - i) ≡ from + width * (i + (k - i)) + j = omega (arith, mul-add width i (k - i)) in
    stands_false W (from + width * k) size words j l o (rw d at (rw e at (f (k - i) (omega arith))))

-- a step of entries before n lies where n entries do
pub step_within : (from width step k n size : ℕ) → k < n / step → from + width * n ≤ size → from + width * (step * k + step) ≤ size
step_within from width step k n size l h =
    let next : k + 1 ≤ n / step = omega arith in
    let all : step * k + step ≤ n = omega (arith, mul-le-mul_left step next, mul-div-le n step) in
    omega (arith, mul-le-mul_left width all)
