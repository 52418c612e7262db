-- Runs of stores: one behind the other, one in front of the other, and one that begins past the end. Assumes nothing.
use mathlib.Core.Path.{◌≡◌, refl, ap, ◌∙◌}
use mathlib.Core.List.{List, [], ◌∷◌, ◌++◌}
use Prim.Native.Nat.{ℕ, suc, ◌+◌, ◌≤◌, ◌<◌}
use native.Mathlib.Omega.{arith}
use lib.ListN.{length, length-set, set}
use lib.Seq.{sets, set_comm, set_out}

-- past the end nothing is stored
pub sets_out : (s : List ℕ) (i : ℕ) (vs : List ℕ) → length s ≤ i → sets s i vs ≡ s
sets_out s i [] h = refl
sets_out s i (v ∷ vs) h = sets_out (set s i v) (suc i) vs (rw length-set (omega arith)) ∙ set_out s i v h

pub sets_append : (s : List ℕ) (i : ℕ) (vs ws : List ℕ) → sets (sets s i vs) (i + length vs) ws ≡ sets s i (vs ++ ws)
sets_append s i [] ws = ap (λ n. sets s n ws) (omega arith)
sets_append s i (v ∷ vs) ws = ap (λ n. sets (sets (set s i v) (suc i) vs) n ws) (omega arith) ∙ sets_append (set s i v) (suc i) vs ws

-- one run behind the other, each as its own equation
pub sets_join : (s : List ℕ) (i : ℕ) (vs : List ℕ) {t u : List ℕ} (j : ℕ) (ws : List ℕ) → t ≡ sets s i vs → u ≡ sets t j ws → j ≡ i + length vs → u ≡ sets s i (vs ++ ws)
sets_join s i vs j ws p q e = q ∙ ap (λ x. sets x j ws) p ∙ ap (λ n. sets (sets s i vs) n ws) e ∙ sets_append s i vs ws

-- one run in front of the other
set_before : (s : List ℕ) (i e v : ℕ) (ws : List ℕ) → i < e → set (sets s e ws) i v ≡ sets (set s i v) e ws
set_before s i e v [] h = refl
set_before s i e v (w ∷ ws) h = set_before (set s e w) i (suc e) v ws (omega arith) ∙ ap (λ l. sets l (suc e) ws) (set_comm s e i w v (λ q. omega arith))

pub sets_before : (s : List ℕ) (i : ℕ) (vs ws : List ℕ) → sets (sets s (i + length vs) ws) i vs ≡ sets s i (vs ++ ws)
sets_before s i [] ws = ap (λ n. sets s n ws) (omega arith)
sets_before s i (v ∷ vs) ws =
    ap (λ l. sets l (suc i) vs) (set_before s i (i + suc (length vs)) v ws (omega arith))
    ∙ ap (λ n. sets (sets (set s i v) n ws) (suc i) vs) (omega arith) ∙ sets_before (set s i v) (suc i) vs ws
