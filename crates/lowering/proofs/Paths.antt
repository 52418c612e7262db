-- A member path at no level and at one more, as the test of its levels tells. Assumes nothing.
use mathlib.Core.Path.{◌≡◌, refl, ap}
use mathlib.Core.Bool.{cond}
use mathlib.Core.List.{List}
use Prim.Native.Nat.{ℕ, zero, suc, ◌-◌}
use native.Mathlib.Numerals.{sub-one}
use lib.Dec.{eqb}
use Rattle.ast.specs.Rules.{member}
use Rattle.ast.specs.Node.{count_at, first_at}
use borrow.Author.Tests.{ne_eqb}
use Rattle.std.specs.Prelude.{Option, None, Some}
use Rattle.std.specs.Option.{option_map}
use Rattle.lowering.specs.Held.{Held}
use Rattle.payload.specs.declared.NameRef.{NameRef}
use Rattle.payload.specs.declared.Payload.{Payload}
use Rattle.payload.specs.declared.Payload.TheVariants.{Member}
use Rattle.lowering.specs.declared.assign.PathEnd.{PathEnd}
use Rattle.lowering.specs.Payloads.{as_name, cases}
use Rattle.lowering.specs.Parts.{path_added}
use Rattle.lowering.specs.Rules.{payload, rule, is_link, longer, path_end, path_hashes}

pub no_end : (t : List ℕ) (n p : ℕ) → n ≡ 0 → path_end t n p ≡ None
unfolding path_end
no_end t n p e = ap (λ (m : ℕ). path_end t m p) e

pub an_end : (t : List ℕ) (n p : ℕ) → (n ≡ 0 → ⊥)
    → path_end t n p ≡ cond (is_link t p) (as_name 6 (payload t p) None (λ m. cond (eqb (count_at t p) 0) None (option_map (longer t) (path_end t (n - 1) (first_at t p))))) (Some (record { root = p; count = 0 }))
unfolding path_end
an_end t zero p e = absurd (e refl)
an_end t (suc n) p e = rw (sub-one (suc n))

pub no_hash : (t : List ℕ) (n p : ℕ) (h : Held) → n ≡ 0 → path_hashes t n p h ≡ h
unfolding path_hashes
no_hash t n p h e = ap (λ (m : ℕ). path_hashes t m p h) e

pub a_hash : (t : List ℕ) (n p : ℕ) (h : Held) → (n ≡ 0 → ⊥)
    → path_hashes t n p h ≡ cond (is_link t p) (as_name 6 (payload t p) h (λ m. path_added m.hash (path_hashes t (n - 1) (first_at t p) h))) h
unfolding path_hashes
a_hash t zero p h e = absurd (e refl)
a_hash t (suc n) p h e = rw (sub-one (suc n))

-- the path goes on by one more link
pub goes_on : (t : List ℕ) (n p : ℕ) {k : ℕ} {y : Payload} {m : NameRef} {e : PathEnd} → (n ≡ 0 → ⊥) → rule t p ≡ member → y ≡ payload t p → y ≡ Member m → k ≡ count_at t p → (k ≡ 0 → ⊥)
    → path_end t (n - 1) (first_at t p) ≡ Some e → ◌≡◌ {A = Option PathEnd} (Some (longer t e)) (path_end t n p)
unfolding as_name cases
goes_on t n p {k = k} z r ey em ek f e = rw (an_end t n p z, r, ← ey, em, ← ek, ne_eqb k 0 f, e)
