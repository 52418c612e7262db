-- How what was written joins: one run behind another, one in front of another, one entry more, and the whole. Assumes nothing.
use mathlib.Core.Path.{◌≡◌, refl, ap, ◌∙◌}
use mathlib.Core.List.{List, [], ◌++◌}
use Prim.Native.Nat.{ℕ, ◌+◌, ◌*◌, ◌≤◌, ◌<◌}
use native.Mathlib.Numerals.{add-one}
use native.Mathlib.Nat.{zero-add, mul-le-mul_left}
use native.Mathlib.Omega.{arith}
use lib.ListN.{length, length-append, drop}
use lib.Seq.{sets, sets-eq}
use Rattle.wire.specs.Bytes.{be}
use Rattle.wire.proofs.Numbers.{be_length}
use Rattle.wire.proofs.Stores.{sets_append, sets_join, sets_before}
use Rattle.card.specs.Written.{Wrote, cat}

-- one behind the other
pub join : {s t u vs ws : List ℕ} {at e r : ℕ} → Wrote s at vs t e → Wrote t e ws u r → Wrote s at (vs ++ ws) u r
join {s} {t} {u} {vs} {ws} {at} {e} {r} p q = record {
  bytes = sets_join s at vs e ws p.bytes q.bytes p.next;
  next = rw length-append (omega (arith, p.next, q.next));
}

-- one in front of the other
pub ahead : {s t u vs ws : List ℕ} {at e r : ℕ} → Wrote s e ws t r → Wrote t at vs u e → Wrote s at (vs ++ ws) u r
ahead {s} {t} {u} {vs} {ws} {at} {e} {r} p q = record {
  bytes = q.bytes ∙ ap (λ l. sets l at vs) (p.bytes ∙ ap (λ n. sets s n ws) q.next) ∙ sets_before s at vs ws;
  next = rw length-append (omega (arith, p.next, q.next));
}

-- the same bytes, written otherwise
pub being : {s t vs ws : List ℕ} {at r : ℕ} → Wrote s at vs t r → vs ≡ ws → Wrote s at ws t r
being {s} {t} {vs} {ws} {at} {r} p e = rw (← e) p

-- as equations: one run behind another, and its length
pub behind : (s vs ws : List ℕ) (i j : ℕ) → j ≡ i + length vs → sets (sets s i vs) j ws ≡ sets s i (vs ++ ws)
behind s vs ws i j e = ap (λ n. sets (sets s i vs) n ws) e ∙ sets_append s i vs ws

pub run_length : (vs ws : List ℕ) → length (vs ++ ws) ≡ length vs + length ws
run_length vs ws = length-append vs ws

pub field_length : (k v : ℕ) → length (be k v []) ≡ k
field_length k v = be_length k v [] ∙ omega arith

-- no entries, one entry more, and room for it
pub no_entries : (f : ℕ → List ℕ) → cat f 0 ≡ []
unfolding cat
no_entries f = refl

pub entry_more : (f : ℕ → List ℕ) (i : ℕ) → cat f (i + 1) ≡ cat f i ++ f i
unfolding cat
entry_more f i = ap (cat f) (add-one i)

pub room_more : (m i n : ℕ) → i < n → m * i + m ≤ m * n
room_more m i n h = let next : i + 1 ≤ n = omega arith in omega (arith, mul-le-mul_left m next)

-- what the check finds the promises of the writer by
pub ruleset writing = (behind, run_length, field_length, no_entries, entry_more, room_more)

-- all that was written from the start on, where it has its place
pub whole : {s vs t : List ℕ} {r : ℕ} → Wrote s 0 vs t r → length vs ≤ length s → t ≡ vs ++ drop (length vs) s
whole {s} {vs} p h = p.bytes ∙ sets-eq vs s 0 (omega arith) ∙ ap (λ n. vs ++ drop n s) (zero-add (length vs))

pub long : {s vs t : List ℕ} {r : ℕ} → Wrote s 0 vs t r → r ≡ length vs
long p = p.next ∙ omega arith
