-- A node by its rule; what follows behind the first operand of a sum's rest and of a host call, as their loops take it; a call as one step. Assumes nothing.
use mathlib.Core.Path.{◌≡◌, refl}
use mathlib.Core.Bool.{Bool}
use mathlib.Core.List.{List}
use Prim.Native.Nat.{ℕ, zero, suc, ◌-◌}
use native.Mathlib.Numerals.{sub-one}
use lib.Dec.{eqb}
use Rattle.ast.specs.Node.{next_at, count_at, first_at}
use Rattle.program.specs.Opcodes as O
use Rattle.payload.specs.declared.NameRef.{NameRef}
use Rattle.payload.specs.declared.QueryRef.{QueryRef}
use Rattle.payload.specs.declared.Payload.{Payload}
use Rattle.payload.specs.declared.Payload.TheVariants.{Query}
use Rattle.payload.specs.Payloads.{payload_ref_at}
use Rattle.lowering.specs.Held.{Held}
use Rattle.builder.specs.Steps.{still, pushed}
use Rattle.lowering.specs.Pools.{Found}
use Rattle.lowering.specs.Parts.{Step, instr, put_post, call_begun}
use Rattle.lowering.specs.Payloads.{cases, as_query}
use Rattle.lowering.specs.Steps.{queried}
use Rattle.lowering.specs.Rules.{rule, branch, expr, under, terms, host_arguments, arguments, called, query}

-- a node that has a level is what its rule makes of it, its children a level deeper
pub by_rule : (t : List ℕ) (n p : ℕ) (l : Bool) (h : Held) → (n ≡ 0 → ⊥) → expr t n p l h ≡ under t (n - 1) (branch t) (n - 1) p l (rule t p) h
unfolding expr
by_rule t zero p l h z = absurd (z refl)
by_rule t (suc n) p l h z = rw (sub-one (suc n))

module _ (t : List ℕ) (E : ℕ → Bool → Step) (C : ℕ → NameRef → Bool → Step) (R : ℕ → Bool → Step) where
  -- m more terms behind one, from q on
  unfoldable pub terms_behind : ℕ → ℕ → ℕ → Bool → Step
  terms_behind p zero q l h = put_post t p O.ADD_LAST 0 0 h
  terms_behind p (suc m) q l h = terms_behind p m (next_at t q) l (E q l (instr O.ADD_ACC 0 0 0 h))

  pub terms_after_first : (p m a : ℕ) (l : Bool) (h : Held) → terms t E C R p m a l h ≡ terms_behind p m (next_at t a) l (E a l h)
  unfolding terms terms_behind
  terms_after_first p zero a l h = refl
  terms_after_first p (suc m) a l h = terms_after_first p m (next_at t a) l (instr O.ADD_ACC 0 0 0 (E a l h))

  -- the same of a host call's arguments
  unfoldable pub arguments_behind : ℕ → ℕ → ℕ → ℕ → ℕ → Bool → Step
  arguments_behind p f k zero q l h = put_post t p O.HOST_MATH k f h
  arguments_behind p f k (suc m) q l h = arguments_behind p f k m (next_at t q) l (E q l (still pushed h))

  pub host_after_first : (p f k m a : ℕ) (l : Bool) (h : Held) → host_arguments t E C R p f k m a l h ≡ arguments_behind p f k m (next_at t a) l (E a l h)
  unfolding host_arguments arguments_behind
  host_after_first p f k zero a l h = refl
  host_after_first p f k (suc m) a l h = host_after_first p f k m (next_at t a) l (still pushed (E a l h))

  -- a call: its number, its arguments, and the instruction
  pub call_all : (p : ℕ) (h : Held) {k a j : ℕ} {y : Payload} {q : QueryRef} {x : Found} {h1 h2 h3 : Held} → y ≡ payload_ref_at t p → y ≡ Query q → k ≡ count_at t p → h1 ≡ still (queried (eqb k 0)) h → x ≡ call_begun q.index q.impl_idx k h1 → a ≡ first_at t p
      → h2 ≡ arguments t E C R x.0.state.code.base x.0.state.code.waiting k a h1.0.listed.arguments (x.0.state, x.1) → j ≡ x.0.index → h3 ≡ put_post t p O.CALL 0 j h2 → h3 ≡ query t E C R p h
  unfolding query as_query cases called call_begun
  call_all p h ey en ek e1 ex ea e2 ej e3 = rw (← ey, en, ← ek, e3, ej, e2, ex, e1, ea)
