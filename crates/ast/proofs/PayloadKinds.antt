-- Claims on every payload kind by one case each, and the two on names that both directions need. Assumes nothing.
use Prim.Native.Nat.{ℕ, zero, suc, ◌+◌, ◌≤◌}
use native.Mathlib.Omega.{arith}
use mathlib.Core.Path.{◌≡◌, refl}
use mathlib.Core.List.{List}
use lib.ListN.{get_or}
use Rattle.ast.specs.Tree.{p_none, p_name}
use Rattle.ast.specs.Node.{name_at, payloads, size_of}

-- what holds of each kind holds of all; the names, 3 to 10, are one case
pub by_kind : (P : ℕ → Type 0) → P 0 → P 1 → P 2 → ((k : ℕ) → 3 ≤ k → k ≤ 10 → P k) → P 11 → P 12 → (k : ℕ) → k ≤ 12 → P k
by_kind P none float hash name query math zero h = none
by_kind P none float hash name query math (suc zero) h = float
by_kind P none float hash name query math (suc (suc zero)) h = hash
by_kind P none float hash name query math (suc (suc (suc zero))) h = name 3 (omega arith) (omega arith)
by_kind P none float hash name query math (suc (suc (suc (suc zero)))) h = name 4 (omega arith) (omega arith)
by_kind P none float hash name query math (suc (suc (suc (suc (suc zero))))) h = name 5 (omega arith) (omega arith)
by_kind P none float hash name query math (suc (suc (suc (suc (suc (suc zero)))))) h = name 6 (omega arith) (omega arith)
by_kind P none float hash name query math (suc (suc (suc (suc (suc (suc (suc zero))))))) h = name 7 (omega arith) (omega arith)
by_kind P none float hash name query math (suc (suc (suc (suc (suc (suc (suc (suc zero)))))))) h = name 8 (omega arith) (omega arith)
by_kind P none float hash name query math (suc (suc (suc (suc (suc (suc (suc (suc (suc zero))))))))) h = name 9 (omega arith) (omega arith)
by_kind P none float hash name query math (suc (suc (suc (suc (suc (suc (suc (suc (suc (suc zero)))))))))) h = name 10 (omega arith) (omega arith)
by_kind P none float hash name query math (suc (suc (suc (suc (suc (suc (suc (suc (suc (suc (suc zero))))))))))) h = query
by_kind P none float hash name query math (suc (suc (suc (suc (suc (suc (suc (suc (suc (suc (suc (suc zero)))))))))))) h = math
by_kind P none float hash name query math (suc (suc (suc (suc (suc (suc (suc (suc (suc (suc (suc (suc (suc k))))))))))))) h = absurd (omega arith)

-- a name takes nine bytes and its text, and it is read as a name of its kind
pub record NameKind (s : List ℕ) (p t k : ℕ) : Type 0 where
  pub takes : size_of k t ≡ 9 + t
  pub reads : get_or (payloads s p) k p_none ≡ p_name k (name_at s p)

pub name_kind_lem : (s : List ℕ) (p t k : ℕ) → 3 ≤ k → k ≤ 10 → NameKind s p t k
unfolding size_of
name_kind_lem s p t zero l h = absurd (omega arith)
name_kind_lem s p t (suc zero) l h = absurd (omega arith)
name_kind_lem s p t (suc (suc zero)) l h = absurd (omega arith)
name_kind_lem s p t (suc (suc (suc zero))) l h = record { takes = refl; reads = refl }
name_kind_lem s p t (suc (suc (suc (suc zero)))) l h = record { takes = refl; reads = refl }
name_kind_lem s p t (suc (suc (suc (suc (suc zero))))) l h = record { takes = refl; reads = refl }
name_kind_lem s p t (suc (suc (suc (suc (suc (suc zero)))))) l h = record { takes = refl; reads = refl }
name_kind_lem s p t (suc (suc (suc (suc (suc (suc (suc zero))))))) l h = record { takes = refl; reads = refl }
name_kind_lem s p t (suc (suc (suc (suc (suc (suc (suc (suc zero)))))))) l h = record { takes = refl; reads = refl }
name_kind_lem s p t (suc (suc (suc (suc (suc (suc (suc (suc (suc zero))))))))) l h = record { takes = refl; reads = refl }
name_kind_lem s p t (suc (suc (suc (suc (suc (suc (suc (suc (suc (suc zero)))))))))) l h = record { takes = refl; reads = refl }
name_kind_lem s p t (suc (suc (suc (suc (suc (suc (suc (suc (suc (suc (suc k))))))))))) l h = absurd (omega arith)
