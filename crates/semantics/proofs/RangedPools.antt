use mathlib.Core.Path.{◌≡◌}
use mathlib.Core.Bool.{Bool, true, false}
use mathlib.Core.List.{List, [], ◌∷◌, ◌++◌}
use Prim.Native.Nat.{ℕ, suc, ◌≤◌, ◌+◌}
use native.Mathlib.Omega.{arith}
use native.Mathlib.Decide.{ℕ_discrete}
use lib.ListN.{length}
use Rattle.ast.specs.Tree.{Name}
use Rattle.numeric.specs.Post.{Post, is_identity}
use Rattle.program.specs.Fits.{Below, Every, FitPost, root_index}
use Rattle.program.specs.Counts.{Counts, AtMost}
use Rattle.program.specs.Program.{MemberStore}
use Rattle.semantics.proofs.Costs.{weigh, sum_append, count_least, store_weight, sz, size}
use Rattle.semantics.proofs.Positions.{interning}
use Rattle.semantics.proofs.Ranges.{ones, FitText, FitRead, FitPools, Good, Under, Ranged, sets_fit, every_append, every_intern, const_r, flagged_r}
use Rattle.semantics.specs.Pieces.{Lowering, put_const, itself, Pool, interned, const_pool, hash_pool, slot_pool, with_const, with_hash, hash_key, name_pool, with_name, with_slot, with_temp, read_key, member_pool, with_member, with_store, post_key, post_pool, post_if, with_post, constant}
use Rattle.semantics.specs.Positions.{slot, intern, pair_discrete}
use Rattle.semantics.specs.State.{MemberRead, Pools, set_stores, State, set_pools}

-- A piece that enters a value into a pool: its index is within the sizes, and the pool stays fit. Assumes nothing.

-- the index of an entry, and the growth of a pool
slot_less : {A K : Type 0} (key : A → K) (dec : (a b : K) → Dec (a ≡ b)) (v : A) (n : ℕ) (xs : List A) → slot key dec v n xs + 1 ≤ n + weigh 1 (intern key dec v xs)
slot_less key dec v = interning key dec v (λ n xs ys k. k + 1 ≤ n + weigh 1 ys) (λ n. omega arith) (λ n x xs p. omega arith) (λ n x xs ys k i. omega arith)

intern_more : {A K : Type 0} (key : A → K) (dec : (a b : K) → Dec (a ≡ b)) (v : A) (xs : List A) → weigh 1 xs ≤ weigh 1 (intern key dec v xs)
intern_more key dec v = interning key dec v (λ n xs ys k. weigh 1 xs ≤ weigh 1 ys) (λ n. omega arith) (λ n x xs p. omega arith) (λ n x xs ys k i. omega arith) 0

-- fewer indices are asked for
pub weaken : {is js : List ℕ} {f : Lowering} → (Under js → Under is) → Ranged is f → Ranged js f
weaken h a = record { by = λ c b n s. let x = a.by c b n s in record { grows = x.grows; deep = x.deep; ok = λ u. x.ok (h u) } }

pub free : {is : List ℕ} {f : Lowering} → Ranged [] f → Ranged is f
free a = weaken (λ u. tt) a

-- an entry goes into a pool, and its index is within the sizes
pub record Enters (is : List ℕ) (x : ℕ) (s t : State) : Type 0 where
  pub more : size ones s ≤ size ones t
  pub index : suc x ≤ size ones t
  pub deepest : (m : Counts) → AtMost s.deepest m → AtMost t.deepest m
  pub good : Under is → Good s → Good t

module _ {is : List ℕ} where
  entered : (g : ℕ → Lowering) (x : State → ℕ) (t : State → State) → ((s : State) → Enters is (x s) s (t s)) → ((k : ℕ) → Ranged (suc k ∷ is) (g k)) → Ranged is (λ c b n s. g (x s) c b n (t s))
  entered g x t e h = record {
    by = λ c b n s.
        let j = e s in
        let i = (h (x s)).by c b n (t s) in
        record { grows = omega arith; deep = λ m r d. i.deep m (omega arith) (j.deepest m d); ok = λ u l q. i.ok (omega arith, u) l (j.good u q) };
  }

  less : {g : ℕ → Lowering} → ((k : ℕ) → Ranged (k ∷ is) (g k)) → (k : ℕ) → Ranged (suc k ∷ is) (g k)
  less h k = weaken (λ u. (omega (arith, u.0), u.1)) (h k)

  -- an interned pool, whose entries are counted with the others
  interned_r : {A K : Type 0} (pool : Pool A K) (v : A)
      → ((xs : List A) (s : State) → (weigh 1 (pool.get s.pools) ≤ weigh 1 xs → size ones s ≤ size ones (set_pools (pool.set xs s.pools) s)) × (weigh 1 xs ≤ size ones (set_pools (pool.set xs s.pools) s)))
      → (Under is → (p : Pools) → FitPools p → FitPools (pool.set (intern pool.key pool.dec v (pool.get p)) p))
      → (g : ℕ → Lowering) → ((k : ℕ) → Ranged (suc k ∷ is) (g k)) → Ranged is (interned pool v g)
  interned_r pool v e q g h = entered g (λ s. slot pool.key pool.dec v 0 (pool.get s.pools)) (λ s. set_pools (pool.set (intern pool.key pool.dec v (pool.get s.pools)) s.pools) s) counted h
    where
      counted : (s : State) → Enters is (slot pool.key pool.dec v 0 (pool.get s.pools)) s (set_pools (pool.set (intern pool.key pool.dec v (pool.get s.pools)) s.pools) s)
      counted s =
          let i = slot_less pool.key pool.dec v 0 (pool.get s.pools) in
          let j = e (intern pool.key pool.dec v (pool.get s.pools)) s in
          record { more = j.0 (intern_more pool.key pool.dec v (pool.get s.pools)); index = omega arith; deepest = λ m d. d; good = λ u g. record { pools = q u s.pools g.pools; flags = g.flags } }

  pub with_const_r : (v : ℕ) → Below 4 v → (g : ℕ → Lowering) → ((x : ℕ) → Ranged (x ∷ is) (g x)) → Ranged is (with_const v g)
  unfolding sz
  with_const_r v q f h = interned_r const_pool v (λ xs s. ((λ h. omega arith), omega arith)) (λ u p g.
      record { consts = every_intern (Below 4) itself ℕ_discrete v p.consts q g.consts; posts = g.posts; hashes = g.hashes; names = g.names; temps = g.temps; members = g.members; stores = g.stores; calls = g.calls; segments = g.segments }) f (less h)

  pub with_hash_r : (v : ℕ) → Below 8 v → (g : ℕ → Lowering) → ((x : ℕ) → Ranged (x ∷ is) (g x)) → Ranged is (with_hash v g)
  unfolding sz
  with_hash_r v q f h = interned_r hash_pool v (λ xs s. ((λ h. omega arith), omega arith)) (λ u p g.
      record { consts = g.consts; posts = g.posts; hashes = every_intern (Below 8) itself ℕ_discrete v p.hashes q g.hashes; names = g.names; temps = g.temps; members = g.members; stores = g.stores; calls = g.calls; segments = g.segments }) f (less h)

  pub with_name_r : (v : Name) → FitText v → (g : ℕ → Lowering) → ((x : ℕ) → Ranged (x ∷ is) (g x)) → Ranged is (with_name v g)
  unfolding sz
  with_name_r v q f h = interned_r name_pool v (λ xs s. ((λ h. omega arith), omega arith)) (λ u p g.
      record { consts = g.consts; posts = g.posts; hashes = g.hashes; names = every_intern FitText hash_key ℕ_discrete v p.names q g.names; temps = g.temps; members = g.members; stores = g.stores; calls = g.calls; segments = g.segments }) f (less h)

  with_slot_r : (v : ℕ) → (Under is → v ≤ 65535) → (g : ℕ → Lowering) → ((x : ℕ) → Ranged (x ∷ is) (g x)) → Ranged is (with_slot v g)
  unfolding sz
  with_slot_r v q f h = interned_r slot_pool v (λ xs s. ((λ h. omega arith), omega arith)) (λ u p g. let i = q u in
      record { consts = g.consts; posts = g.posts; hashes = g.hashes; names = g.names; temps = every_intern (Below 2) itself ℕ_discrete v p.temps (omega arith) g.temps; members = g.members; stores = g.stores; calls = g.calls; segments = g.segments }) f (less h)

  pub with_member_r : (v : MemberRead) → FitRead v → (g : ℕ → Lowering) → ((x : ℕ) → Ranged (x ∷ is) (g x)) → Ranged is (with_member v g)
  unfolding sz
  with_member_r v q f h = interned_r member_pool v (λ xs s. ((λ h. omega arith), omega arith)) (λ u p g.
      record { consts = g.consts; posts = g.posts; hashes = g.hashes; names = g.names; temps = g.temps; members = every_intern FitRead read_key pair_discrete v p.members q g.members; stores = g.stores; calls = g.calls; segments = g.segments }) f (less h)

  post_if_r : (x : Bool) (v : Post) → FitPost v → (g : ℕ → Lowering) → ((x : ℕ) → Ranged (x ∷ is) (g x)) → Ranged is (post_if x v g)
  unfolding post_if sz
  post_if_r true v q g h = weaken (λ u. (omega arith, u)) (h 0)
  post_if_r false v q g h = interned_r post_pool v (λ xs s. ((λ h. omega arith), omega arith)) (λ u p g. record { consts = g.consts; posts = every_intern FitPost post_key pair_discrete v p.posts q g.posts; hashes = g.hashes; names = g.names; temps = g.temps; members = g.members; stores = g.stores; calls = g.calls; segments = g.segments })
      (λ k. g (suc k)) (λ k. h (suc k))

  pub post_r : (v : Post) → FitPost v → (g : ℕ → Lowering) → ((x : ℕ) → Ranged (x ∷ is) (g x)) → Ranged is (with_post v g)
  post_r v q g h = post_if_r (is_identity v) v q g h

pub with_temp_r : {is : List ℕ} (v : Name) → FitText v → (g : ℕ → Lowering) → ((x : ℕ) → Ranged (x ∷ is) (g x)) → Ranged is (with_temp v g)
with_temp_r v q g h = flagged_r _ (sets_fit 4 (omega arith)) (with_name_r v q _ (λ k. with_slot_r k (λ u. u.0) g (λ x. weaken (λ u. (u.0, u.1.1)) (h x))))

pub with_store_r : {is : List ℕ} (v : MemberStore) → (Under is → Below 2 (root_index v.root)) → Every (Below 8) v.path → (g : ℕ → Lowering) → ((x : ℕ) → Ranged (x ∷ is) (g x)) → Ranged is (with_store v g)
unfolding sz
with_store_r {is} v r q g h = entered g (λ s. length s.pools.stores) (λ s. set_pools (set_stores (s.pools.stores ++ (v ∷ [])) s.pools) s) stored_v (less h)
  where
    stored_v : (s : State) → Enters is (length s.pools.stores) s (set_pools (set_stores (s.pools.stores ++ (v ∷ [])) s.pools) s)
    stored_v s =
        let h = sum_append (store_weight ones) s.pools.stores (v ∷ []) in
        let i = count_least 1 (store_weight ones) (λ v. omega arith) s.pools.stores in
        record {
          more = omega arith;
          index = omega arith;
          deepest = λ m d. d;
          good = λ u g.
              let p = g.pools in
              record {
                pools = record { consts = p.consts; posts = p.posts; hashes = p.hashes; names = p.names; temps = p.temps; members = p.members; stores = every_append _ s.pools.stores (v ∷ []) p.stores ((r u, q), tt); calls = p.calls; segments = p.segments };
                flags = g.flags;
              };
        }

pub constant_r : {is : List ℕ} (v : ℕ) → Below 4 v → Ranged is (constant v)
constant_r v q = with_const_r v q put_const (λ x. const_r x (λ u. u.0))
