-- The builder's pools: what interning makes of the words is what the lowering's definition makes of its pools, and a lowering that goes on with the entry's index. Assumes nothing.
use Rattle.std.proofs.Common.{rules, ◌≡◌, refl, sym, subst, Bool, true, false, cond, List, [], ◌∷◌, ℕ, suc, ◌+◌, ◌*◌, ◌≤◌, ◌<◌, arith, length, take}
use native.Mathlib.Nat.{mul-suc}
use Rattle.std.proofs.Math.Nat.{mul-le-mul_left}
use Rattle.numeric.specs.Post.{Post, is_identity}
use Rattle.program.specs.Kinds.{USES_TEMPS}
use Rattle.program.specs.Counts.{Counts}
use Rattle.payload.specs.declared.NameRef.{NameRef}
use Rattle.payload.specs.Payloads.{named}
use Rattle.semantics.specs.Positions.{slot, intern, pair_discrete}
use Rattle.semantics.specs.State.{Pools, State, set_pools, set_flags, sets}
use Rattle.semantics.specs.Pieces.{Lowering, post_key, post_if, with_const, with_hash, with_name, with_temp, with_member, with_post}
use Rattle.workspace.specs.Layout.{CONSTS, STORES}
use Rattle.workspace.specs.declared.counts.Pools as N
use Rattle.lowering.specs.Search.{hit}
use Rattle.lowering.specs.Regions.{interned_index}
use Rattle.lowering.specs.Held.{Held}
use Rattle.lowering.specs.Steps.{flagged}
use Rattle.lowering.specs.Pools as B
use Rattle.lowering.specs.Pools.{Found, interned, behind_identity}
use Rattle.lowering.specs.Parts as L
use Rattle.lowering.specs.Parts.{Step, going}
use Rattle.lowering.proofs.Hits.{hit_decides}
use Rattle.representation.proofs.Represents.{Pooled, consts, posts, hashes, names, temps, members, Row, row, TableOf, PoolHeld, pool_held, all_held, Abs, Fits, Content, Does, Enters, run, on_state}
use Rattle.representation.proofs.Keeps.{entries, end_of, OnlyIn, pool_inside, pool_fits, pool_keep, pools_changed}
use Rattle.representation.proofs.Pools.{length_intern, slot_within, apart_wider, apart_agree, interned_apart, table_slot, table_interned}
use Rattle.representation.proofs.Entries.{Keyed, const_keyed, slot_keyed, hash_keyed, post_keyed, name_keyed, member_keyed, TextOf, read_of}

-- ---- the law

pub with_does : {tree : List ℕ} {g : State → State} {k : State → ℕ} {E : Held → Found} → Enters tree g k E → {f : ℕ → Lowering} {F : ℕ → Step} {c : Counts} → ((i : ℕ) → Does tree (f i) c (F i)) → Does tree (λ c b n s. f (k s) c b n (g s)) c (λ h. going (E h) F)
with_does {tree} {g} {k} {E} m {f} {F} {c} d = record {
  back = λ A x. m.back A ((d (k A.state)).back (on_state g A) x);
  keep = λ A h x y.
      let b = (d (k A.state)).back (on_state g A) x in
      subst (λ (i : ℕ). Content tree c (F i ((E h).0.state, (E h).1)) (run (f (k A.state)) c (on_state g A))) (sym (m.index c A h b y))
      ((d (k A.state)).keep (on_state g A) ((E h).0.state, (E h).1) x (m.keep c A h b y));
}

-- ---- a pool and its region

module _ (tree : List ℕ) (i : Pooled) where
  abbrev with_list : List (row tree i).Entry → State → State
  with_list xs s = set_pools ((row tree i).pool.set xs s.pools) s

  abbrev pub state_of : (row tree i).Entry → State → State
  state_of v s = let p = (row tree i).pool in with_list (intern p.key p.dec v (p.get s.pools)) s

  abbrev pub index_of : (row tree i).Entry → State → ℕ
  index_of v s = let p = (row tree i).pool in slot p.key p.dec v 0 (p.get s.pools)

module _ (tree : List ℕ) where
  -- a list that is set is the pool's, and all but the interned pools stay
  got : (i : Pooled) (xs : List (row tree i).Entry) (Q : Pools) → (row tree i).pool.get ((row tree i).pool.set xs Q) ≡ xs
  got consts xs Q = refl
  got i xs Q = refl

  set_only : (i : Pooled) (xs : List (row tree i).Entry) (Q : Pools) → let R = (row tree i).pool.set xs Q in
      record Q { consts = R.consts; posts = R.posts; hashes = R.hashes; names = R.names; temps = R.temps; members = R.members } ≡ R
  set_only consts xs Q = refl
  set_only i xs Q = refl

  -- a longer list fits no better
  shorter : (i : Pooled) (A : Abs) (xs : List (row tree i).Entry) → length ((row tree i).pool.get A.state.pools) ≤ length xs
      → Fits (on_state (with_list tree i xs) A) → Fits A
  shorter consts A xs l f = search rules
  shorter i A xs l f = search rules

  -- only words of region i have changed: its pool is the new table, and the others are what they were
  put : (ws vs : List ℕ) (A : Abs) → Fits A → (n : N.Pools) (i j : Pooled) (m : ℕ) (xs : List (row tree i).Entry) → OnlyIn tree i ws vs
      → TableOf tree vs i m xs → PoolHeld tree ws n A.state.pools j
      → PoolHeld tree vs ((row tree i).region.set_count m n) ((row tree i).pool.set xs A.state.pools) j
  put ws vs A f n consts consts m xs a y t = y
  put ws vs A f n posts posts m xs a y t = y
  put ws vs A f n hashes hashes m xs a y t = y
  put ws vs A f n names names m xs a y t = y
  put ws vs A f n temps temps m xs a y t = y
  put ws vs A f n members members m xs a y t = y
  put ws vs A f n i j m xs a y t = pool_keep tree ws vs A f j (apart_agree a (λ k p q l. omega arith)) n t

module _ (tree : List ℕ) (i : Pooled) where
  abbrev r : Row tree
  r = row tree i

  abbrev e : B.Pool
  e = r.region

  changed : (c : Counts) (A : Abs) (h : Held) (vs : List ℕ) (m : ℕ) (xs : List r.Entry) → Fits A → Content tree c h A → OnlyIn tree i h.1 vs → TableOf tree vs i m xs
      → Content tree c (B.set_pools (e.set_count m h.0.pools) h.0, vs) (on_state (with_list tree i xs) A)
  changed c A h vs m xs f x a y =
      let n = h.0.pools in
      let Q = r.pool.set xs A.state.pools in
      let b = pool_inside tree i in
      subst (λ (R : Pools). Content tree c (B.set_pools (e.set_count m n) h.0, vs) (on_state (set_pools R) A)) (set_only tree i xs A.state.pools)
      (record {
        enough = omega (arith, x.enough, a.same_length);
        beside = x.beside;
        tables = pools_changed tree h.1 vs A f (apart_wider a CONSTS STORES b.0 b.1) x.tables {m = e.set_count m n} Q
            (all_held tree vs (e.set_count m n) Q λ j. put tree h.1 vs A f n i j m xs a y (pool_held tree h.1 n A.state.pools x.tables.pools_held j));
      })

  size : (A : Abs) (xs : List r.Entry) → Fits (on_state (with_list tree i xs) A) → length xs ≤ e.room
  size A xs f = subst (λ (ys : List r.Entry). length ys ≤ e.room) (got tree i xs A.state.pools) (pool_fits tree i (on_state (with_list tree i xs) A) f)

  module _ {v : r.Entry} {entry : List ℕ} (D : Keyed tree i v entry) where
    abbrev key : List ℕ
    key = take e.key entry

    within : (n : ℕ) → n < e.room → e.from + e.width * n + length entry ≤ end_of tree i
    within n l = let s = D.size in let w = mul-le-mul_left e.width l in let m = mul-suc e.width n in omega arith

    back : (A : Abs) → Fits (on_state (state_of tree i v) A) → Fits A
    back A f = shorter tree i A _ (length_intern r.pool.key r.pool.dec v (r.pool.get A.state.pools)) f

    index : (c : Counts) (A : Abs) (h : Held) → Content tree c h A → interned_index (hit h.1 e.from e.width key) (e.count h.0.pools) ≡ index_of tree i v A.state
    index c A h x =
        table_slot r.pool.key r.pool.dec v e.width r.At e.from h.1 (e.count h.0.pools) (r.pool.get A.state.pools) (hit h.1 e.from e.width key)
        (λ j y q. hit_decides h.1 e.from e.width key j (r.pool.dec (r.pool.key y) (r.pool.key v)) (λ s. D.found h.1 _ y q s) (λ k. D.stands h.1 _ y q k))
        (pool_held tree h.1 h.0.pools A.state.pools x.tables.pools_held i)

    -- interning the entry in the words is interning it in the list
    pub enters : Enters tree (state_of tree i v) (index_of tree i v) (interned e entry)
    enters = record {
      back = back;
      index = λ c A h f x. index c A h x;
      keep = λ c A h f x.
          let n = e.count h.0.pools in
          let k = interned_index (hit h.1 e.from e.width key) n in
          let at = e.from + e.width * n in
          let t = pool_held tree h.1 h.0.pools A.state.pools x.tables.pools_held i in
          let b = (pool_inside tree i).1 in
          let s = x.enough in
          changed c A h _ _ _ (back A f) x (interned_apart k n e.room h.1 at entry e.from (end_of tree i) (omega arith) (within n))
          (table_interned r.pool.key r.pool.dec v e.width r.At e.from (entries tree i) entry D.stored k n e.room h.1 at (r.pool.get A.state.pools)
          (index c A h x) refl (λ l. let w = within n l in omega arith) (size A _ f) t);
    }

-- ---- names, slots of temps and posts

module _ (tree : List ℕ) where
  pub name_enters : (r : NameRef) → TextOf tree r → Enters tree (state_of tree names (named tree r)) (index_of tree names (named tree r)) (B.name r)
  unfolding B.name
  name_enters r g = enters tree names (name_keyed tree r g)

  pub slot_enters : (v : ℕ) → Enters tree (state_of tree temps v) (index_of tree temps v) (B.slot v)
  unfolding B.slot
  slot_enters v = enters tree temps (slot_keyed tree v)

  -- the identity is post 0, and is not looked up
  post_if_enters : (b : Bool) (v : Post) → Enters tree (λ s. cond b s (state_of tree posts v s)) (λ s. cond b 0 (suc (index_of tree posts v s)))
      (λ h. cond b (record { state = h.0; index = 0 }, h.1) (behind_identity (interned B.post_pool (v.scale ∷ v.offset ∷ []) h)))
  post_if_enters true v = record { back = λ A f. f; index = λ c A h f x. refl; keep = λ c A h f x. x }
  post_if_enters false v =
      let m = enters tree posts (post_keyed tree v) in
      record {
        back = m.back;
        index = λ c A h f x.
            let i = m.index c A h f x in
            let l = slot_within post_key pair_discrete v A.state.pools.posts 0 in
            let b = (m.back A f).posts in
            omega (arith, i, l, b);
        keep = m.keep;
      }

-- ---- temps: USES_TEMPS, its name, then its slot

abbrev uses_temps : State → State
uses_temps s = set_flags (sets USES_TEMPS s.flags) s

content_flags : (tree : List ℕ) (c : Counts) (A : Abs) (h : Held) → Content tree c h A → Content tree c (flagged USES_TEMPS h.0, h.1) (on_state uses_temps A)
unfolding flagged sets
content_flags tree c A h x = search rules

module _ (tree : List ℕ) (r : NameRef) (g : TextOf tree r) where
  abbrev name_index : State → ℕ
  name_index = index_of tree names (named tree r)

  -- with the name and the flag, before the slot
  abbrev named_state : State → State
  named_state s = state_of tree names (named tree r) (uses_temps s)

  abbrev temp_state : State → State
  temp_state s = state_of tree temps (name_index s) (named_state s)

  abbrev temp_index : State → ℕ
  temp_index s = index_of tree temps (name_index s) (named_state s)

  abbrev with_name_held : Held → Held
  with_name_held h = (flagged USES_TEMPS (B.name r h).0.state, (B.name r h).1)

  temp_enters : Enters tree temp_state temp_index (B.temp r)
  unfolding B.temp
  temp_enters = record {
    back = λ A f. m.back A ((slot_of A).back (on_state named_state A) f);
    index = λ c A h f x.
        let b = (slot_of A).back (on_state named_state A) f in
        subst (λ (j : ℕ). (B.slot j (with_name_held h)).0.index ≡ temp_index A.state) (sym (m.index c A h b x))
        ((slot_of A).index c (on_state named_state A) (with_name_held h) f (named_held c A h b x));
    keep = λ c A h f x.
        let b = (slot_of A).back (on_state named_state A) f in
        subst (λ (j : ℕ). Content tree c ((B.slot j (with_name_held h)).0.state, (B.slot j (with_name_held h)).1) (on_state temp_state A)) (sym (m.index c A h b x))
        ((slot_of A).keep c (on_state named_state A) (with_name_held h) f (named_held c A h b x));
  }
    where
      m : Enters tree (state_of tree names (named tree r)) name_index (B.name r)
      m = name_enters tree r g

      slot_of : (A : Abs) → Enters tree (state_of tree temps (name_index A.state)) (index_of tree temps (name_index A.state)) (B.slot (name_index A.state))
      slot_of A = slot_enters tree (name_index A.state)

      named_held : (c : Counts) (A : Abs) (h : Held) → Fits (on_state named_state A) → Content tree c h A → Content tree c (with_name_held h) (on_state named_state A)
      named_held c A h f x = content_flags tree c (on_state (state_of tree names (named tree r)) A) ((B.name r h).0.state, (B.name r h).1) (m.keep c A h f x)

-- ---- lowerings that go on with the index

post_does_if : (tree : List ℕ) (f : ℕ → Lowering) (c : Counts) (b : Bool) (v : Post) (G : Step) → Does tree (λ c p n s. f (cond b 0 (suc (index_of tree posts v s))) c p n (cond b s (state_of tree posts v s))) c G → Does tree (post_if b v f) c G
unfolding post_if
post_does_if tree f c true v G d = record { back = d.back; keep = d.keep }
post_does_if tree f c false v G d = record { back = d.back; keep = d.keep }

module _ {tree : List ℕ} {f : ℕ → Lowering} {F : ℕ → Step} {c : Counts} where
  pub const_does : (v : ℕ) → ((i : ℕ) → Does tree (f i) c (F i)) → Does tree (with_const v f) c (L.with_const v F)
  unfolding B.konst
  const_does v d = with_does (enters tree consts (const_keyed tree v)) d

  pub hash_does : (v : ℕ) → ((i : ℕ) → Does tree (f i) c (F i)) → Does tree (with_hash v f) c (L.with_hash v F)
  unfolding B.hash
  hash_does v d = with_does (enters tree hashes (hash_keyed tree v)) d

  pub name_does : (r : NameRef) → TextOf tree r → ((i : ℕ) → Does tree (f i) c (F i)) → Does tree (with_name (named tree r) f) c (L.with_name r F)
  name_does r g d = with_does (name_enters tree r g) d

  pub temp_does : (r : NameRef) → TextOf tree r → ((i : ℕ) → Does tree (f i) c (F i)) → Does tree (with_temp (named tree r) f) c (L.with_temp r F)
  temp_does r g d = with_does (temp_enters tree r g) d

  pub member_does : (r l : NameRef) → TextOf tree r → TextOf tree l → ((i : ℕ) → Does tree (f i) c (F i)) → Does tree (with_member (read_of tree r l) f) c (L.with_member r l F)
  unfolding B.member
  member_does r l g q d = with_does (enters tree members (member_keyed tree r l g q)) d

  pub post_does : (v : Post) → ((i : ℕ) → Does tree (f i) c (F i)) → Does tree (with_post v f) c (λ h. going (B.post v h) F)
  unfolding B.post
  post_does v d = post_does_if tree f c (is_identity v) v (λ h. going (B.post v h) F) (with_does (post_if_enters tree (is_identity v) v) d)
