use mathlib.Core.Path.{◌≡◌, refl}
use mathlib.Core.Bool.{Bool, true, false, cond}
use mathlib.Core.List.{List, [], ◌∷◌, ◌++◌, map}
use Prim.Native.Nat.{ℕ, zero, suc, ◌≤◌, ◌+◌, ◌*◌}
use native.Mathlib.Omega.{arith}
use native.Mathlib.Nat.{mul-suc, mul-zero}
use lib.ListN.{length}
use Rattle.ast.specs.Tree.{Name}
use Rattle.numeric.specs.Post.{Post, is_identity}
use Rattle.program.specs.Instruction.{post, Guard, EachNext, Instruction, plain, loop_end, jump, loop_check}
use Rattle.program.specs.Counts.{Counts}
use Rattle.program.specs.Program.{MemberStore}
pub use Rattle.program.proofs.Length.{sum, weigh}
use Rattle.semantics.specs.Link.{offsets_of}
use Rattle.semantics.specs.Lowering.{fill}
use Rattle.semantics.specs.Pieces.{Lowered, Lowering, flush, put, nothing, failing, put_const, ◌⨾◌, pushed, flagged, Pool, interned, const_pool, hash_pool, slot_pool, with_const, with_hash, name_pool, with_name, with_slot, with_temp, member_pool, with_member, with_store, post_pool, post_if, with_post, constant, guarded, fork, aim, counted_loop, eached}
use Rattle.semantics.proofs.Positions.{interning}
use Rattle.semantics.proofs.Relations.{either_one}
use Rattle.semantics.specs.Positions.{past, slot, intern}
use Rattle.semantics.specs.Run.{operand+, opens}
use Rattle.semantics.specs.State.{Item, instr, CallInfo, MemberRead, set_stores, Flags, State, set_pools, raise}
use Rattle.semantics.specs.Pieces as Q

-- Sizes: what a tree's lowering adds to the code and the pools, by symbolic weights, so that every size is one induction. Assumes nothing.

-- what an entry weighs: an instruction, a constant, a post, a hash, a name, a temp, a member (by its own name), a store (sa for its assignment,
-- sa and sm for its target), a path's entry, a call, an argument
pub record Weight : Type 0 where
  pub i : ℕ
  pub co : ℕ
  pub po : ℕ
  pub ha : ℕ
  pub na : Name → ℕ
  pub te : ℕ
  pub me : Name → ℕ
  pub sa : ℕ
  pub sm : ℕ
  pub pa : ℕ
  pub ca : ℕ
  pub ar : ℕ

module _ {A : Type 0} (f : A → ℕ) where
  pub sum_append : (xs ys : List A) → sum f (xs ++ ys) ≡ sum f xs + sum f ys
  sum_append [] ys = omega arith
  sum_append (x ∷ xs) ys = let h = sum_append xs ys in omega arith

  sum_intern : {K : Type 0} (key : A → K) (dec : (a b : K) → Dec (a ≡ b)) (v : A) (xs : List A) → sum f (intern key dec v xs) ≤ sum f xs + f v
  sum_intern key dec v = interning key dec v (λ n xs ys k. sum f ys ≤ sum f xs + f v) (λ n. omega arith) (λ n x xs p. omega arith) (λ n x xs ys k i. omega arith) 0

  pub sum_least : (g : A → ℕ) → ((x : A) → f x ≤ g x) → (xs : List A) → sum f xs ≤ sum g xs
  sum_least g h [] = omega arith
  sum_least g h (x ∷ xs) = let i = sum_least g h xs in let j = h x in omega arith

pub weigh_append : {A : Type 0} (k : ℕ) (xs ys : List A) → weigh k (xs ++ ys) ≡ weigh k xs + weigh k ys
weigh_append k = sum_append (λ x. k)

pub weigh_map : {A B : Type 0} (k : ℕ) (f : A → B) (xs : List A) → weigh k (map f xs) ≡ weigh k xs
weigh_map k f [] = refl
weigh_map k f (x ∷ xs) = let h = weigh_map k f xs in omega arith

pub weigh_length : {A : Type 0} (k : ℕ) (xs : List A) → weigh k xs ≡ k * length xs
weigh_length k [] = omega (arith, mul-zero k)
weigh_length k (x ∷ xs) = let h = weigh_length k xs in let e = mul-suc k (length xs) in omega arith

-- entries that weigh k at least
pub count_least : {A : Type 0} (k : ℕ) (f : A → ℕ) → ((x : A) → k ≤ f x) → (xs : List A) → k * length xs ≤ sum f xs
count_least k f h xs = omega (arith, weigh_length k xs, sum_least (λ x. k) f h xs)

module _ (w : Weight) where
  -- a member weighs by its own name
  abbrev pub member_weight : MemberRead → ℕ
  member_weight r = w.me r.own

  -- a store, a call
  abbrev pub store_weight : MemberStore → ℕ
  store_weight v = w.sa + w.sa + w.sm + weigh w.pa v.path

  abbrev pub call_weight : CallInfo → ℕ
  call_weight v = w.ca + weigh w.ar (offsets_of v.offsets)

  pub asked_fill : (k : ℕ) (o : List ℕ) (xs : List CallInfo) → sum call_weight (fill k o xs) ≤ sum call_weight xs + weigh w.ar o
  unfolding fill offsets_of
  asked_fill k o [] = omega arith
  asked_fill zero o (x ∷ xs) = omega arith
  asked_fill (suc k) o (x ∷ xs) = let h = asked_fill k o xs in omega arith

  unfoldable pub sz : List ℕ → List Post → List ℕ → List Name → List ℕ → List MemberRead → List MemberStore → List CallInfo → List (List Item) → ℕ
  sz a b c d e f g h j = weigh w.co a + weigh w.po b + weigh w.ha c + sum w.na d + weigh w.te e + sum member_weight f + sum store_weight g + sum call_weight h + sum (weigh w.i) j

  abbrev pub size : State → ℕ
  size s = sz s.pools.consts s.pools.posts s.pools.hashes s.pools.names s.pools.temps s.pools.members s.pools.stores s.pools.calls s.pools.segments

  abbrev pub waits : Bool → ℕ
  waits true = w.i
  waits false = 0

  -- the piece adds at most k, and a Push that waits
  pub record Cost (f : Lowering) (k : ℕ) : Type 0 where
    pub by : (c : Counts) (b : Bool) (n : ℕ) (s : State) → weigh w.i (f c b n s).code + size (f c b n s).state ≤ size s + k + waits b

  pub weak : {f : Lowering} {j k : ℕ} → Cost f j → j ≤ k → Cost f k
  weak a h = record { by = λ c b n s. let i = a.by c b n s in omega arith }

  flushed : (f : Counts → ℕ → State → Lowered) {k : ℕ} → ((c : Counts) (n : ℕ) (s : State) → weigh w.i (f c n s).code + size (f c n s).state ≤ size s + k) → Cost (λ c. flush (f c)) k
  unfolding flush
  flushed f {k} h = record { by = go }
    where
      go : (c : Counts) (b : Bool) (n : ℕ) (s : State) → weigh w.i (flush (f c) b n s).code + size (flush (f c) b n s).state ≤ size s + k + waits b
      go c true n s = let i = h c (suc n) s in omega arith
      go c false n s = let i = h c n s in omega arith

  infixr 50 ◌then_c◌
  pub ◌then_c◌ : {f g : Lowering} {j k : ℕ} → Cost f j → Cost g k → Cost (f ⨾ g) (j + k)
  ◌then_c◌ {f} {g} a b = record {
    by = λ c p n s.
        let x = f c p n s in
        let y = g c false (past x.code n) x.state in
        let h = a.by c p n s in
        let i = b.by c false (past x.code n) x.state in
        let e = weigh_append w.i x.code y.code in omega arith;
  }

  pub pushed_c : {f g : Lowering} {j k : ℕ} → Cost f j → Cost g k → Cost (pushed f g) (j + w.i + k)
  pushed_c {f} {g} a b = record {
    by = λ c p n s.
        let x = f c p n s in
        let y = g (operand+ c) true (past x.code n) (raise (operand+ c) x.state) in
        let h = a.by c p n s in
        let i = b.by (operand+ c) true (past x.code n) (raise (operand+ c) x.state) in
        let e = weigh_append w.i x.code y.code in omega arith;
  }

  pub nothing_c : Cost nothing 0
  nothing_c = flushed _ (λ c n s. omega arith)

  pub failing_c : (r : ℕ) {k : ℕ} → Cost (failing r) k
  failing_c r = flushed _ (λ c n s. omega arith)

  pub put_c : (x : Instruction) → Cost (put x) w.i
  put_c x = flushed _ (λ c n s. omega arith)

  pub const_c : (k : ℕ) → Cost (put_const k) w.i
  unfolding put_const
  const_c k = record { by = go }
    where
      go : (c : Counts) (b : Bool) (n : ℕ) (s : State) → weigh w.i (put_const k c b n s).code + size (put_const k c b n s).state ≤ size s + w.i + waits b
      go c true n s = omega arith
      go c false n s = omega arith

  -- flags weigh nothing
  pub flagged_c : (m : Flags → Flags) {f : Lowering} {k : ℕ} → Cost f k → Cost (flagged m f) k
  flagged_c m a = record { by = λ c b n s. a.by c b n _ }

  -- an interned pool, whose entries weigh by f
  pub interned_c : {A K : Type 0} (pool : Pool A K) (f : A → ℕ) (v : A) → ((xs : List A) (s : State) → size (set_pools (pool.set xs s.pools) s) + sum f (pool.get s.pools) ≡ size s + sum f xs)
      → (g : ℕ → Lowering) {k : ℕ} → ((x : ℕ) → Cost (g x) k) → Cost (interned pool v g) (f v + k)
  interned_c pool f v e g h = record {
    by = λ c b n s.
        let xs = intern pool.key pool.dec v (pool.get s.pools) in
        let j = sum_intern f pool.key pool.dec v (pool.get s.pools) in
        let o = e xs s in
        let i = (h (slot pool.key pool.dec v 0 (pool.get s.pools))).by c b n (set_pools (pool.set xs s.pools) s) in omega arith;
  }

  pub with_const_c : (v : ℕ) (g : ℕ → Lowering) {k : ℕ} → ((x : ℕ) → Cost (g x) k) → Cost (with_const v g) (w.co + k)
  unfolding sz
  with_const_c v = interned_c const_pool (λ x. w.co) v (λ xs s. omega arith)

  pub with_hash_c : (v : ℕ) (g : ℕ → Lowering) {k : ℕ} → ((x : ℕ) → Cost (g x) k) → Cost (with_hash v g) (w.ha + k)
  unfolding sz
  with_hash_c v = interned_c hash_pool (λ x. w.ha) v (λ xs s. omega arith)

  pub with_name_c : (v : Name) (g : ℕ → Lowering) {k : ℕ} → ((x : ℕ) → Cost (g x) k) → Cost (with_name v g) (w.na v + k)
  unfolding sz
  with_name_c v = interned_c name_pool w.na v (λ xs s. omega arith)

  with_slot_c : (v : ℕ) (g : ℕ → Lowering) {k : ℕ} → ((x : ℕ) → Cost (g x) k) → Cost (with_slot v g) (w.te + k)
  unfolding sz
  with_slot_c v = interned_c slot_pool (λ x. w.te) v (λ xs s. omega arith)

  pub with_member_c : (v : MemberRead) (g : ℕ → Lowering) {k : ℕ} → ((x : ℕ) → Cost (g x) k) → Cost (with_member v g) (member_weight v + k)
  unfolding sz
  with_member_c v = interned_c member_pool member_weight v (λ xs s. omega arith)

  pub with_temp_c : (v : Name) (g : ℕ → Lowering) {k : ℕ} → ((x : ℕ) → Cost (g x) k) → Cost (with_temp v g) (w.na v + (w.te + k))
  with_temp_c v g h = flagged_c _ (with_name_c v (λ k. with_slot k g) (λ k. with_slot_c k g h))

  pub with_store_c : (v : MemberStore) (g : ℕ → Lowering) {k : ℕ} → ((x : ℕ) → Cost (g x) k) → Cost (with_store v g) ((w.sa + w.sa + w.sm + weigh w.pa v.path) + k)
  unfolding sz
  with_store_c v g h = record {
    by = λ c b n s.
        let j = sum_append store_weight s.pools.stores (v ∷ []) in
        let i = (h (length s.pools.stores)).by c b n (set_pools (set_stores (s.pools.stores ++ (v ∷ [])) s.pools) s) in omega arith;
  }

  post_if_c : (x : Bool) (v : Post) (g : ℕ → Lowering) {k : ℕ} → ((x : ℕ) → Cost (g x) k) → Cost (post_if x v g) (w.po + k)
  unfolding post_if sz
  post_if_c true v g h = weak (h 0) (omega arith)
  post_if_c false v g h = interned_c post_pool (λ x. w.po) v (λ xs s. omega arith) (λ k. g (suc k)) (λ k. h (suc k))

  pub post_c : (v : Post) (g : ℕ → Lowering) {k : ℕ} → ((x : ℕ) → Cost (g x) k) → Cost (with_post v g) (w.po + k)
  post_c v g h = post_if_c (is_identity v) v g h

  pub constant_c : (v : ℕ) → Cost (constant v) (w.co + w.i)
  constant_c v = with_const_c v put_const const_c

  pub post_instr_c : (x : Bool) (p : Post) → Cost (cond x nothing (with_post p (λ q. put (plain (post q))))) (w.po + w.i)
  post_instr_c x p = either_one (λ f. Cost f (w.po + w.i)) x (weak nothing_c (omega arith)) (post_c p _ (λ q. put_c (plain (post q))))

  pub jumps_c : (x : Item) (l : Bool) → Cost (Q.jumps x l) w.i
  unfolding Q.jumps
  jumps_c x true = flushed _ (λ c n s. omega arith)
  jumps_c x false = flushed _ (λ c n s. omega arith)

  pub guarded_c : (g : Guard) (up : Counts → Counts) {f : Lowering} {k : ℕ} → Cost f k → Cost (guarded g up f) (w.i + k)
  guarded_c g up {f} a = flushed _ (λ c n s. let h = a.by (up c) false (suc n) (raise (up c) s) in omega arith)

  pub fork_c : (x y : ℕ → Instruction) (up : Counts → Counts) {f g : Lowering} {j k : ℕ} → Cost f j → Cost g k → Cost (fork x y up f g) (w.i + w.i + (j + k))
  fork_c x' y' up {f} {g} a b = flushed _ λ c n s.
      let x = f (up c) false (suc n) (raise (up c) s) in
      let m = past x.code (suc n) in
      let y = g c false (suc m) x.state in
      let h = a.by (up c) false (suc n) (raise (up c) s) in
      let i = b.by c false (suc m) x.state in
      let e = weigh_append w.i x.code (instr (y' (past y.code (suc m))) ∷ y.code) in omega arith

  pub looped_c : {f : Lowering} {k : ℕ} → Cost f k → Cost (counted_loop f) (w.i + w.i + w.i + k)
  looped_c {f} a = flushed _ λ c n s.
      let x = f (opens true c) false (suc n) (raise (opens true c) s) in
      let check_at = past x.code (suc n) in
      let h = a.by (opens true c) false (suc n) (raise (opens true c) s) in
      let m = weigh_map w.i (aim check_at (suc check_at)) x.code in
      let e = weigh_append w.i (map (aim check_at (suc check_at)) x.code) (instr (loop_check (suc n)) ∷ instr loop_end ∷ []) in omega arith

  pub eached_c : (v : EachNext) {f : Lowering} {k : ℕ} → Cost f k → Cost (eached v f) (w.i + w.i + w.i + w.i + k)
  eached_c v {f} a = flushed _ λ c n s.
      let x = f (opens false c) false (suc (suc n)) (raise (opens false c) s) in
      let back = past x.code (suc (suc n)) in
      let h = a.by (opens false c) false (suc (suc n)) (raise (opens false c) s) in
      let m = weigh_map w.i (aim (suc n) (suc back)) x.code in
      let e = weigh_append w.i (map (aim (suc n) (suc back)) x.code) (instr (jump (suc n)) ∷ instr loop_end ∷ []) in omega arith
