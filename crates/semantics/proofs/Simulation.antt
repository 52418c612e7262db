use mathlib.Core.Path.{◌≡◌, refl, ap, sym, ◌∙◌, subst}
use mathlib.Core.Bool.{Bool, true, false, cond}
use mathlib.Core.List.{List, [], ◌∷◌, ◌++◌, map, map-append, append-nil, append_assoc}
use mathlib.Core.Option.{Option, none}
use Prim.Native.Nat.{ℕ, suc}
use native.Mathlib.Decide.{ℕ_discrete}
use Rattle.ast.specs.Tree.{Name}
use Rattle.numeric.specs.Post.{Post, identity, is_identity}
use Rattle.program.specs.Instruction.{post, Plain, Taking, Instruction, plain, taking}
use Rattle.program.specs.Counts.{Counts}
use Rattle.program.specs.Program.{name_at, MemberStore, Program, code_at, const_at, post_at, hash_at, slot_at, member_at, store_at, call_at}
use Rattle.semantics.proofs.Bounds.{refused}
use Rattle.semantics.proofs.Positions.{Holds, past_map, past_append, past_length, holds_left, holds_right, intern_grows, intern_has}
use Rattle.semantics.specs.Link.{relocate, settle}
use Rattle.semantics.specs.Machine.{loop, plain_action, taking_action, taken, Open, handler, Frame, machine, Next, go, stop, missed, cut, leave, execute, step, follow}
use Rattle.semantics.specs.Pieces.{Lowered, Lowering, flush, put, nothing, failing, put_const, ◌⨾◌, pushed, flagged, itself, Pool, interned, const_pool, hash_pool, slot_pool, with_const, with_hash, hash_key, name_pool, with_name, with_slot, with_temp, read_key, member_pool, with_member, with_store, post_key, post_pool, post_if, with_post, constant}
use Rattle.semantics.specs.Positions.{◌⊕◌, past, intern, pair_discrete}
use Rattle.semantics.specs.Run.{e_const, e_post, e_push, Run, note, operand+, count, by_return, by_halt, by_out, Result, result}
use Rattle.semantics.specs.State.{Item, CallInfo, MemberRead, Pools, set_posts, set_stores, Flags, State, set_pools, set_flags, raise, fail}
use Rattle.semantics.specs.Walk.{Completion, normal, missing, broke, again, returned, halted, out, Walking, Scope, after, ◌then◌, pass, logs, takes, pushes, shown}

-- A piece of lowering and a piece of the walk on which the step machine agrees: the relation `Sim`, closed under every combinator.
-- It is stated backwards: if the machine comes to r from wherever the completion leads, it comes to r from here. Assumes nothing.

abbrev pub If : Bool → Type 0 → Type 0
If true A = A
If false A = Unit {0}

unfoldable pub has_handler : List Open → Bool
has_handler [] = false
has_handler (loop k c ∷ es) = has_handler es
has_handler (handler t c ∷ es) = true

-- where a piece of code stands: its segment's start, its loop's targets, what is open, the callers
pub record Place : Type 0 where
  pub base : ℕ
  pub check_at : ℕ
  pub cleanup_at : ℕ
  pub control : List Open
  pub frames : List Frame

abbrev pub at : ℕ → Place
at b = record { base = b; check_at = 0; cleanup_at = 0; control = []; frames = [] }

-- the walk's state, where a Push may wait
abbrev pub pre : Bool → Run → Run
pre true w = count operand+ (note e_push w)
pre false w = w

abbrev own : MemberRead → ℕ
own r = r.own.hash

abbrev self : Post → Post
self p = p

module _ (P : Program) (E : ℕ) (r : Result) where
  -- followed from here, the machine comes to r
  pub record Ends (x : Next) : Type 0 where
    pub steps : ℕ
    pub comes : follow P steps x ≡ Option.some r

  pub ends_at : (n : ℕ) {w : Run} {es : List Open} {fs : List Frame} {i : Instruction} → code_at P n ≡ i → Ends (execute P i n w es fs) → Ends (go (machine n w es fs))
  unfolding follow step
  ends_at n {w} {es} {fs} h x =
      let y : Ends (execute P (code_at P n) n w es fs) = rw h x in
      record { steps = suc y.steps; comes = y.comes }

  abbrev pub From : Place → ℕ → Run → Type 0
  From κ n w = Ends (go (machine (κ.base ⊕ n) w κ.control κ.frames))

  -- from every state that a piece may end in, the machine comes to r
  abbrev pub After : Scope → Place → ℕ → Completion → Type 0
  After e κ n (normal w) = From κ n w
  After e κ n (missing w) = If e.handler ((on : Next) → Ends (missed κ.control w κ.frames on))
  After e κ n (broke w) = If e.loop ((es : List Open) → cut es ≡ cut κ.control → Ends (go (machine (κ.base ⊕ κ.cleanup_at) w es κ.frames)))
  After e κ n (again w) = If e.loop ((es : List Open) → cut es ≡ cut κ.control → Ends (go (machine (κ.base ⊕ κ.check_at) w es κ.frames)))
  After e κ n (returned w) = Ends (leave P by_return w κ.frames)
  After e κ n (halted w) = Ends (leave P by_halt w κ.frames)
  After e κ n (out w) = Ends (stop (result by_out w))

  abbrev pub Has : Place → ℕ → List Item → Type 0
  Has κ n c = Holds (λ i. code_at P (κ.base ⊕ i)) n (map (settle κ.base κ.check_at κ.cleanup_at) c)

  pub has_left : (κ : Place) (n : ℕ) (c d : List Item) → Has κ n (c ++ d) → Has κ n c
  has_left κ n c d h = holds_left (λ i. code_at P (κ.base ⊕ i)) n (map (settle κ.base κ.check_at κ.cleanup_at) c) (map (settle κ.base κ.check_at κ.cleanup_at) d) (rw map-append at h)

  pub has_right : (κ : Place) (n : ℕ) (c d : List Item) → Has κ n (c ++ d) → Has κ (past c n) d
  has_right κ n c d h = rw (past_map (settle κ.base κ.check_at κ.cleanup_at) c n) at (holds_right (λ i. code_at P (κ.base ⊕ i)) n (map (settle κ.base κ.check_at κ.cleanup_at) c) (map (settle κ.base κ.check_at κ.cleanup_at) d) (rw map-append at h))

  -- the segments from o on, counted from the end of the main code
  abbrev pub SegsOk : ℕ → List (List Item) → Type 0
  SegsOk o [] = Unit {0}
  SegsOk o (c ∷ cs) = Has (at (E ⊕ o)) 0 c × SegsOk (past c o) cs

  -- the starts of a call, once its arguments are lowered
  abbrev pub StartsOk : ℕ → Option (List ℕ) → Type 0
  StartsOk k none = Unit {0}
  StartsOk k (Option.some o) = (call_at P k).starts ≡ map (E ⊕◌) o

  pub record CallOk (k : ℕ) (i : CallInfo) : Type 0 where
    pub index : (call_at P k).index ≡ i.index
    pub impl : (call_at P k).impl ≡ i.impl
    pub starts : StartsOk k i.offsets

  abbrev pub CallsOk : ℕ → List CallInfo → Type 0
  CallsOk k [] = Unit {0}
  CallsOk k (i ∷ is) = CallOk k i × CallsOk (suc k) is

  -- the program has all that a state has gathered, and nothing was refused
  pub record Known (p : Pools) (refusal : ℕ) : Type 0 where
    pub clean : refusal ≡ 0
    pub slot0 : post_at P 0 ≡ identity
    pub hconsts : Holds (const_at P) 0 (map itself p.consts)
    pub hposts : Holds (λ i. post_at P (suc i)) 0 (map self p.posts)
    pub hhashes : Holds (hash_at P) 0 (map itself p.hashes)
    pub hnames : Holds (name_at P) 0 (map hash_key p.names)
    pub htemps : Holds (slot_at P) 0 (map itself p.temps)
    pub hmembers : Holds (member_at P) 0 (map own p.members)
    pub hstores : Holds (store_at P) 0 p.stores
    pub hcalls : CallsOk 0 p.calls
    pub hsegs : SegsOk 0 p.segments

  abbrev pub Ext : State → Type 0
  Ext s = Known s.pools s.refusal

  -- a state only grows
  pub record Step (s t : State) : Type 0 where
    pub back : Ext t → Ext s
    pub more : List CallInfo
    pub kept : t.pools.calls ≡ s.pools.calls ++ more

  pub to : (s t : State) → (Ext t → Ext s) → t.pools.calls ≡ s.pools.calls → Step s t
  to s t h e = record { back = h; more = []; kept = e ∙ sym (append-nil s.pools.calls) }

  pub stay : (s : State) → Step s s
  stay s = to s s (λ x. x) refl

  infixr 40 ◌⟫◌
  pub ◌⟫◌ : {s t u : State} → Step s t → Step t u → Step s u
  ◌⟫◌ {s} h i = record { back = λ x. h.back (i.back x); more = h.more ++ i.more; kept = i.kept ∙ rw h.kept (append_assoc s.pools.calls h.more i.more) }

  abbrev pub Fits : Scope → Place → Type 0
  Fits e κ = has_handler κ.control ≡ e.handler

  abbrev pub Grow₀ : (Counts → ℕ → State → Lowered) → Type 0
  Grow₀ f = (c : Counts) (n : ℕ) (s : State) → Step s (f c n s).state

  abbrev pub Grow : Lowering → Type 0
  Grow f = (c : Counts) (b : Bool) (n : ℕ) (s : State) → Step s (f c b n s).state

  -- f lowers what u walks: with no Push waiting, and with one perhaps
  pub record Raw (e : Scope) (f : Counts → ℕ → State → Lowered) (u : Walking) : Type 0 where
    pub grow : Grow₀ f
    pub sim : (c : Counts) (n : ℕ) (s : State) → Ext (f c n s).state → (κ : Place) → Has κ n (f c n s).code → Fits e κ
        → (w : Run) → After e κ (past (f c n s).code n) (u w) → From κ n w

  pub record Sim (e : Scope) (f : Lowering) (u : Walking) : Type 0 where
    pub grow : Grow f
    pub sim : (c : Counts) (b : Bool) (n : ℕ) (s : State) → Ext (f c b n s).state → (κ : Place) → Has κ n (f c b n s).code → Fits e κ
        → (w : Run) → After e κ (past (f c b n s).code n) (u (pre b w)) → From κ n w

  -- a waiting Push
  pub flushed : {e : Scope} {f : Counts → ℕ → State → Lowered} {u : Walking} → Raw e f u → Sim e (λ c. flush (f c)) u
  unfolding flush settle relocate execute
  flushed {e} {f} {u} h = record { grow = gr; sim = sm }
    where
      gr : Grow (λ c. flush (f c))
      gr c true n s = h.grow c (suc n) s
      gr c false n s = h.grow c n s

      sm : (c : Counts) (b : Bool) (n : ℕ) (s : State) → Ext (flush (f c) b n s).state → (κ : Place) → Has κ n (flush (f c) b n s).code → Fits e κ
          → (w : Run) → After e κ (past (flush (f c) b n s).code n) (u (pre b w)) → From κ n w
      sm c true n s x κ y z w p = ends_at (κ.base ⊕ n) y.0 (h.sim c (suc n) s x κ y.1 z (count operand+ (note e_push w)) p)
      sm c false n s x κ y z w p = h.sim c n s x κ y z w p

  -- one after the other
  pub after_after : (e : Scope) (κ : Place) (n k : ℕ) (v : Walking) → ((w : Run) → After e κ k (v w) → From κ n w) → (x : Completion) → After e κ k (after v x) → After e κ n x
  unfolding after
  after_after e κ n k v h (normal w) q = h w q
  after_after e κ n k v h _ q = q

  pub raised : (c : Counts) (s : State) → Step s (raise c s)
  raised c s = to s (raise c s) (λ x. x) refl

  infixr 50 ◌then_s◌
  pub ◌then_s◌ : {e : Scope} {f g : Lowering} {u v : Walking} → Sim e f u → Sim e g v → Sim e (f ⨾ g) (u then v)
  ◌then_s◌ {e} {f} {g} {u} {v} a b = record {
    grow = λ c p n s. a.grow c p n s ⟫ b.grow c false _ _;
    sim = λ c p n s x κ y z w q.
        let m = f c p n s in
        let i = past m.code n in
        let k = g c false i m.state in
        a.sim c p n s ((b.grow c false i m.state).back x) κ (has_left κ n m.code k.code y) z w
        (after_after e κ i (past k.code i) v (b.sim c false i m.state x κ (has_right κ n m.code k.code y) z) (u (pre p w)) (rw (past_append m.code k.code) at q));
  }

  pub pushed_s : {e : Scope} {f g : Lowering} {u v : Walking} → Sim e f u → Sim e g v → Sim e (pushed f g) (u then pushes then v)
  unfolding after
  pushed_s {e} {f} {g} {u} {v} a b = record {
    grow = λ c p n s. a.grow c p n s ⟫ raised (operand+ c) _ ⟫ b.grow (operand+ c) true _ _;
    sim = λ c p n s x κ y z w q.
        let m = f c p n s in
        let i = past m.code n in
        let t = raise (operand+ c) m.state in
        let k = g (operand+ c) true i t in
        a.sim c p n s ((b.grow (operand+ c) true i t).back x) κ (has_left κ n m.code k.code y) z w
        (after_after e κ i (past k.code i) (pushes then v) (b.sim (operand+ c) true i t x κ (has_right κ n m.code k.code y) z) (u (pre p w)) (rw (past_append m.code k.code) at q));
  }

  -- pieces with one instruction or none
  pub nothing_s : {e : Scope} → Sim e nothing pass
  nothing_s = flushed (record { grow = λ c n s. stay s; sim = λ c n s x κ y z w q. q })

  pub failing_s : {e : Scope} (r : ℕ) {u : Walking} → Sim e (failing (suc r)) u
  failing_s r = flushed (record { grow = λ c n s. to s (fail (suc r) s) (λ x. absurd (refused r _ x.clean)) refl; sim = λ c n s x κ y z w q. absurd (refused r _ x.clean) })

  pub plain_s : {e : Scope} (i : Plain) → Sim e (put (plain i)) (logs (plain_action P i))
  unfolding settle relocate execute
  plain_s i = flushed (record { grow = λ c n s. stay s; sim = λ c n s x κ y z w q. ends_at (κ.base ⊕ n) y.0 q })

  pub taking_s : {e : Scope} (i : Taking) → Sim e (put (taking i)) (takes (taken i) (taking_action P i))
  unfolding settle relocate execute
  taking_s i = flushed (record { grow = λ c n s. stay s; sim = λ c n s x κ y z w q. ends_at (κ.base ⊕ n) y.0 q })

  pub const_s : {e : Scope} (k : ℕ) → Sim e (put_const k) (logs (e_const (const_at P k)))
  unfolding put_const settle relocate execute plain_action
  const_s {e} k = record { grow = gr; sim = sm }
    where
      gr : Grow (put_const k)
      gr c true n s = stay s
      gr c false n s = stay s

      sm : (c : Counts) (b : Bool) (n : ℕ) (s : State) → Ext (put_const k c b n s).state → (κ : Place) → Has κ n (put_const k c b n s).code → Fits e κ
          → (w : Run) → After e κ (past (put_const k c b n s).code n) (logs (e_const (const_at P k)) (pre b w)) → From κ n w
      sm c true n s x κ y z w q = ends_at (κ.base ⊕ n) y.0 q
      sm c false n s x κ y z w q = ends_at (κ.base ⊕ n) y.0 q

  pub shows : {A : Type 0} (e : Scope) (κ : Place) (n : ℕ) (u : A → Walking) (w : Run) {a b : A} → a ≡ b → After e κ n (u b w) → After e κ n (u a w)
  shows e κ n u w p q = subst (λ t. After e κ n (u t w)) (sym p) q

  -- flags are not shown
  pub flagged_s : {e : Scope} (k : Flags → Flags) {f : Lowering} {u : Walking} → Sim e f u → Sim e (flagged k f) u
  flagged_s k a = record { grow = λ c b n s. to s (set_flags (k s.flags) s) (λ x. x) refl ⟫ a.grow c b n _; sim = λ c b n s. a.sim c b n _ }

  -- the pools: a piece that shows what the program has at an index shows what was interned
  pub known_post : (v : Post) (s : State) → Step s (set_pools (set_posts (intern post_key pair_discrete v s.pools.posts) s.pools) s)
  known_post v s = to s (set_pools (set_posts (intern post_key pair_discrete v s.pools.posts) s.pools) s) (λ x. record { clean = x.clean; slot0 = x.slot0; hconsts = x.hconsts; hposts = intern_grows post_key pair_discrete self (λ i. post_at P (suc i)) v 0 s.pools.posts x.hposts; hhashes = x.hhashes; hnames = x.hnames; htemps = x.htemps; hmembers = x.hmembers; hstores = x.hstores; hcalls = x.hcalls; hsegs = x.hsegs }) refl

  interned_s : {e : Scope} {A K B : Type 0} (pool : Pool A K) (shown_as : A → B) (f : ℕ → B) → ((a b : A) → pool.key a ≡ pool.key b → shown_as a ≡ shown_as b) → (v : A)
      → ((s : State) → Step s (set_pools (pool.set (intern pool.key pool.dec v (pool.get s.pools)) s.pools) s))
      → ((s : State) → Ext (set_pools (pool.set (intern pool.key pool.dec v (pool.get s.pools)) s.pools) s) → Holds f 0 (map shown_as (intern pool.key pool.dec v (pool.get s.pools))))
      → (g : ℕ → Lowering) (u : B → Walking) → ((k : ℕ) → Sim e (g k) (u (f k))) → Sim e (interned pool v g) (u (shown_as v))
  interned_s {e} pool shown_as f i v grown held g u h = record {
    grow = λ c b n s. grown s ⟫ (h _).grow c b n _;
    sim = λ c b n s x κ y z w q. (h _).sim c b n _ x κ y z w (shows e κ _ u (pre b w) (intern_has pool.key pool.dec shown_as f i v 0 (pool.get s.pools) (held s (((h _).grow c b n _).back x))) q);
  }

  pub with_const_s : {e : Scope} (v : ℕ) (g : ℕ → Lowering) (u : ℕ → Walking) → ((k : ℕ) → Sim e (g k) (u (const_at P k))) → Sim e (with_const v g) (u (itself v))
  with_const_s v = interned_s const_pool itself (const_at P) (λ a b p. p) v (λ s. to s _ (λ x. record { clean = x.clean; slot0 = x.slot0; hconsts = intern_grows itself ℕ_discrete itself (const_at P) v 0 s.pools.consts x.hconsts; hposts = x.hposts; hhashes = x.hhashes; hnames = x.hnames; htemps = x.htemps; hmembers = x.hmembers; hstores = x.hstores; hcalls = x.hcalls; hsegs = x.hsegs }) refl) (λ s x. x.hconsts)

  pub with_hash_s : {e : Scope} (v : ℕ) (g : ℕ → Lowering) (u : ℕ → Walking) → ((k : ℕ) → Sim e (g k) (u (hash_at P k))) → Sim e (with_hash v g) (u (itself v))
  with_hash_s v = interned_s hash_pool itself (hash_at P) (λ a b p. p) v (λ s. to s _ (λ x. record { clean = x.clean; slot0 = x.slot0; hconsts = x.hconsts; hposts = x.hposts; hhashes = intern_grows itself ℕ_discrete itself (hash_at P) v 0 s.pools.hashes x.hhashes; hnames = x.hnames; htemps = x.htemps; hmembers = x.hmembers; hstores = x.hstores; hcalls = x.hcalls; hsegs = x.hsegs }) refl) (λ s x. x.hhashes)

  pub with_name_s : {e : Scope} (v : Name) (g : ℕ → Lowering) (u : ℕ → Walking) → ((k : ℕ) → Sim e (g k) (u (name_at P k))) → Sim e (with_name v g) (u (hash_key v))
  with_name_s v = interned_s name_pool hash_key (name_at P) (λ a b p. p) v (λ s. to s _ (λ x. record { clean = x.clean; slot0 = x.slot0; hconsts = x.hconsts; hposts = x.hposts; hhashes = x.hhashes; hnames = intern_grows hash_key ℕ_discrete hash_key (name_at P) v 0 s.pools.names x.hnames; htemps = x.htemps; hmembers = x.hmembers; hstores = x.hstores; hcalls = x.hcalls; hsegs = x.hsegs }) refl) (λ s x. x.hnames)

  with_slot_s : {e : Scope} (v : ℕ) (g : ℕ → Lowering) (u : ℕ → Walking) → ((k : ℕ) → Sim e (g k) (u (slot_at P k))) → Sim e (with_slot v g) (u (itself v))
  with_slot_s v = interned_s slot_pool itself (slot_at P) (λ a b p. p) v (λ s. to s _ (λ x. record { clean = x.clean; slot0 = x.slot0; hconsts = x.hconsts; hposts = x.hposts; hhashes = x.hhashes; hnames = x.hnames; htemps = intern_grows itself ℕ_discrete itself (slot_at P) v 0 s.pools.temps x.htemps; hmembers = x.hmembers; hstores = x.hstores; hcalls = x.hcalls; hsegs = x.hsegs }) refl) (λ s x. x.htemps)

  pub with_member_s : {e : Scope} (v : MemberRead) (g : ℕ → Lowering) (u : ℕ → Walking) → ((k : ℕ) → Sim e (g k) (u (member_at P k))) → Sim e (with_member v g) (u (own v))
  with_member_s v = interned_s member_pool own (member_at P) (λ a b p. ap (λ t. t.0) p) v (λ s. to s _ (λ x. record { clean = x.clean; slot0 = x.slot0; hconsts = x.hconsts; hposts = x.hposts; hhashes = x.hhashes; hnames = x.hnames; htemps = x.htemps; hmembers = intern_grows read_key pair_discrete own (member_at P) v 0 s.pools.members x.hmembers; hstores = x.hstores; hcalls = x.hcalls; hsegs = x.hsegs }) refl) (λ s x. x.hmembers)

  pub post_if_s : {e : Scope} (x : Bool) (v : Post) (g : ℕ → Lowering) (u : Post → Walking) → ((k : ℕ) → Sim e (g k) (u (post_at P k))) → Sim e (post_if x v g) (u (cond x identity v))
  unfolding post_if
  post_if_s {e} true v g u h = record {
    grow = λ c b n s. (h 0).grow c b n s;
    sim = λ c b n s x κ y z w q. (h 0).sim c b n s x κ y z w (shows e κ _ u (pre b w) (((h 0).grow c b n s).back x).slot0 q);
  }
  post_if_s false v g u h = interned_s post_pool self (λ i. post_at P (suc i)) (λ a b p i. record { scale = (p i).0; offset = (p i).1 }) v (known_post v) (λ s x. x.hposts) (λ k. g (suc k)) u (λ k. h (suc k))

  pub with_post_s : {e : Scope} (v : Post) (g : ℕ → Lowering) (u : Post → Walking) → ((k : ℕ) → Sim e (g k) (u (post_at P k))) → Sim e (with_post v g) (u (shown v))
  unfolding shown
  with_post_s v g u h = post_if_s (is_identity v) v g u h

  pub with_temp_s : {e : Scope} (v : Name) (g : ℕ → Lowering) (u : ℕ → Walking) → ((k : ℕ) → Sim e (g k) (u (name_at P (slot_at P k)))) → Sim e (with_temp v g) (u v.hash)
  with_temp_s v g u h = flagged_s _ (with_name_s v (λ k. with_slot k g) u (λ k. with_slot_s k g (λ t. u (name_at P t)) h))

  pub with_store_s : {e : Scope} (v : MemberStore) (g : ℕ → Lowering) (u : MemberStore → Walking) → ((k : ℕ) → Sim e (g k) (u (store_at P k))) → Sim e (with_store v g) (u v)
  with_store_s {e} v g u h = record {
    grow = λ c b n s. to s (set_pools (set_stores (s.pools.stores ++ (v ∷ [])) s.pools) s) (λ x. record { clean = x.clean; slot0 = x.slot0; hconsts = x.hconsts; hposts = x.hposts; hhashes = x.hhashes; hnames = x.hnames; htemps = x.htemps; hmembers = x.hmembers; hstores = holds_left (store_at P) 0 s.pools.stores (v ∷ []) x.hstores; hcalls = x.hcalls; hsegs = x.hsegs }) refl ⟫ (h _).grow c b n _;
    sim = λ c b n s x κ y z w q. (h _).sim c b n _ x κ y z w (shows e κ _ u (pre b w) (ap (store_at P) (sym (past_length s.pools.stores)) ∙ (holds_right (store_at P) 0 s.pools.stores (v ∷ []) (((h _).grow c b n _).back x).hstores).0) q);
  }

  pub constant_s : {e : Scope} (v : ℕ) → Sim e (constant v) (logs (e_const v))
  constant_s v = with_const_s v put_const (λ k. logs (e_const k)) const_s

  pub post_instr_s : {e : Scope} (x : Bool) (p : Post) → is_identity p ≡ x → Sim e (cond x nothing (with_post p (λ q. put (plain (post q))))) (cond x pass (logs (e_post p)))
  unfolding plain_action
  post_instr_s true p h = nothing_s
  post_instr_s false p h = rw h (post_if_s false p _ (λ q. logs (e_post q)) (λ k. plain_s (Plain.post k)))
