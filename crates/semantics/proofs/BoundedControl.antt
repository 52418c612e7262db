use mathlib.Core.Path.{◌≡◌, refl, ap, sym, subst}
use mathlib.Core.Bool.{Bool, true, false}
use mathlib.Core.List.{List, [], ◌∷◌}
use Prim.Native.Nat.{ℕ, zero, suc, ◌≤◌}
use native.Mathlib.Omega.{arith}
use lib.ListN.{length}
use Rattle.ast.specs.Tree.{Name}
use Rattle.numeric.specs.Post.{Post}
use Rattle.program.specs.Instruction.{Guard, jump_if_falsy, EachNext, Instruction, guard, jump, handler_push, handler_pop, call}
use Rattle.program.specs.Counts.{Counts, AtMost}
use Rattle.semantics.proofs.Bounds.{Fits, flushed, raised, In, left, Less, Safe, Bound, Fine, raised_to, closed, post_b}
use Rattle.semantics.proofs.Relations.{Zip, znil, zcons}
use Rattle.semantics.specs.Demand3.{Within}
use Rattle.semantics.specs.Lowering.{query, Lowerings, called}
use Rattle.semantics.specs.Pieces.{Lowering, put, with_post, fork}
use Rattle.semantics.specs.Run.{Action, e_jump_if_falsy, e_loop_begin, e_loop_check, e_each_begin, Run, set_counts, set_outcomes, note, note_argument, handler+, handler-, same, opens, count, pick}
use Rattle.semantics.specs.State.{Item, State}
use Rattle.semantics.specs.Walk.{coalesce, Completion, normal, missing, broke, again, returned, halted, out, Walking, Scope, inside, pass, returns, misses, loads, conditional, otherwise, ends, round, checks, rounds, nexts, begins, Walkings, segment}
use Rattle.semantics.specs.Walk as K
use Rattle.semantics.specs.Pieces as Q
use Rattle.semantics.specs.Lowering as L

-- Outcomes, branches, `??`, loops and calls stay within the maxima that were raised. Assumes nothing.

-- outcomes
pub pick_in : (m c d : Counts) (dry good bad : Walking) (w : Run) → w.counts ≡ c → Within m w.log → Safe m c d dry → Safe m c d good → Safe m c d bad → (outcomes : List Bool) → In m d (pick outcomes w dry good bad)
unfolding pick
pick_in m c d dry good bad w k l h₀ h₁ h₂ [] = h₀ (set_outcomes [] w) k l
pick_in m c d dry good bad w k l h₀ h₁ h₂ (true ∷ outcomes) = h₁ (set_outcomes outcomes w) k l
pick_in m c d dry good bad w k l h₀ h₁ h₂ (false ∷ outcomes) = h₂ (set_outcomes outcomes w) k l

pub pick_less : (outcomes : List Bool) (w : Run) (dry good bad : Walking) → Less dry → Less good → Less bad → left (pick outcomes w dry good bad) ≤ length outcomes
unfolding pick
pick_less [] w dry good bad h₀ h₁ h₂ = h₀ (set_outcomes [] w)
pick_less (true ∷ outcomes) w dry good bad h₀ h₁ h₂ = let i = h₁ (set_outcomes outcomes w) in omega arith
pick_less (false ∷ outcomes) w dry good bad h₀ h₁ h₂ = let i = h₂ (set_outcomes outcomes w) in omega arith

pub misses_in : (m c : Counts) (h : Bool) → Safe m c c (misses h)
unfolding misses
misses_in m c true w k l = l
misses_in m c false w k l = (k, l)

pub misses_less : (h : Bool) → Less (misses h)
unfolding misses
misses_less true w = omega arith
misses_less false w = omega arith

pub may_in : (m c : Counts) (e : Scope) → Safe m c c (K.perhaps e)
may_in m c e w k l = pick_in m c c out normal (misses e.handler) w k l (λ w k l. l) (λ w k l. (k, l)) (misses_in m c e.handler) w.outcomes

pub may_less : (e : Scope) → Less (K.perhaps e)
may_less e w = pick_less w.outcomes w out normal (misses e.handler) (λ w. omega arith) (λ w. omega arith) (misses_less e.handler)

pub load_b : (i : Instruction) (a : Action) (e : Scope) → Fine (put i) (loads e a)
load_b i a e = flushed (record { less = λ w. may_less e (note a w); back = λ c n s m i. i; safe = λ c n s m i j w k l. may_in m c e (note a w) k (rw k j, l) })

pub ret_b : (i : Instruction) (v : Post) → Fine (put i) (returns v)
ret_b i v = flushed (record { less = λ w. omega arith; back = λ c n s m i. i; safe = λ c n s m i j w k l. (rw k j, l) })

pub jumps_b : (i : Item) (to : Walking) → Less to → ((m c : Counts) (w : Run) → Within m w.log → In m c (to w)) → (l : Bool) → Fine (Q.jumps i l) (K.jumps to l)
unfolding Q.jumps K.jumps
jumps_b i to h k true = flushed (record { less = h; back = λ c n s m i. i; safe = λ c n s m i j w _ l. k m c w l })
jumps_b i to h k false = flushed (record { less = λ w. omega arith; back = λ c n s m i. i; safe = λ c n s m i j w k l. (rw k j, l) })

pub guarded_b : (g : Guard) (a : Action) (up d : Counts → Counts) → ((c : Counts) → d (up c) ≡ c) → {f : Lowering} {u : Walking} → Bound f u d → Fine (Q.guarded g up f) (K.guarded a up u)
guarded_b g a up d y {f} {u} b = flushed (record {
  less = λ w. pick_less w.outcomes (note a w) out (λ w. u (count up w)) normal (λ w. omega arith) (λ w. b.less (count up w)) (λ w. omega arith);
  back = λ c n s m i. raised (up c) _ (b.back (up c) false _ _ m i);
  safe = λ c n s m i j w k l.
      pick_in m c c out (λ w. u (count up w)) normal (note a w) k (rw k j, l) (λ w k l. l)
      (λ w k l. subst (λ (z : Counts). In m z (u (count up w))) (y c) (b.safe (up c) false _ _ m i (raised_to (up c) _ (b.back (up c) false _ _ m i)) (count up w) (ap up k) l))
      (λ w k l. (k, l)) w.outcomes;
})

pub branch_b : {f g : Lowering} {u v : Walking} → Fine f u → Fine g v → Fine (fork (guard jump_if_falsy) jump same f g) (conditional u v)
branch_b {f} {g} {u} {v} a b = flushed (record {
  less = λ w. pick_less w.outcomes (note e_jump_if_falsy w) out u v (λ w. omega arith) a.less b.less;
  back = λ c n s m i. raised c _ (a.back c false _ _ m (b.back c false _ _ m i));
  safe = λ c n s m i j w k l. pick_in m c c out u v (note e_jump_if_falsy w) k (rw k j, l) (λ w k l. l) (a.safe c false _ _ m (b.back c false _ _ m i) j) (b.safe c false _ _ m i j) w.outcomes;
})

pub otherwise_in : (m c : Counts) (v : Walking) → Safe m c c v → (x : Completion) → In m (handler+ c) x → In m c (otherwise c v x)
unfolding otherwise
otherwise_in m c v h (normal w) q = (ap handler- q.0, q.1)
otherwise_in m c v h (missing w) q = h (set_counts c w) refl q
otherwise_in m c v h _ q = q

pub otherwise_less : (c : Counts) (v : Walking) → Less v → (x : Completion) {k : ℕ} → left x ≤ k → left (otherwise c v x) ≤ k
unfolding otherwise
otherwise_less c v b (missing w) h = let i = b (set_counts c w) in omega arith
otherwise_less c v b _ h = h

pub coalesce_b : {f g : Lowering} {u v : Walking} → Fine f u → Fine g v → Fine (fork handler_push handler_pop handler+ f g) (coalesce u v)
coalesce_b {f} {g} {u} {v} a b = flushed (record {
  less = λ w. otherwise_less w.counts v b.less (u (count handler+ w)) (a.less (count handler+ w));
  back = λ c n s m i. raised (handler+ c) _ (a.back (handler+ c) false _ _ m (b.back c false _ _ m i));
  safe = λ c n s m i j w k l.
      let h = b.back c false _ _ m i in
      subst (λ (z : Counts). In m c (otherwise z v (u (set_counts (handler+ z) w)))) (sym k)
      (otherwise_in m c v (b.safe c false _ _ m i j) (u (set_counts (handler+ c) w)) (a.safe (handler+ c) false _ _ m h (raised_to (handler+ c) _ (a.back (handler+ c) false _ _ m h)) (set_counts (handler+ c) w) refl l));
})

-- loops
module _ (m c : Counts) (x : Bool) (j : AtMost (opens x c) m) where
  pub end_in : (w : Run) → Within m w.log → In m c (ends x (opens x c) w)
  end_in w l = (closed x c, (j, l))

  pub round_in : (next : Walking) → ((w : Run) → Within m w.log → In m c (next w)) → (y : Completion) → In m (opens x c) y → In m c (round x (opens x c) next y)
  unfolding round
  round_in next h (normal w) q = h w q.1
  round_in next h (broke w) q = end_in w q
  round_in next h (again w) q = h w q
  round_in next h _ q = q

module _ (m c : Counts) where
  pub check_in : AtMost (opens true c) m → (more : Walking) → Safe m (opens true c) c more → (w : Run) → Within m w.log → In m c (checks (opens true c) more w)
  check_in j more h w l = pick_in m (opens true c) c out more (ends true (opens true c)) (note e_loop_check (set_counts (opens true c) w)) refl (j, l) (λ w k l. l) h (λ w k l. end_in m c true j w l) w.outcomes

  pub rounds_in : AtMost (opens true c) m → (u : Walking) → Safe m (opens true c) (opens true c) u → (n : ℕ) → Safe m (opens true c) c (rounds (opens true c) u n)
  unfolding rounds
  rounds_in j u h zero w k l = round_in m c true j _ (check_in j out (λ w k l. l)) (u w) (h w k l)
  rounds_in j u h (suc n) w k l = round_in m c true j _ (check_in j (rounds (opens true c) u n) (rounds_in j u h n)) (u w) (h w k l)

  pub nexts_in : AtMost (opens false c) m → (a : Action) (u : Walking) → Safe m (opens false c) (opens false c) u → (n : ℕ) (w : Run) → Within m w.log → In m c (nexts a (opens false c) u n w)
  unfolding nexts
  nexts_in j a u h zero w l = pick_in m (opens false c) c out out (ends false (opens false c)) (note a (set_counts (opens false c) w)) refl (j, l) (λ w k l. l) (λ w k l. l) (λ w k l. end_in m c false j w l) w.outcomes
  nexts_in j a u h (suc n) w l = pick_in m (opens false c) c out (λ w. round false (opens false c) (nexts a (opens false c) u n) (u w)) (ends false (opens false c)) (note a (set_counts (opens false c) w)) refl (j, l)
      (λ w k l. l) (λ w k l. round_in m c false j _ (nexts_in j a u h n) (u w) (h w k l)) (λ w k l. end_in m c false j w l) w.outcomes

pub round_less : (x : Bool) (c : Counts) (next : Walking) → Less next → (y : Completion) {n : ℕ} → left y ≤ n → left (round x c next y) ≤ n
unfolding round
round_less x c next h (normal w) l = let i = h w in omega arith
round_less x c next h (again w) l = let i = h w in omega arith
round_less x c next h _ l = l

pub checks_less : (c : Counts) (more : Walking) → Less more → Less (checks c more)
checks_less c more h w = pick_less w.outcomes (note e_loop_check (set_counts c w)) out more (ends true c) (λ w. omega arith) h (λ w. omega arith)

pub rounds_less : (c : Counts) (u : Walking) → Less u → (n : ℕ) → Less (rounds c u n)
unfolding rounds
rounds_less c u h zero w = round_less true c _ (checks_less c out (λ w. omega arith)) (u w) (h w)
rounds_less c u h (suc n) w = round_less true c _ (checks_less c (rounds c u n) (rounds_less c u h n)) (u w) (h w)

pub nexts_less : (a : Action) (c : Counts) (u : Walking) → Less u → (n : ℕ) → Less (nexts a c u n)
unfolding nexts
nexts_less a c u h zero w = pick_less w.outcomes (note a (set_counts c w)) out out (ends false c) (λ w. omega arith) (λ w. omega arith) (λ w. omega arith)
nexts_less a c u h (suc n) w = pick_less w.outcomes (note a (set_counts c w)) out (λ w. round false c (nexts a c u n) (u w)) (ends false c) (λ w. omega arith) (λ w. round_less false c _ (nexts_less a c u h n) (u w) (h w)) (λ w. omega arith)

pub begins_less : (a : Action) (x : Bool) (inner : Counts → ℕ → Walking) → ((c : Counts) (n : ℕ) → Less (inner c n)) → Less (begins a x inner)
begins_less a x inner h w = pick_less w.outcomes (note a w) out (λ w. inner (opens x w.counts) (length w.outcomes) (count (opens x) w)) normal (λ w. omega arith) (λ w. h _ _ (count (opens x) w)) (λ w. omega arith)

pub begins_in : (m c : Counts) (a : Action) (x : Bool) (inner : Counts → ℕ → Walking) → AtMost c m → ((n : ℕ) → Safe m (opens x c) c (inner (opens x c) n)) → Safe m c c (begins a x inner)
begins_in m c a x inner j h w k l = pick_in m c c out (λ w. inner (opens x w.counts) (length w.outcomes) (count (opens x) w)) normal (note a w) k (rw k j, l) (λ w k l. l)
    (λ w k l. subst (λ (z : Counts). In m c (inner (opens x z) (length w.outcomes) (set_counts (opens x z) w))) (sym k) (h (length w.outcomes) (set_counts (opens x c) w) refl l))
    (λ w k l. (k, l)) w.outcomes

pub looped_b : {f : Lowering} {u : Walking} → Fine f u → Fine (Q.counted_loop f) (K.counted_loop u)
looped_b {f} {u} a = flushed (record {
  less = begins_less e_loop_begin true (λ c. rounds c u) (λ c n. rounds_less c u a.less n);
  back = λ c n s m i. raised (opens true c) _ (a.back (opens true c) false _ _ m i);
  safe = λ c n s m i j.
      let h = raised_to (opens true c) _ (a.back (opens true c) false _ _ m i) in
      begins_in m c e_loop_begin true (λ c. rounds c u) j (λ n. rounds_in m c h u (a.safe (opens true c) false _ _ m i h) n);
})

pub eached_b : (y : EachNext) (x : Action) {f : Lowering} {u : Walking} → Fine f u → Fine (Q.eached y f) (K.eached x u)
eached_b y x {f} {u} a = flushed (record {
  less = begins_less e_each_begin false (λ c. nexts x c u) (λ c n. nexts_less x c u a.less n);
  back = λ c n s m i. raised (opens false c) _ (a.back (opens false c) false _ _ m i);
  safe = λ c n s m i j.
      let h = raised_to (opens false c) _ (a.back (opens false c) false _ _ m i) in
      begins_in m c e_each_begin false (λ c. nexts x c u) j (λ n w k l. nexts_in m c h x u (a.safe (opens false c) false _ _ m i h) n w l);
})

-- a whole tree
pub record Whole (l : Lowerings) (m : Walkings) : Type 0 where
  pub expr : (e : Scope) → Fine (l.expr e.loop) (m.expr e)
  pub statement : (e : Scope) → Fine (l.statement e.loop) (m.statement e)
  pub base : (n : Name) (e : Scope) → Fine (l.base n e.loop) (m.base e)

-- arguments
pub args_back : {ls : List Lowerings} {ms : List Walkings} → Zip Whole ls ms → (c : Counts) (s : State) (m : Counts) → Fits m (L.arguments ls c s).state → Fits m s
unfolding L.arguments
args_back znil c s m i = i
args_back (zcons a h) c s m i = (a.expr inside).back c false 0 s m (args_back h c _ m i)

pub segment_in : (m c d : Counts) (v : Walking) → Safe m c d v → (x : Completion) → In m c x → In m d (segment c v x)
unfolding segment
segment_in m c d v h (normal w) q = h (set_counts c w) refl q.1
segment_in m c d v h (returned w) q = h (set_counts c w) refl q
segment_in m c d v h (halted w) q = h (set_counts c w) refl q
segment_in m c d v h _ q = q

pub segment_less : (c : Counts) (v : Walking) → Less v → (x : Completion) {k : ℕ} → left x ≤ k → left (segment c v x) ≤ k
unfolding segment
segment_less c v b (normal w) h = let i = b (set_counts c w) in omega arith
segment_less c v b (returned w) h = let i = b (set_counts c w) in omega arith
segment_less c v b (halted w) h = let i = b (set_counts c w) in omega arith
segment_less c v b _ h = h

pub args_less : (j : ℕ) {ls : List Lowerings} {ms : List Walkings} → Zip Whole ls ms → (v : Walking) → Less v → Less (K.arguments j ms v)
unfolding K.arguments
args_less j znil v b = b
args_less j (zcons {qs = ms} a h) v b = λ w. segment_less w.counts (K.arguments (suc j) ms v) (args_less (suc j) h v b) _ ((a.expr inside).less (note_argument j w))

pub args_in : (j : ℕ) {ls : List Lowerings} {ms : List Walkings} → Zip Whole ls ms → (c : Counts) (s : State) (m : Counts) → Fits m (L.arguments ls c s).state → AtMost c m → (v : Walking) → Safe m c c v → Safe m c c (K.arguments j ms v)
unfolding L.arguments K.arguments
args_in j znil c s m i k v h = h
args_in j (zcons {b = x} {qs = ms} a b) c s m i k v h = λ w p l.
    subst (λ (z : Counts). In m c (segment z (K.arguments (suc j) ms v) (x.expr inside (note_argument j w)))) (sym p)
    (segment_in m c c (K.arguments (suc j) ms v) (args_in (suc j) b c _ m i k v h) (x.expr inside (note_argument j w)) ((a.expr inside).safe c false 0 s m (args_back b c _ m i) k (note_argument j w) p l))

pub query_b : (e : Scope) (x y : ℕ) (p : Post) (a : Action) {ls : List Lowerings} {ms : List Walkings} → Zip Whole ls ms → Fine (query x y p ls) (λ w. K.arguments 0 ms (K.perhaps e) (note a w))
query_b e x y p a {ls} {ms} h = record {
  less = λ w. args_less 0 h (K.perhaps e) (may_less e) (note a w);
  back = λ c b n s m i. args_back h c _ m ((noted s).back c b n (called x y ls c s) m i);
  safe = λ c b n s m i j w k l. args_in 0 h c _ m ((noted s).back c b n (called x y ls c s) m i) j (K.perhaps e) (may_in m c e) (note a w) k (rw k j, l);
}
  where
    noted : (s : State) → Fine (with_post p (λ q. put (call (length s.pools.calls) q))) pass
    noted s = post_b p _ (λ q. flushed (record { less = λ w. omega arith; back = λ c n s m i. i; safe = λ c n s m i j w k l. (k, l) }))
