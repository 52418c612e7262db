use mathlib.Core.Path.{◌≡◌, refl}
use mathlib.Core.Bool.{Bool, false}
use mathlib.Core.List.{List, [], ◌∷◌, ◌++◌}
use mathlib.Core.Option.{none}
use Prim.Native.Nat.{ℕ, zero, suc, ◌≤◌, ◌+◌}
use native.Mathlib.Omega.{arith}
use lib.ListN.{length}
use Rattle.ast.specs.Tree.{Name}
use Rattle.numeric.specs.Post.{Post}
use Rattle.program.specs.Fits.{Below, Every, FitPost}
use Rattle.program.specs.Image.{word_of}
use Rattle.program.specs.Instruction.{end, call}
use Rattle.program.specs.Counts.{Counts, AtMost}
use Rattle.semantics.proofs.CostedRules.{seg_grow, call_grow}
use Rattle.semantics.proofs.Costs.{sum, weigh, weigh_length, count_least, call_weight, sz, size}
use Rattle.semantics.proofs.RangedJumps.{fits_end}
use Rattle.semantics.proofs.RangedPools.{post_r}
use Rattle.semantics.proofs.Ranges.{Fits, ones, FitText, FitInfo, Good, Done, Room, Ranged, past_weigh, every_append, put_r}
use Rattle.semantics.specs.Link.{relocate, settle, offsets_of}
use Rattle.semantics.specs.Lowering.{query, arguments, Lowerings, pasts, close_segment, fill, called}
use Rattle.semantics.specs.Pieces.{Lowered, put, with_post}
use Rattle.semantics.specs.Positions.{past}
use Rattle.semantics.specs.State.{Item, instr, CallInfo, set_calls, State, set_pools}

-- Calls: their arguments' segments and starts fit. Assumes nothing.

-- a tree as an expression, a statement and a base
pub record Ranges (a : Lowerings) : Type 0 where
  pub expr : (l : Bool) → Ranged [] (a.expr l)
  pub statement : (l : Bool) → Ranged [] (a.statement l)
  pub base : (n : Name) → FitText n → (l : Bool) → Ranged [] (a.base n l)

pasts_apart : (cs : List (List Item)) (n : ℕ) → pasts cs n ≡ n + sum (weigh 1) cs
pasts_apart [] n = omega arith
pasts_apart (c ∷ cs) n = let h = pasts_apart cs (past c n) in let i = past_weigh c n in omega arith

segments_size : (s : State) → pasts s.pools.segments 0 ≤ size ones s
unfolding sz
segments_size s = let h = pasts_apart s.pools.segments 0 in omega arith

close_good : (x : Lowered) → Done x → Good (close_segment x)
close_good x d =
    let p = d.good.pools in
    let e = every_append (Every Fits) x.state.pools.segments ((x.code ++ (instr end ∷ [])) ∷ []) p.segments (every_append Fits x.code (instr end ∷ []) d.fits (fits_end, tt), tt) in
    record { pools = record { consts = p.consts; posts = p.posts; hashes = p.hashes; names = p.names; temps = p.temps; members = p.members; stores = p.stores; calls = p.calls; segments = e }; flags = d.good.flags }

-- the arguments of a call, one behind the other
pub record Told (xs : List Lowerings) (c : Counts) (s : State) : Type 0 where
  pub grows : size ones s ≤ size ones (arguments xs c s).state
  pub deep : (m : Counts) → Room c m 0 (size ones s) (size ones (arguments xs c s).state) → AtMost s.deepest m → AtMost (arguments xs c s).state.deepest m
  pub good : size ones (arguments xs c s).state ≤ 65535 → Good s → Good (arguments xs c s).state
  pub starts : size ones (arguments xs c s).state ≤ 65535 → Every (λ o. o ≤ 65535) (arguments xs c s).offsets

pub arguments_r : (xs : List Lowerings) → Every Ranges xs → (c : Counts) (s : State) → Told xs c s
unfolding arguments
arguments_r [] h c s = record { grows = omega arith; deep = λ m r d. d; good = λ l g. g; starts = λ l. tt }
arguments_r (a ∷ xs) h c s =
    let x = a.expr false c false 0 s in
    let g = (h.0.expr false).by c false 0 s in
    let e = seg_grow ones x in
    let t = arguments_r xs h.1 c (close_segment x) in
    let p = segments_size x.state in
    record {
      grows = omega arith;
      deep = λ m r d. t.deep m (omega arith) (g.deep m (omega arith) d);
      good = λ l q. t.good l (close_good x (g.ok tt (omega arith) q));
      starts = λ l. (omega arith, t.starts l);
    }

every_fill : (k : ℕ) (o : List ℕ) → Every (λ o. o ≤ 65535) o → (xs : List CallInfo) → Every FitInfo xs → Every FitInfo (fill k o xs)
unfolding fill offsets_of
every_fill k o h [] q = tt
every_fill zero o h (i ∷ is) q = (record { index = q.0.index; impl = q.0.impl; offsets = h }, q.1)
every_fill (suc k) o h (i ∷ is) q = (q.0, every_fill k o h is q.1)

asked_fill : (k : ℕ) (o : List ℕ) (xs : List CallInfo) → sum (call_weight ones) (fill k o xs) ≡ sum (call_weight ones) xs
unfolding fill offsets_of
asked_fill k o [] = refl
asked_fill zero o (i ∷ is) = let h = weigh_length 0 o in let j = weigh_length 0 (offsets_of i.offsets) in omega arith
asked_fill (suc k) o (i ∷ is) = let h = asked_fill k o is in omega arith

called_size : (v m : ℕ) (xs : List Lowerings) (c : Counts) (s : State) → size ones (called v m xs c s) ≡ size ones (arguments xs c (set_pools (set_calls (s.pools.calls ++ (record { index = v; impl = m; offsets = none } ∷ [])) s.pools) s)).state
unfolding sz
called_size v m xs c s =
    let y = arguments xs c (set_pools (set_calls (s.pools.calls ++ (record { index = v; impl = m; offsets = none } ∷ [])) s.pools) s) in
    let h = asked_fill (length s.pools.calls) y.offsets y.state.pools.calls in omega arith

calls_size : (s : State) → length s.pools.calls ≤ size ones s
unfolding sz
calls_size s = let h = count_least 1 (call_weight ones) (λ v. omega arith) s.pools.calls in omega arith

fits_call : (k p : ℕ) → k ≤ 65535 → p ≤ 65535 → Fits (instr (call k p))
unfolding settle relocate word_of
fits_call k p h i b j = omega arith

module _ (v m : ℕ) (p : Post) (fv : Below 2 v) (fm : Below 1 m) (fp : FitPost p) (xs : List Lowerings) (h : Every Ranges xs) where
  abbrev entry : CallInfo
  entry = record { index = v; impl = m; offsets = none }

  abbrev begun : State → State
  begun s = set_pools (set_calls (s.pools.calls ++ (entry ∷ [])) s.pools) s

  begun_good : (s : State) → Good s → Good (begun s)
  unfolding offsets_of
  begun_good s g =
      let p = g.pools in
      record {
        pools = record { consts = p.consts; posts = p.posts; hashes = p.hashes; names = p.names; temps = p.temps; members = p.members; stores = p.stores; calls = every_append FitInfo s.pools.calls (entry ∷ []) p.calls (record { index = fv; impl = fm; offsets = tt }, tt); segments = p.segments };
        flags = g.flags;
      }

  called_good : (c : Counts) (s : State) → size ones (called v m xs c s) ≤ 65535 → Good s → Good (called v m xs c s)
  called_good c s l g =
      let t = arguments_r xs h c (begun s) in
      let e = called_size v m xs c s in
      let k = t.good (omega arith) (begun_good s g) in
      let p = k.pools in
      record {
        pools = record { consts = p.consts; posts = p.posts; hashes = p.hashes; names = p.names; temps = p.temps; members = p.members; stores = p.stores; calls = every_fill (length s.pools.calls) _ (t.starts (omega arith)) _ p.calls; segments = p.segments };
        flags = k.flags;
      }

  call_r : (k : ℕ) → Ranged (k ∷ []) (with_post p (λ q. put (call k q)))
  call_r k = post_r p fp _ (λ q. put_r (call k q) (λ u. fits_call k q u.1.0 u.0))

  pub query_r : Ranged [] (query v m p xs)
  unfolding offsets_of
  query_r = record {
    by = λ c b n s.
        let t = called v m xs c s in
        let i = (call_r (length s.pools.calls)).by c b n t in
        let e = called_size v m xs c s in
        let y = arguments_r xs h c (begun s) in
        let a = call_grow ones entry s in
        let k = calls_size s in
        record { grows = omega arith; deep = λ o r d. i.deep o (omega arith) (y.deep o (omega arith) d); ok = λ u l q. i.ok (omega arith, tt) l (called_good c s (omega arith) q) };
  }
