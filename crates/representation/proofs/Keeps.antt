-- Tables of the workspace where words of other regions have changed. Assumes nothing.
use Rattle.std.proofs.Common.{rules, ◌≡◌, subst, ◌∙◌, Bool, List, [], ◌∷◌, ℕ, zero, suc, ◌+◌, ◌*◌, ◌≤◌, ◌<◌, arith, length, get_or, length-append}
use mathlib.Core.Option.{Option, some, none}
use Rattle.program.specs.Instruction.{Instruction}
use Rattle.program.specs.Program.{MemberStore}
use Rattle.semantics.specs.State.{Item, CallInfo, Pools, set_segments, set_calls, set_stores}
use Rattle.semantics.specs.Link.{place_segments}
use Rattle.semantics.proofs.Costs.{weigh}
use Rattle.semantics.proofs.Sizes.{weigh_length}
use Rattle.workspace.specs.Layout.{OPEN, FINISHED, CONSTS, STORES, PATHS, CALLS, ARGUMENTS}
use Rattle.workspace.specs.declared.counts.Pools as N
use Rattle.workspace.specs.declared.counts.Listed.{Listed}
use Rattle.builder.specs.declared.OpenCode.{OpenCode}
use Rattle.card.specs.Holds.{PostIs, HashIs, TextIs, NameIs}
use Rattle.std.proofs.Math.Nat.{mul-le-mul_left}
use Rattle.representation.proofs.Rows.{Rows, Local, Agree, Apart}
use Rattle.representation.proofs.Represents.{Pooled, consts, posts, hashes, names, temps, members, row, PoolHeld, PoolsHeld, pool_held, all_held, CodeHeld, StoresHeld, CallsHeld, ItemAt, InstructionAt, WordAt, ConstIs, MemberAt, StoreAt, places, first_place, Filled, CallsFrom, OpenCall, OpenCallAt, OpenCalls, Abs, Fits, finished_code, Table, Tables}

-- what lies before the changed words, or behind them, is as it was
pub agree_below : {ws vs : List ℕ} {lo hi : ℕ} → Apart ws vs lo hi → {o e : ℕ} → e ≤ lo → Agree ws vs o e
agree_below a l j p q = a.below j (omega arith)

pub agree_above : {ws vs : List ℕ} {lo hi : ℕ} → Apart ws vs lo hi → {o e : ℕ} → hi ≤ o → Agree ws vs o e
agree_above a l j p q = a.above j (omega arith)

-- ---- entries look at their own words only

pub item_local : Local 2 ItemAt
item_local ws vs p x g h = search rules

pub instruction_local : Local 2 InstructionAt
instruction_local ws vs p x g h = search rules

pub word_local : Local 1 WordAt
word_local ws vs p x g h = g p (omega arith) (omega arith) ∙ h

pub const_local : Local 2 ConstIs
const_local ws vs p x g h = search rules

pub post_local : Local 2 PostIs
post_local ws vs p x g h = search rules

pub hash_local : Local 2 HashIs
hash_local ws vs p x g h = search rules

text_moved : (tree ws vs : List ℕ) (q : ℕ) (t : List ℕ) → get_or vs q 0 ≡ get_or ws q 0 → TextIs tree (get_or ws q 0) t → TextIs tree (get_or vs q 0) t
text_moved tree ws vs q t e h = search rules

pub name_local : (tree : List ℕ) → Local 3 (NameIs tree)
name_local tree ws vs p x g h = search rules

pub member_local : (tree : List ℕ) → Local 6 (MemberAt tree)
member_local tree ws vs p x g h = search rules

-- ---- tables of entries

pub rows_moved : {X : Type 0} (w : ℕ) (Q R : ℕ → X → Type 0) (ws vs : List ℕ) → ((p : ℕ) (x : X) → Agree ws vs p (p + w) → Q p x → R p x) → (o : ℕ) (xs : List X) → Agree ws vs o (o + weigh w xs) → Rows w Q o xs → Rows w R o xs
rows_moved w Q R ws vs f o [] g h = tt
rows_moved w Q R ws vs f o (x ∷ xs) g h =
    (f o x (λ j a b. g j a (omega arith)) h.0, rows_moved w Q R ws vs f (o + w) xs (λ j a b. g j (omega arith) (omega arith)) h.1)

-- a table within a region that ends at e
pub table_keep : {X : Type 0} (w : ℕ) (Q : List ℕ → ℕ → X → Type 0) → Local w Q → (ws vs : List ℕ) (o n : ℕ) (xs : List X) (e : ℕ) → o + w * length xs ≤ e → Agree ws vs o e → Table w (Q ws) o n xs → Table w (Q vs) o n xs
table_keep w Q l ws vs o n xs e b g t = record {
  count = t.count;
  rows = let k = weigh_length w xs in rows_moved w (Q ws) (Q vs) ws vs (λ p x a. l ws vs p x a) o xs (λ j a c. g j a (omega arith)) t.rows;
}

module _ (ws vs : List ℕ) where
  pub finished_keep : (n : ℕ) (xs : List Instruction) → length xs ≤ 2048 → Agree ws vs FINISHED CONSTS → Table 2 (InstructionAt ws) FINISHED n xs → Table 2 (InstructionAt vs) FINISHED n xs
  finished_keep n xs b g = table_keep 2 InstructionAt instruction_local ws vs FINISHED n xs CONSTS (omega arith) g

  -- ---- stores, with their paths

  pub store_keep : (paths : ℕ) → Agree ws vs PATHS (PATHS + 2 * paths) → (p : ℕ) (s : MemberStore) → Agree ws vs p (p + 4) → StoreAt paths ws p s → StoreAt paths vs p s
  store_keep paths a p s g h = search rules

-- ---- calls, with their arguments

-- the places begin within the bound
pub calls_lo : (ws : List ℕ) (hi p lo : ℕ) (is : List CallInfo) → CallsFrom ws hi p lo is → lo ≤ hi
calls_lo ws hi p lo [] h = h
calls_lo ws hi p lo (i ∷ is) h = let k = calls_lo ws hi (p + 4) (first_place ws p + places ws p) is h.4 in let l = h.3 in omega arith

-- a call's places lie before the bound
pub call_within : (ws : List ℕ) (hi p lo : ℕ) (is : List CallInfo) (k : ℕ) → k < length is → CallsFrom ws hi p lo is → first_place ws (p + 4 * k) + places ws (p + 4 * k) ≤ hi
call_within ws hi p lo [] k l h = absurd (omega arith)
call_within ws hi p lo (i ∷ is) zero l h =
    let e : p ≡ p + 4 * 0 = omega arith in
    subst (λ (q : ℕ). first_place ws q + places ws q ≤ hi) e (calls_lo ws hi (p + 4) (first_place ws p + places ws p) is h.4)
call_within ws hi p lo (i ∷ is) (suc k) l h =
    let e : p + 4 + 4 * k ≡ p + 4 * suc k = omega arith in
    subst (λ (q : ℕ). first_place ws q + places ws q ≤ hi) e (call_within ws hi (p + 4) (first_place ws p + places ws p) is k (omega arith) h.4)

module _ (ws vs : List ℕ) where
  -- starts from a call's first place on
  pub starts_keep : (p : ℕ) (o : List ℕ) → first_place vs p ≡ first_place ws p → Agree ws vs (ARGUMENTS + first_place ws p) (ARGUMENTS + first_place ws p + length o) → Rows 1 (WordAt ws) (ARGUMENTS + first_place ws p) o → Rows 1 (WordAt vs) (ARGUMENTS + first_place vs p) o
  starts_keep p o e a h =
      let k = weigh_length 1 o in
      rw e (rows_moved 1 (WordAt ws) (WordAt vs) ws vs (λ q x r. word_local ws vs q x r) (ARGUMENTS + first_place ws p) o (λ j x y. a j x (omega arith)) h)

  pub filled_keep : (p : ℕ) (o : Option (List ℕ)) → places vs p ≡ places ws p → first_place vs p ≡ first_place ws p → Agree ws vs (ARGUMENTS + first_place ws p) (ARGUMENTS + first_place ws p + places ws p) → Filled ws p o → Filled vs p o
  filled_keep p none e f a h = tt
  filled_keep p (some o) e f a h = let c = h.0 in (e ∙ c, starts_keep p o f (λ j x y. a j x (omega arith)) h.1)

  -- a call's words are as they were, and so are the calls behind it
  pub call_keep : (hi p lo : ℕ) (i : CallInfo) (is : List CallInfo) → Agree ws vs p (p + 4) → CallsFrom ws hi p lo (i ∷ is) → Filled vs p i.offsets → CallsFrom vs hi (p + 4) (first_place ws p + places ws p) is → CallsFrom vs hi p lo (i ∷ is)
  call_keep hi p lo i is g h s t =
      let e : places vs p ≡ places ws p = g (p + 2) (omega arith) (omega arith) in
      let f : first_place vs p ≡ first_place ws p = g (p + 3) (omega arith) (omega arith) in
      let l = h.3 in
      (g p (omega arith) (omega arith) ∙ h.0, g (p + 1) (omega arith) (omega arith) ∙ h.1, s, omega (arith, f, l), rw (e, f) t)

  pub calls_keep : (hi p lo : ℕ) (is : List CallInfo) → Agree ws vs p (p + 4 * length is) → Agree ws vs ARGUMENTS (ARGUMENTS + hi) → CallsFrom ws hi p lo is → CallsFrom vs hi p lo is
  calls_keep hi p lo [] g a h = h
  calls_keep hi p lo (i ∷ is) g a h =
      let b = calls_lo ws hi (p + 4) (first_place ws p + places ws p) is h.4 in
      call_keep hi p lo i is (λ j x y. g j x (omega arith)) h
      (filled_keep p i.offsets (g (p + 2) (omega arith) (omega arith)) (g (p + 3) (omega arith) (omega arith)) (λ j x y. a j (omega arith) (omega arith)) h.2)
      (calls_keep hi (p + 4) (first_place ws p + places ws p) is (λ j x y. g j (omega arith) (omega arith)) a h.4)

  pub open_call_keep : (hi : ℕ) (is : List CallInfo) (o : OpenCall) → Agree ws vs (CALLS + 4 * o.number) (CALLS + 4 * o.number + 4) → Agree ws vs ARGUMENTS (ARGUMENTS + hi) → first_place ws (CALLS + 4 * o.number) + places ws (CALLS + 4 * o.number) ≤ hi → OpenCallAt ws is o → OpenCallAt vs is o
  open_call_keep hi is o g a b h =
      let p = CALLS + 4 * o.number in
      let e : places vs p ≡ places ws p = g (p + 2) (omega arith) (omega arith) in
      let f : first_place vs p ≡ first_place ws p = g (p + 3) (omega arith) (omega arith) in
      let r = h.reserved_is in
      let l = h.fit in
      record { waits = h.waits; first_is = f ∙ h.first_is; reserved_is = e ∙ r; fit = l; starts_are = starts_keep p o.starts f (λ j x y. a j (omega arith) (omega arith)) h.starts_are }

  pub open_keep : (hi : ℕ) (is : List CallInfo) (os : List OpenCall) (bound : ℕ) → bound ≤ length is → CallsFrom ws hi CALLS 0 is → Agree ws vs CALLS (CALLS + 4 * length is) → Agree ws vs ARGUMENTS (ARGUMENTS + hi) → OpenCalls ws is bound os → OpenCalls vs is bound os
  open_keep hi is [] bound b c g a h = tt
  open_keep hi is (o ∷ os) bound b c g a h =
      let l = h.0 in (
        l,
        open_call_keep hi is o (λ j x y. g j (omega arith) (omega arith)) a (call_within ws hi CALLS 0 is o.number (omega arith) c) h.1,
        open_keep hi is os o.number (omega arith) c g a h.2,
      )

-- ---- a pool that is interned, within its region

module _ (tree : List ℕ) where
  -- a claim on an entry looks at its own words
  pub entries : (i : Pooled) → Local (row tree i).region.width (row tree i).At
  entries consts = const_local
  entries posts = post_local
  entries hashes = hash_local
  entries names = name_local tree
  entries temps = word_local
  entries members = member_local tree

  abbrev pub end_of : Pooled → ℕ
  end_of i = let r = (row tree i).region in r.from + r.width * r.room

  -- the words two workspaces differ in are words of the region
  abbrev pub OnlyIn : Pooled → List ℕ → List ℕ → Type 0
  OnlyIn i ws vs = Apart ws vs (row tree i).region.from (end_of i)

  pub pool_inside : (i : Pooled) → (CONSTS ≤ (row tree i).region.from) × (end_of i ≤ STORES)
  pool_inside consts = (omega arith, omega arith)
  pool_inside i = (omega arith, omega arith)

  pub pool_fits : (i : Pooled) (A : Abs) → Fits A → length ((row tree i).pool.get A.state.pools) ≤ (row tree i).region.room
  pool_fits consts A f = omega arith
  pool_fits i A f = omega arith

  pub pool_keep : (ws vs : List ℕ) (A : Abs) → Fits A → (i : Pooled) → Agree ws vs (row tree i).region.from (end_of i)
      → (n : N.Pools) → PoolHeld tree ws n A.state.pools i → PoolHeld tree vs n A.state.pools i
  pool_keep ws vs A f i g n t =
      let r = row tree i in
      let e = r.region in
      let b = mul-le-mul_left e.width (pool_fits i A f) in
      table_keep e.width r.At (entries i) ws vs e.from (e.count n) (r.pool.get A.state.pools) (end_of i) (omega arith) g t

-- ---- groups of tables whose words are as they were

module _ (tree ws vs : List ℕ) (A : Abs) (f : Fits A) where
  pub code_held_keep : Agree ws vs OPEN CONSTS → {s : OpenCode} → CodeHeld ws s A.outer A.code A.wait (finished_code A.state.pools) → CodeHeld vs s A.outer A.code A.wait (finished_code A.state.pools)
  code_held_keep g t =
      let e = length-append A.outer A.code in
      record {
        open_base = t.open_base;
        open_code = table_keep 2 ItemAt item_local ws vs OPEN _ _ FINISHED (omega arith) (λ j x y. g j x (omega arith)) t.open_code;
        the_finished_code = finished_keep ws vs _ (finished_code A.state.pools) (omega arith) (λ j x y. g j (omega arith) y) t.the_finished_code;
        waiting_is = t.waiting_is;
      }

  pub pools_held_keep : Agree ws vs CONSTS STORES → {n : N.Pools} → PoolsHeld tree ws n A.state.pools → PoolsHeld tree vs n A.state.pools
  pools_held_keep g {n} t =
      all_held tree vs n A.state.pools λ i.
      let b = pool_inside tree i in
      pool_keep tree ws vs A f i (λ j x y. g j (omega arith) (omega arith)) n (pool_held tree ws n A.state.pools t i)

  pub stores_held_keep : Agree ws vs STORES CALLS → {stores paths : ℕ} → StoresHeld ws stores paths A.state.pools.stores → StoresHeld vs stores paths A.state.pools.stores
  stores_held_keep g {stores} {paths} t =
      let xs = A.state.pools.stores in
      let k = weigh_length 4 xs in
      let n = t.path_count in
      record {
        the_stores = record {
          count = t.the_stores.count;
          rows = rows_moved 4 (StoreAt paths ws) (StoreAt paths vs) ws vs (store_keep ws vs paths (λ j x y. g j (omega arith) (omega arith))) STORES xs (λ j x y. g j x (omega arith)) t.the_stores.rows;
        };
        path_count = n;
      }

pub calls_held_keep : (ws vs : List ℕ) {lo hi : ℕ} → Apart ws vs lo hi → hi ≤ CALLS → {calls arguments : ℕ} {is : List CallInfo} {os : List OpenCall} → CallsHeld ws calls arguments is os → CallsHeld vs calls arguments is os
calls_held_keep ws vs a l {calls} {arguments} {is} {os} t = record {
  call_count = t.call_count;
  the_calls = calls_keep ws vs arguments CALLS 0 is (agree_above a l) (agree_above a (omega arith)) t.the_calls;
  the_open = open_keep ws vs arguments is os calls (let n = t.call_count in omega arith) t.the_calls (agree_above a l) (agree_above a (omega arith)) t.the_open;
  argument_count = t.argument_count;
}

-- ---- all tables

module _ (tree ws vs : List ℕ) (A : Abs) (f : Fits A) {n : N.Pools} {l : Listed} {s : OpenCode} where
  -- words of the pools have changed: new tables for those; the code, the stores and the calls are as they were
  pub pools_changed : Apart ws vs CONSTS STORES → Tables tree ws n l s A.outer A.code A.wait A.open_calls A.state.pools → {m : N.Pools} (Q : Pools) → PoolsHeld tree vs m Q →
      Tables tree vs m l s A.outer A.code A.wait A.open_calls
      (record A.state.pools { consts = Q.consts; posts = Q.posts; hashes = Q.hashes; names = Q.names; temps = Q.temps; members = Q.members })
  pools_changed a t Q p = record {
    code_held = code_held_keep tree ws vs A f (agree_below a (omega arith)) t.code_held;
    pools_held = p;
    stores_held = stores_held_keep tree ws vs A f (agree_above a (omega arith)) t.stores_held;
    calls_held = calls_held_keep ws vs a (omega arith) t.calls_held;
  }

  -- words of the code regions have changed, of any open code and calls: new tables for those; the pools, the stores and the calls are as they were
  pub code_changed : {lo hi : ℕ} → Apart ws vs lo hi → hi ≤ CONSTS → {outer code : List Item} {wait : Bool} {os : List OpenCall} → Tables tree ws n l s outer code wait os A.state.pools →
      {s2 : OpenCode} {outer2 code2 : List Item} {wait2 : Bool} {segments : List (List Item)} → CodeHeld vs s2 outer2 code2 wait2 (place_segments segments 0) →
      Tables tree vs n l s2 outer2 code2 wait2 os (set_segments segments A.state.pools)
  code_changed a b t c = record {
    code_held = c;
    pools_held = pools_held_keep tree ws vs A f (agree_above a b) t.pools_held;
    stores_held = stores_held_keep tree ws vs A f (agree_above a (omega arith)) t.stores_held;
    calls_held = calls_held_keep ws vs a (omega arith) t.calls_held;
  }

  -- words from CALLS on have changed: new tables for those; all else is as it was
  pub calls_changed : {lo hi : ℕ} → Apart ws vs lo hi → CALLS ≤ lo → {calls arguments : ℕ} {os : List OpenCall} {is : List CallInfo} → CallsHeld vs calls arguments is os →
      Tables tree ws n l s A.outer A.code A.wait A.open_calls A.state.pools →
      Tables tree vs n (record l { calls = calls; arguments = arguments }) s A.outer A.code A.wait os (set_calls is A.state.pools)
  calls_changed a b c t = record {
    code_held = code_held_keep tree ws vs A f (agree_below a (omega arith)) t.code_held;
    pools_held = pools_held_keep tree ws vs A f (agree_below a (omega arith)) t.pools_held;
    stores_held = stores_held_keep tree ws vs A f (agree_below a b) t.stores_held;
    calls_held = c;
  }

  -- words of the stores and their paths have changed: a new table for those; all else is as it was
  pub stores_changed : Apart ws vs STORES CALLS → Tables tree ws n l s A.outer A.code A.wait A.open_calls A.state.pools →
      {stores paths : ℕ} {xs : List MemberStore} → StoresHeld vs stores paths xs →
      Tables tree vs n (record l { stores = stores; paths = paths }) s A.outer A.code A.wait A.open_calls (set_stores xs A.state.pools)
  stores_changed a t c = record {
    code_held = code_held_keep tree ws vs A f (agree_below a (omega arith)) t.code_held;
    pools_held = pools_held_keep tree ws vs A f (agree_below a (omega arith)) t.pools_held;
    stores_held = c;
    calls_held = calls_held_keep ws vs a (omega arith) t.calls_held;
  }
