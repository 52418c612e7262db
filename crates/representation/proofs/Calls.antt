-- Calls: a number and argument places taken, the arguments' starts stored one by one, and the call filled. Assumes nothing.
use Rattle.std.proofs.Common.{min, rules, ◌≡◌, refl, sym, ap, subst, ◌∙◌, Bool, cond, List, [], ◌∷◌, ◌++◌, ℕ, zero, suc, ◌+◌, ◌*◌, ◌≤◌, ◌<◌, arith, length, get_or, set, length-append, length-set, get_or-set_same, get_or-set_other, ltb, lt-ltb}
use mathlib.Core.Option.{none}
use lib.Seq.{sets}
use Rattle.program.specs.Counts.{Counts}
use Rattle.semantics.proofs.Costs.{weigh}
use Rattle.semantics.proofs.Sizes.{weigh_length}
use Rattle.semantics.specs.State.{CallInfo, State, set_pools, set_calls}
use Rattle.semantics.specs.Link.{offsets_of}
use Rattle.lowering.specs.Regions.{appended_count, appended_words}
use Rattle.workspace.specs.Layout.{CALLS, ARGUMENTS}
use Rattle.lowering.specs.Held.{Held}
use Rattle.lowering.specs.Parts as L
use Rattle.representation.proofs.Rows.{Apart, rows_snoc, sets_apart, sets_stored}
use Rattle.representation.proofs.Represents.{WordAt, places, first_place, CallsFrom, OpenCall, Pending, OpenCallAt, OpenCalls, reserved_by, filled, Abs, Fits, Content}
use Rattle.representation.proofs.Keeps.{starts_keep, filled_keep, call_keep, calls_keep, call_within, open_keep, calls_changed}
use Rattle.representation.proofs.Targets.{mk}

-- ---- the order of argument places

-- a call's places begin at lo or behind it
pub call_lo : (ws : List ℕ) (hi p lo : ℕ) (is : List CallInfo) (k : ℕ) → k < length is → CallsFrom ws hi p lo is → lo ≤ first_place ws (p + 4 * k)
call_lo ws hi p lo [] k l h = absurd (omega arith)
call_lo ws hi p lo (i ∷ is) zero l h = let e : p ≡ p + 4 * 0 = omega arith in subst (λ (q : ℕ). lo ≤ first_place ws q) e h.3
call_lo ws hi p lo (i ∷ is) (suc k) l h =
    let e : p + 4 + 4 * k ≡ p + 4 * suc k = omega arith in
    let r = call_lo ws hi (p + 4) (first_place ws p + places ws p) is k (omega arith) h.4 in
    let b = h.3 in
    subst (λ (q : ℕ). lo ≤ first_place ws q) e (omega (arith, r, b))

-- and behind those of every call before it
pub call_order : (ws : List ℕ) (hi p lo : ℕ) (is : List CallInfo) (j k : ℕ) → j < k → k < length is → CallsFrom ws hi p lo is → first_place ws (p + 4 * j) + places ws (p + 4 * j) ≤ first_place ws (p + 4 * k)
call_order ws hi p lo [] j k l m h = absurd (omega arith)
call_order ws hi p lo (i ∷ is) zero zero l m h = absurd (omega arith)
call_order ws hi p lo (i ∷ is) zero (suc k) l m h =
    let e0 : p ≡ p + 4 * 0 = omega arith in
    let e : p + 4 + 4 * k ≡ p + 4 * suc k = omega arith in
    subst (λ (q : ℕ). first_place ws q + places ws q ≤ first_place ws (p + 4 * suc k)) e0 (subst (λ (q : ℕ). first_place ws p + places ws p ≤ first_place ws q) e (call_lo ws hi (p + 4) (first_place ws p + places ws p) is k (omega arith) h.4))
call_order ws hi p lo (i ∷ is) (suc j) zero l m h = absurd (omega arith)
call_order ws hi p lo (i ∷ is) (suc j) (suc k) l m h =
    let ej : p + 4 + 4 * j ≡ p + 4 * suc j = omega arith in
    let ek : p + 4 + 4 * k ≡ p + 4 * suc k = omega arith in
    subst (λ (q : ℕ). first_place ws q + places ws q ≤ first_place ws (p + 4 * suc k)) ej (subst (λ (q : ℕ). first_place ws (p + 4 + 4 * j) + places ws (p + 4 + 4 * j) ≤ first_place ws q) ek (call_order ws hi (p + 4) (first_place ws p + places ws p) is j k (omega arith) (omega arith) h.4))

-- ---- a call more

-- its four words stand behind the others, its places behind theirs
calls_snoc : (ws : List ℕ) (hi n p lo : ℕ) (is : List CallInfo) (i : CallInfo) → i.offsets ≡ none → get_or ws (p + 4 * length is) 0 ≡ i.index → get_or ws (p + 4 * length is + 1) 0 ≡ i.impl → places ws (p + 4 * length is) ≡ n → first_place ws (p + 4 * length is) ≡ hi
    → CallsFrom ws hi p lo is → CallsFrom ws (hi + n) p lo (is ++ (i ∷ []))
calls_snoc ws hi n p lo [] i en e0 e1 e2 e3 h =
    let z : p + 4 * 0 ≡ p = omega arith in
    search rules
calls_snoc ws hi n p lo (x ∷ is) i en e0 e1 e2 e3 h =
    let z : p + 4 * suc (length is) ≡ p + 4 + 4 * length is = omega arith in (
      h.0,
      h.1,
      h.2,
      h.3,
      calls_snoc ws hi n (p + 4) (first_place ws p + places ws p) is i en (ap (λ (q : ℕ). get_or ws q 0) (sym z) ∙ e0) (ap (λ (q : ℕ). get_or ws (q + 1) 0) (sym z) ∙ e1) (ap (λ (q : ℕ). places ws q) (sym z) ∙ e2) (ap (λ (q : ℕ). first_place ws q) (sym z) ∙ e3) h.4,
    )

-- the calls of a state are only added to
pub pending_append : (j : ℕ) (is more : List CallInfo) → Pending j is → Pending j (is ++ more)
pending_append j [] more h = absurd h
pending_append zero (i ∷ is) more h = h
pending_append (suc j) (i ∷ is) more h = pending_append j is more h

pub pending_last : (is : List CallInfo) (i : CallInfo) → i.offsets ≡ none → Pending (length is) (is ++ (i ∷ []))
pending_last [] i e = e
pending_last (x ∷ is) i e = pending_last is i e

filled_more : (is : List CallInfo) (i : CallInfo) → i.offsets ≡ none → filled (is ++ (i ∷ [])) ≡ filled is
unfolding offsets_of
filled_more [] i e = rw e
filled_more (x ∷ is) i e = let h = filled_more is i e in omega arith

open_more : (ws : List ℕ) (is : List CallInfo) (i : CallInfo) (b : ℕ) (os : List OpenCall) → OpenCalls ws is b os → OpenCalls ws (is ++ (i ∷ [])) b os
open_more ws is i b [] h = tt
open_more ws is i b (o ∷ os) h = (h.0, record { waits = pending_append o.number is (i ∷ []) h.1.waits; first_is = h.1.first_is; reserved_is = h.1.reserved_is; fit = h.1.fit; starts_are = h.1.starts_are }, open_more ws is i o.number os h.2)

abbrev pub unfilled : ℕ → ℕ → CallInfo
unfilled v m = record { index = v; impl = m; offsets = none }

abbrev pub begun_state : ℕ → ℕ → State → State
begun_state v m s = set_pools (set_calls (s.pools.calls ++ (unfilled v m ∷ [])) s.pools) s

-- the open call that it is, of n arguments
abbrev pub open_call : ℕ → Abs → OpenCall
open_call n A = record { number = length A.state.pools.calls; first = reserved_by A.open_calls + filled A.state.pools.calls; reserved = n; starts = [] }

abbrev pub begun_a : ℕ → ℕ → ℕ → Abs → Abs
begun_a v m n A = mk A.outer A.code A.wait (open_call n A ∷ A.open_calls) (begun_state v m A.state)

pub begun_back : (v m n : ℕ) (A : Abs) → Fits (begun_a v m n A) → Fits A
begun_back v m n A f =
    let l = length-append A.state.pools.calls (unfilled v m ∷ []) in
    let e = filled_more A.state.pools.calls (unfilled v m) refl in
    search rules

module _ {tree : List ℕ} {c : Counts} where
  pub begun_keep : (v m n : ℕ) (A : Abs) (h : Held) → Fits (begun_a v m n A) → Content tree c h A → Content tree c ((L.call_begun v m n h).0.state, (L.call_begun v m n h).1) (begun_a v m n A)
  unfolding L.call_begun appended_count appended_words
  begun_keep v m n A h f r =
      let f0 = begun_back v m n A f in
      let t = r.tables in
      let is = A.state.pools.calls in
      let os = A.open_calls in
      let i = unfilled v m in
      let en = r.enough in
      let cc = t.calls_held.call_count in
      let ac = t.calls_held.argument_count in
      let l = length-append is (i ∷ []) in
      let fm = filled_more is i refl in
      let at = CALLS + 4 * h.0.listed.calls in
      let es = v ∷ m ∷ n ∷ h.0.listed.arguments ∷ [] in
      let vs = sets h.1 at es in
      let a = sets_apart h.1 at es in
      let al = a.same_length in
      let p : CALLS + 4 * length is ≡ at = omega arith in
      let word : (k : ℕ) → k < 4 → get_or vs (at + k) 0 ≡ get_or es k 0 = λ k b. sets_stored h.1 at es k b (omega arith) in
      let z : at + 0 ≡ at = omega arith in
      let w0 : get_or vs (CALLS + 4 * length is) 0 ≡ v = ap (λ (q : ℕ). get_or vs q 0) (p ∙ sym z) ∙ word 0 (omega arith) in
      let w1 : get_or vs (CALLS + 4 * length is + 1) 0 ≡ m = ap (λ (q : ℕ). get_or vs (q + 1) 0) p ∙ word 1 (omega arith) in
      let w2 : places vs (CALLS + 4 * length is) ≡ n = ap (λ (q : ℕ). get_or vs (q + 2) 0) p ∙ word 2 (omega arith) in
      let w3 : first_place vs (CALLS + 4 * length is) ≡ h.0.listed.arguments = ap (λ (q : ℕ). get_or vs (q + 3) 0) p ∙ word 3 (omega arith) in
      let old = calls_keep h.1 vs h.0.listed.arguments CALLS 0 is (λ j x y. a.below j (omega arith)) (λ j x y. a.above j (omega arith)) t.calls_held.the_calls in
      let new = calls_snoc vs h.0.listed.arguments n CALLS 0 is i refl w0 w1 w2 w3 old in
      let opens = open_more vs is i h.0.listed.calls os (open_keep h.1 vs h.0.listed.arguments is os h.0.listed.calls (omega arith) t.calls_held.the_calls (λ j x y. a.below j (omega arith)) (λ j x y. a.above j (omega arith)) t.calls_held.the_open) in
      let o = open_call n A in
      let head : OpenCallAt vs (is ++ (i ∷ [])) o = record { waits = pending_last is i refl; first_is = w3 ∙ ac; reserved_is = w2; fit = omega arith; starts_are = tt } in
      let opens' : OpenCalls vs (is ++ (i ∷ [])) (length is) os = subst (λ (b : ℕ). OpenCalls vs (is ++ (i ∷ [])) b os) cc opens in
      let e : min (h.0.listed.arguments + n) 65535 ≡ h.0.listed.arguments + n = omega arith in
      rw (lt-ltb h.0.listed.calls 384 (omega arith), e)
      (record {
        enough = omega (arith, al, en);
        beside = r.beside;
        tables = calls_changed tree h.1 vs A f0 a (omega arith) (record { call_count = omega arith; the_calls = new; the_open = (omega arith, head, opens'); argument_count = omega arith }) t;
      })

-- ---- a start stored

module _ (ws vs : List ℕ) (slot : ℕ) (a : Apart ws vs (ARGUMENTS + slot) (ARGUMENTS + slot + 1)) where
  -- the four words of a call lie before
  call_words : (p j : ℕ) → p + 4 ≤ ARGUMENTS → j < p + 4 → get_or vs j 0 ≡ get_or ws j 0
  call_words p j b l = a.below j (omega arith)

  calls_above : (hi p lo : ℕ) (is : List CallInfo) → p + 4 * length is ≤ ARGUMENTS → slot < lo → CallsFrom ws hi p lo is → CallsFrom vs hi p lo is
  calls_above hi p lo [] b l h = h
  calls_above hi p lo (i ∷ is) b l h =
      let q : p + 4 ≤ ARGUMENTS = omega arith in
      call_keep ws vs hi p lo i is (λ j u v. call_words p j q v) h
      (filled_keep ws vs p i.offsets (call_words p (p + 2) q (omega arith)) (call_words p (p + 3) q (omega arith)) (λ j u v. a.above j (omega arith)) h.2)
      (calls_above hi (p + 4) (first_place ws p + places ws p) is (omega arith) (omega arith) h.4)

  -- in a place of call k, whose starts are not known yet
  calls_skip : (hi p lo : ℕ) (is : List CallInfo) (k : ℕ) → p + 4 * length is ≤ ARGUMENTS → Pending k is → first_place ws (p + 4 * k) ≤ slot → slot < first_place ws (p + 4 * k) + places ws (p + 4 * k) → k < length is → CallsFrom ws hi p lo is → CallsFrom vs hi p lo is
  calls_skip hi p lo [] k b w x y l h = absurd w
  calls_skip hi p lo (i ∷ is) zero b w x y l h =
      let q : p + 4 ≤ ARGUMENTS = omega arith in
      let z : p + 4 * 0 ≡ p = omega arith in
      let y' : slot < first_place ws p + places ws p = rw z at y in
      call_keep ws vs hi p lo i is (λ j u v. call_words p j q v) h (rw w tt) (calls_above hi (p + 4) (first_place ws p + places ws p) is (omega arith) y' h.4)
  calls_skip hi p lo (i ∷ is) (suc k) b w x y l h =
      let q : p + 4 ≤ ARGUMENTS = omega arith in
      let z : p + 4 * suc k ≡ p + 4 + 4 * k = omega arith in
      let x' : first_place ws (p + 4 + 4 * k) ≤ slot = rw z at x in
      let y' : slot < first_place ws (p + 4 + 4 * k) + places ws (p + 4 + 4 * k) = rw z at y in
      let m = call_lo ws hi (p + 4) (first_place ws p + places ws p) is k (omega arith) h.4 in
      call_keep ws vs hi p lo i is (λ j u v. call_words p j q v) h
      (filled_keep ws vs p i.offsets (call_words p (p + 2) q (omega arith)) (call_words p (p + 3) q (omega arith)) (λ j u v. a.below j (omega arith)) h.2)
      (calls_skip hi (p + 4) (first_place ws p + places ws p) is k (omega arith) w x' y' (omega arith) h.4)

  -- the open calls further out have theirs before it
  open_skip : (hi : ℕ) (is : List CallInfo) (k : ℕ) (os : List OpenCall) (b : ℕ) → b ≤ k → k < length is → CALLS + 4 * length is ≤ ARGUMENTS → first_place ws (CALLS + 4 * k) ≤ slot → CallsFrom ws hi CALLS 0 is → OpenCalls ws is b os → OpenCalls vs is b os
  open_skip hi is k [] b l m g x cs h = tt
  open_skip hi is k (o ∷ os) b l m g x cs h =
      let n = h.0 in
      let p = CALLS + 4 * o.number in
      let q : p + 4 ≤ ARGUMENTS = omega arith in
      let r = call_order ws hi CALLS 0 is o.number k (omega arith) m cs in
      let d = h.1 in
      let s = d.reserved_is in
      let t = d.fit in (
        n,
        record { waits = d.waits; first_is = call_words p (p + 3) q (omega arith) ∙ d.first_is; reserved_is = call_words p (p + 2) q (omega arith) ∙ s; fit = t; starts_are = starts_keep ws vs p o.starts (call_words p (p + 3) q (omega arith)) (λ j u v. a.below j (omega arith)) d.starts_are },
        open_skip hi is k os o.number (omega arith) m g x cs h.2,
      )

abbrev pub grown : ℕ → OpenCall → OpenCall
grown v o = record { number = o.number; first = o.first; reserved = o.reserved; starts = o.starts ++ (v ∷ []) }

module _ {tree : List ℕ} {c : Counts} where
  pub start_keep : (A : Abs) (o : OpenCall) (os : List OpenCall) (slot v : ℕ) (h : Held) → A.open_calls ≡ o ∷ os → slot ≡ o.first + length o.starts → length o.starts < o.reserved → Fits A → Content tree c h A
      → Content tree c (h.0, cond (ltb slot 384) (set h.1 (ARGUMENTS + slot) v) h.1) (mk A.outer A.code A.wait (grown v o ∷ os) A.state)
  start_keep A o os slot v h eo es lt f r =
      let t = r.tables in
      let is = A.state.pools.calls in
      let op : OpenCalls h.1 is h.0.listed.calls (o ∷ os) = subst (λ (l : List OpenCall). OpenCalls h.1 is h.0.listed.calls l) eo t.calls_held.the_open in
      let d = op.1 in
      let nb = op.0 in
      let fi = d.first_is in
      let ri = d.reserved_is in
      let cc = t.calls_held.call_count in
      let ac = t.calls_held.argument_count in
      let en = r.enough in
      let p = CALLS + 4 * o.number in
      let k = o.number in
      let wi = call_within h.1 h.0.listed.arguments CALLS 0 is k (omega arith) t.calls_held.the_calls in
      let small : slot < 384 = omega arith in
      let vs = set h.1 (ARGUMENTS + slot) v in
      let a : Apart h.1 vs (ARGUMENTS + slot) (ARGUMENTS + slot + 1) = record { same_length = length-set h.1 (ARGUMENTS + slot) v; below = λ j l. get_or-set_other h.1 (ARGUMENTS + slot) j v 0 (λ e. omega arith); above = λ j l. get_or-set_other h.1 (ARGUMENTS + slot) j v 0 (λ e. omega arith) } in
      let q : p + 4 ≤ ARGUMENTS = omega arith in
      let x : first_place h.1 p ≤ slot = omega arith in
      let y : slot < first_place h.1 p + places h.1 p = omega arith in
      let cs = calls_skip h.1 vs slot a h.0.listed.arguments CALLS 0 is k (omega arith) d.waits x y (omega arith) t.calls_held.the_calls in
      let outer = open_skip h.1 vs slot a h.0.listed.arguments is k os k (omega arith) (omega arith) (omega arith) x t.calls_held.the_calls op.2 in
      let fe = call_words h.1 vs slot a p (p + 3) q (omega arith) in
      let old = starts_keep h.1 vs p o.starts fe (λ j u v. a.below j (omega arith)) d.starts_are in
      let w = weigh_length 1 o.starts in
      let pl : ARGUMENTS + first_place vs p + weigh 1 o.starts ≡ ARGUMENTS + slot = omega (arith, fe, fi, es, w) in
      let al = length-set h.1 (ARGUMENTS + slot) v in
      let new : get_or vs (ARGUMENTS + first_place vs p + weigh 1 o.starts) 0 ≡ v = ap (λ (j : ℕ). get_or vs j 0) pl ∙ get_or-set_same h.1 (ARGUMENTS + slot) v 0 (omega arith) in
      let la = length-append o.starts (v ∷ []) in
      let head : OpenCallAt vs is (grown v o) = record { waits = d.waits; first_is = fe ∙ fi; reserved_is = call_words h.1 vs slot a p (p + 2) q (omega arith) ∙ ri; fit = omega (arith, la, lt); starts_are = rows_snoc 1 (WordAt vs) (ARGUMENTS + first_place vs p) o.starts v old new } in
      let sum : h.0.listed.arguments ≡ reserved_by (grown v o ∷ os) + filled is = ac ∙ ap (λ (l : List OpenCall). reserved_by l + filled is) eo in
      subst (λ (z : Bool). Content tree c (h.0, cond z vs h.1) (mk A.outer A.code A.wait (grown v o ∷ os) A.state)) (sym (lt-ltb slot 384 small))
      (record {
        enough = omega (arith, al, en);
        beside = r.beside;
        tables = calls_changed tree h.1 vs A f a (omega arith) (record { call_count = cc; the_calls = cs; the_open = (nb, head, outer); argument_count = sum }) t;
      })
