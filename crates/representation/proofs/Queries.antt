-- A query: its call's number, its arguments, the call filled, the Call itself. Assumes nothing.
use Rattle.std.proofs.Common.{rules, ◌≡◌, refl, sym, ap, subst, ◌∙◌, Bool, List, [], ◌∷◌, ℕ, zero, suc, ◌+◌, ◌*◌, ◌≤◌, ◌<◌, arith, length, eqb, ne_eqb}
use Rattle.ast.specs.Node.{count_at, first_at}
use Rattle.program.specs.Instruction.{call}
use Rattle.program.specs.Counts.{Counts}
use Rattle.program.specs.Image.{word_of}
use Rattle.semantics.specs.State.{CallInfo, State, set_pools, set_calls, set_flags, queried}
use Rattle.semantics.specs.Pieces.{put, with_post, flagged}
use Rattle.semantics.specs.Lowering.{Lowerings, Arguments, arguments, called, fill, query, is_empty}
use Rattle.semantics.specs.Link.{offsets_of}
use Rattle.payload.specs.declared.NameRef.{NameRef}
use Rattle.workspace.specs.Layout.{CALLS, ARGUMENTS}
use Rattle.lowering.specs.Held.{Held}
use Rattle.lowering.specs.Parts as L
use Rattle.lowering.specs.Parts.{Step}
use Rattle.builder.specs.Steps.{still}
use Rattle.lowering.specs.Steps as Y
use Rattle.lowering.specs.Rules as R
use Rattle.representation.proofs.Rows.{Rows}
use Rattle.representation.proofs.Represents.{WordAt, places, first_place, CallsFrom, OpenCall, Pending, OpenCalls, reserved_by, filled, Abs, Fits, Content, Moves, Does, run, on_state}
use Rattle.representation.proofs.Pools.{apart_none}
use Rattle.representation.proofs.Interning.{post_does}
use Rattle.representation.proofs.Laws.{flags_move}
use Rattle.representation.proofs.Targets.{mk}
use Rattle.representation.proofs.Branches.{instr_does}
use Rattle.representation.proofs.Keeps.{calls_changed}
use Rattle.representation.proofs.Calls.{pending_last, unfilled, begun_state, open_call, begun_a, begun_back, begun_keep}
use Rattle.representation.proofs.Arguments.{Children, grown_by, arguments_back, arguments_keep, children_count}

-- ---- a call filled with its starts

calls_fill : (ws : List ℕ) (hi p lo : ℕ) (is : List CallInfo) (k : ℕ) (o : List ℕ) → places ws (p + 4 * k) ≡ length o → Rows 1 (WordAt ws) (ARGUMENTS + first_place ws (p + 4 * k)) o → CallsFrom ws hi p lo is → CallsFrom ws hi p lo (fill k o is)
unfolding fill
calls_fill ws hi p lo [] k o e s h = h
calls_fill ws hi p lo (i ∷ is) zero o e s h =
    let z : p + 4 * 0 ≡ p = omega arith in
    (h.0, h.1, (subst (λ (q : ℕ). places ws q ≡ length o) z e, subst (λ (q : ℕ). Rows 1 (WordAt ws) (ARGUMENTS + first_place ws q) o) z s), h.3, h.4)
calls_fill ws hi p lo (i ∷ is) (suc k) o e s h =
    let z : p + 4 * suc k ≡ p + 4 + 4 * k = omega arith in
    (h.0, h.1, h.2, h.3, calls_fill ws hi (p + 4) (first_place ws p + places ws p) is k o (subst (λ (q : ℕ). places ws q ≡ length o) z e) (subst (λ (q : ℕ). Rows 1 (WordAt ws) (ARGUMENTS + first_place ws q) o) z s) h.4)

length_fill : (is : List CallInfo) (k : ℕ) (o : List ℕ) → length (fill k o is) ≡ length is
unfolding fill
length_fill [] k o = refl
length_fill (i ∷ is) zero o = refl
length_fill (i ∷ is) (suc k) o = ap suc (length_fill is k o)

pending_fill : (is : List CallInfo) (j k : ℕ) (o : List ℕ) → j < k → Pending j is → Pending j (fill k o is)
unfolding fill
pending_fill [] j k o l h = absurd h
pending_fill (i ∷ is) zero zero o l h = absurd (omega arith)
pending_fill (i ∷ is) zero (suc k) o l h = h
pending_fill (i ∷ is) (suc j) zero o l h = absurd (omega arith)
pending_fill (i ∷ is) (suc j) (suc k) o l h = pending_fill is j k o (omega arith) h

filled_fill : (is : List CallInfo) (k : ℕ) (o : List ℕ) → Pending k is → filled (fill k o is) ≡ filled is + length o
unfolding fill offsets_of
filled_fill [] k o h = absurd h
filled_fill (i ∷ is) zero o h = rw h (omega arith)
filled_fill (i ∷ is) (suc k) o h = let e = filled_fill is k o h in omega arith

open_fill : (ws : List ℕ) (is : List CallInfo) (b k : ℕ) (o : List ℕ) (os : List OpenCall) → b ≤ k → OpenCalls ws is b os → OpenCalls ws (fill k o is) b os
open_fill ws is b k o [] l h = tt
open_fill ws is b k o (x ∷ os) l h =
    let n = h.0 in
    (n, record { waits = pending_fill is x.number k o (omega arith) h.1.waits; first_is = h.1.first_is; reserved_is = h.1.reserved_is; fit = h.1.fit; starts_are = h.1.starts_are }, open_fill ws is x.number k o os (omega arith) h.2)

abbrev filled_state : ℕ → List ℕ → State → State
filled_state k o s = set_pools (set_calls (fill k o s.pools.calls) s.pools) s

module _ {tree : List ℕ} {c : Counts} where
  fill_keep : (A : Abs) (o : OpenCall) (os : List OpenCall) (h : Held) → A.open_calls ≡ o ∷ os → length o.starts ≡ o.reserved → Fits A → Content tree c h A → Content tree c h (mk A.outer A.code A.wait os (filled_state o.number o.starts A.state))
  fill_keep A o os h eo el f r =
      let t = r.tables in
      let is = A.state.pools.calls in
      let op : OpenCalls h.1 is h.0.listed.calls (o ∷ os) = subst (λ (l : List OpenCall). OpenCalls h.1 is h.0.listed.calls l) eo t.calls_held.the_open in
      let d = op.1 in
      let k = o.number in
      let cc = t.calls_held.call_count in
      let ac = t.calls_held.argument_count in
      let ff = filled_fill is k o.starts d.waits in
      let er = ap reserved_by eo in
      let opens : OpenCalls h.1 (fill k o.starts is) h.0.listed.calls os = widen h.1 (fill k o.starts is) k h.0.listed.calls os (omega arith) (open_fill h.1 is k k o.starts os (omega arith) op.2) in
      record {
        enough = r.enough;
        beside = r.beside;
        tables = calls_changed tree h.1 h.1 A f (apart_none h.1 CALLS CALLS) (omega arith) (record {
          call_count = cc ∙ sym (length_fill is k o.starts);
          the_calls = calls_fill h.1 h.0.listed.arguments CALLS 0 is k o.starts (d.reserved_is ∙ sym el) d.starts_are t.calls_held.the_calls;
          the_open = opens;
          argument_count = omega (arith, ac, er, ff, el);
        }) t;
      }
    where
      widen : (ws : List ℕ) (is : List CallInfo) (b e : ℕ) (os : List OpenCall) → b ≤ e → OpenCalls ws is b os → OpenCalls ws is e os
      widen ws is b e [] l h = tt
      widen ws is b e (x ∷ os) l h = let n = h.0 in (omega arith, h.1, h.2)

-- ---- the calls of a state after its arguments

-- as many starts as arguments
offsets_length : (xs : List Lowerings) (c : Counts) (s : State) → length (arguments xs c s).offsets ≡ length xs
unfolding arguments
offsets_length [] c s = refl
offsets_length (a ∷ xs) c s = ap suc (offsets_length xs c _)

module _ (tree : List ℕ) (E : ℕ → Bool → Step) (C : ℕ → NameRef → Bool → Step) (Z : ℕ → Bool → Step) where
  -- what is behind the arguments: as in R.called
  abbrev argued : ℕ → ℕ → ℕ → ℕ → Step
  argued v m n q h = R.arguments tree E C Z h.0.code.base h.0.code.waiting n q h.0.listed.arguments ((L.call_begun v m n h).0.state, (L.call_begun v m n h).1)

  module _ (c : Counts) (v m : ℕ) (xs : List Lowerings) (n q : ℕ) (k : Children tree E C Z xs n q) (pends : (j : ℕ) (s : State) → Pending j s.pools.calls → Pending j (arguments xs c s).state.pools.calls) where
    abbrev told : State → Arguments
    told s = arguments xs c (begun_state v m s)

    -- all arguments lowered, the call not yet filled
    abbrev behind : Abs → Abs
    behind A = mk A.outer A.code A.wait (grown_by (told A.state).offsets (open_call n A) ∷ A.open_calls) (told A.state).state

    count_is : length xs ≡ n
    count_is = children_count tree E C Z xs n q k

    behind_fits : (A : Abs) → Fits (on_state (called v m xs c) A) → Fits (behind A)
    behind_fits A f =
        let is = (told A.state).state.pools.calls in
        let p = pends (length A.state.pools.calls) (begun_state v m A.state) (pending_last A.state.pools.calls (unfilled v m) refl) in
        let e = filled_fill is (length A.state.pools.calls) (told A.state).offsets p in
        let l = length_fill is (length A.state.pools.calls) (told A.state).offsets in
        let o = offsets_length xs c (begun_state v m A.state) in
        let x = count_is in
        search rules

    begun_fits : (A : Abs) → Fits (on_state (called v m xs c) A) → Fits (begun_a v m n A)
    begun_fits A f = arguments_back tree E C Z c xs n q k (begun_a v m n A) (grown_by (told A.state).offsets (open_call n A) ∷ A.open_calls) refl (behind_fits A f)

    pub called_move : Moves tree (on_state (called v m xs c)) c c (argued v m n q)
    called_move = record {
      back = λ A f. begun_back v m n A (begun_fits A f);
      keep = λ A h f r.
          let f1 = begun_fits A f in
          let f2 = behind_fits A f in
          let g : Held = ((L.call_begun v m n h).0.state, (L.call_begun v m n h).1) in
          let r1 = begun_keep v m n A h f1 r in
          let x = count_is in
          let r2 = arguments_keep tree E C Z c xs n q k (begun_a v m n A) (open_call n A) A.open_calls h.0.listed.arguments h.0.code.base g refl (omega arith) (omega arith) r.tables.code_held.open_base f2 r1 in
          let o = offsets_length xs c (begun_state v m A.state) in
          let r3 = fill_keep (behind A) (grown_by (told A.state).offsets (open_call n A)) A.open_calls _ refl (omega arith) f2 r2 in
          subst (λ (w : Bool). Content tree c (R.arguments tree E C Z h.0.code.base w n q h.0.listed.arguments g) (on_state (called v m xs c) A)) (sym r.tables.code_held.waiting_is) r3;
    }

-- ---- the query

-- flags: a query without arguments
queried_move : {tree : List ℕ} {c : Counts} (a b : Bool) → a ≡ b → Moves tree (on_state (λ s. set_flags (queried a s.flags) s)) c c (still (Y.queried b))
unfolding queried Y.queried
queried_move a b e = flags_move (queried a) (Y.queried b) (λ s f p q. (rw p, rw (e, q))) (λ s. refl)

module _ (tree : List ℕ) (E : ℕ → Bool → Step) (C : ℕ → NameRef → Bool → Step) (Z : ℕ → Bool → Step) where
  alone_is : (xs : List Lowerings) (m q : ℕ) → Children tree E C Z xs m q → is_empty xs ≡ eqb m 0
  unfolding is_empty
  alone_is [] zero q k = refl
  alone_is (a ∷ xs) (suc m) q k = sym (ne_eqb (suc m) 0 (λ e. omega arith))
  alone_is xs m q k = absurd k

  pub query_does : (c : Counts) (p v m : ℕ) (xs : List Lowerings) → Children tree E C Z xs (count_at tree p) (first_at tree p) → ((j : ℕ) (s : State) → Pending j s.pools.calls → Pending j (arguments xs c s).state.pools.calls)
      → Does tree (flagged (queried (is_empty xs)) (query v m (L.post_bits tree p) xs)) c (R.called tree E C Z p v m)
  unfolding R.called L.put_post L.call_begun word_of
  query_does c p v m xs k pends =
      let n = count_at tree p in
      let q = first_at tree p in
      let fm = queried_move {tree = tree} {c = c} (is_empty xs) (eqb n 0) (alone_is xs n q k) in
      let cm = called_move tree E C Z c v m xs n q k pends in
      record {
        back = λ A f. fm.back A (cm.back (on_state (λ s. set_flags (queried (is_empty xs) s.flags) s) A) ((put_at (length A.state.pools.calls)).back _ f));
        keep = λ A h f r.
            let A1 = on_state (λ s. set_flags (queried (is_empty xs) s.flags) s) A in
            let f2 = (put_at (length A.state.pools.calls)).back (on_state (called v m xs c) A1) f in
            let f1 = cm.back A1 f2 in
            let g = still (Y.queried (eqb n 0)) h in
            let r1 = fm.keep A h f1 r in
            let r2 = cm.keep A1 g f2 r1 in
            let e = r1.tables.calls_held.call_count in
            subst (λ (i : ℕ). Content tree c (L.with_post tree p (λ y. L.instr 39 0 i y) (argued tree E C Z v m n q g)) (run (with_post (L.post_bits tree p) (λ y. put (call (length A.state.pools.calls) y))) c (on_state (called v m xs c) A1))) (sym e)
            ((put_at (length A.state.pools.calls)).keep (on_state (called v m xs c) A1) (argued tree E C Z v m n q g) f r2);
      }
    where
      put_at : (i : ℕ) → Does tree (with_post (L.post_bits tree p) (λ y. put (call i y))) c (L.with_post tree p (λ y. L.instr 39 0 i y))
      put_at i = post_does (L.post_bits tree p) (λ y. instr_does (call i y) refl)
