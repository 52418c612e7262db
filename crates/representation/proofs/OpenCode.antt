-- The open code: an instruction more, a Push that waits, a target set. Assumes nothing.
use Rattle.std.proofs.Common.{le-leb, rules, ◌≡◌, refl, sym, ap, subst, ◌∙◌, Bool, true, false, cond, List, [], ◌∷◌, ◌++◌, append_assoc, append-nil, ℕ, ◌+◌, ◌*◌, ◌%◌, ◌≤◌, arith, length, get_or, length-append}
use Rattle.answers.specs.Refusals.{number_of}
use Rattle.answers.specs.declared.refusals.Refusal.{Refusal}
use lib.Seq.{sets}
use Rattle.program.specs.Instruction.{Instruction, push}
use Rattle.program.specs.Counts.{Counts}
use Rattle.program.specs.Image.{word_of}
use Rattle.semantics.specs.Positions.{past}
use Rattle.semantics.proofs.Positions.{past_append}
use Rattle.semantics.proofs.Costs.{weigh}
use Rattle.semantics.proofs.Sizes.{weigh_length}
use Rattle.semantics.specs.State.{Item, instr, State, fail}
use Rattle.semantics.specs.Pieces.{Lowered, emit, flush, put, nothing, failing}
use Rattle.code.specs.Segments as G
use Rattle.workspace.specs.Layout.{OPEN, FINISHED}
use Rattle.workspace.specs.declared.counts.Pools as N
use Rattle.workspace.specs.declared.counts.Listed.{Listed}
use Rattle.builder.specs.declared.OpenCode.{OpenCode}
use Rattle.builder.specs.Fields.{set_waiting}
use Rattle.builder.specs.Steps as W
use Rattle.lowering.specs.Held.{Held}
use Rattle.representation.proofs.Rows.{Rows, Apart, rows_agree, rows_snoc, sets_apart, sets_stored}
use Rattle.representation.proofs.Represents.{ItemAt, front_of, back_of, OpenCall, Abs, Fits, Table, Tables, Content, Moves, Does, run, on_state, finished_code}
use Rattle.representation.proofs.Keeps.{agree_above, item_local, finished_keep, code_changed}
use Rattle.representation.proofs.Laws.{ends, both, fails_move, waits}

-- only words of the open code have changed
module _ {tree ws vs : List ℕ} {n : N.Pools} {l : Listed} {s : OpenCode} {outer code : List Item} {wait : Bool} {os : List OpenCall} where
  pub open_changed : (A : Abs) → Fits A → {lo hi : ℕ} → Apart ws vs lo hi → hi ≤ FINISHED → {top base : ℕ} {outer' code' : List Item} → base ≡ length outer' → Table 2 (ItemAt vs) OPEN top (outer' ++ code')
      → Tables tree ws n l s outer code wait os A.state.pools → Tables tree vs n l (record s { top = top; base = base }) outer' code' wait os A.state.pools
  open_changed A f a b e t k =
      code_changed tree ws vs A f a (omega arith) k {segments = A.state.pools.segments} (record {
        open_base = e;
        open_code = t;
        the_finished_code = finished_keep ws vs s.finished (finished_code A.state.pools) (omega arith) (agree_above a b) k.code_held.the_finished_code;
        waiting_is = k.code_held.waiting_is;
      })

-- ---- an item more

abbrev pub add_item : Item → Abs → Abs
add_item x A = record { outer = A.outer; code = A.code ++ (x ∷ []); wait = A.wait; open_calls = A.open_calls; state = A.state }

-- less code fits as well
pub back_code : (A B : Abs) → A.state ≡ B.state → A.open_calls ≡ B.open_calls → length A.outer + length A.code ≤ length B.outer + length B.code → Fits B → Fits A
back_code A B e o l f = search rules

pub back_add : (x : Item) (A : Abs) → Fits (add_item x A) → Fits A
back_add x A f = back_code A (add_item x A) refl refl (omega (arith, length-append A.code (x ∷ []))) f

pub emits : {tree : List ℕ} {c : Counts} (x : Item) → Moves tree (add_item x) c c (W.emitted (front_of x) (back_of x))
unfolding W.emitted G.emitted G.emitted_top
emits {tree} {c} x = record {
  back = back_add x;
  keep = λ A h f k.
      let t = k.tables in
      let lc = length-append A.outer A.code in
      let l1 = length-append A.code (x ∷ []) in
      let room : h.0.code.top + 1 ≤ 2048 = omega arith in
      let at = h.0.code.top * 2 in
      let vs = sets h.1 at (front_of x ∷ back_of x ∷ []) in
      let a = sets_apart h.1 at (front_of x ∷ back_of x ∷ []) in
      let w = weigh_length 2 (A.outer ++ A.code) in
      let en = k.enough in
      let p0 : OPEN + weigh 2 (A.outer ++ A.code) ≡ at + 0 = omega arith in
      let p1 : OPEN + weigh 2 (A.outer ++ A.code) + 1 ≡ at + 1 = omega arith in
      let old : Rows 2 (ItemAt vs) OPEN (A.outer ++ A.code) = rows_agree 2 ItemAt item_local h.1 vs OPEN (A.outer ++ A.code) (λ j u v. a.below j (omega arith)) t.code_held.open_code.rows in
      let new : ItemAt vs (OPEN + weigh 2 (A.outer ++ A.code)) x = (ap (λ (j : ℕ). get_or vs j 0) p0 ∙ sets_stored h.1 at (front_of x ∷ back_of x ∷ []) 0 (omega arith) (omega arith), ap (λ (v : ℕ). v % 4294967296) (ap (λ (j : ℕ). get_or vs j 0) p1 ∙ sets_stored h.1 at (front_of x ∷ back_of x ∷ []) 1 (omega arith) (omega arith))) in
      let e = append_assoc A.outer A.code (x ∷ []) in
      let rows : Rows 2 (ItemAt vs) OPEN (A.outer ++ (A.code ++ (x ∷ []))) = subst (λ (l : List Item). Rows 2 (ItemAt vs) OPEN l) e (rows_snoc 2 (ItemAt vs) OPEN (A.outer ++ A.code) x old new) in
      let l2 = length-append A.outer (A.code ++ (x ∷ [])) in
      rw (le-leb (h.0.code.top + 1) 2048 room)
      (record {
        enough = omega (arith, a.same_length, en);
        beside = k.beside;
        tables = open_changed (add_item x A) f a (omega arith) t.code_held.open_base (record { count = omega arith; rows = rows }) t;
      });
}

-- ---- a Push that waits

unfoldable pub flushed_code : Bool → List Item → List Item
flushed_code true k = k ++ (instr push ∷ [])
flushed_code false k = k

abbrev pub flush_a : Abs → Abs
flush_a A = record { outer = A.outer; code = flushed_code A.wait A.code; wait = false; open_calls = A.open_calls; state = A.state }

length_flushed : (b : Bool) (k : List Item) → length k ≤ length (flushed_code b k)
unfolding flushed_code
length_flushed true k = omega (arith, length-append k (instr push ∷ []))
length_flushed false k = omega arith

pub back_flush : (A : Abs) → Fits (flush_a A) → Fits A
back_flush A f = back_code A (flush_a A) refl refl (omega (arith, length_flushed A.wait A.code)) f

-- the Push no longer waits
pub stopped : {tree : List ℕ} {c : Counts} (A : Abs) (h : Held) → Content tree c h A → Content tree c (set_waiting false h.0, h.1) (waits false A)
stopped A h k = search rules

flush_go : {tree : List ℕ} {c : Counts} (b : Bool) (A : Abs) (h : Held) → h.0.code.waiting ≡ b → Fits (record { outer = A.outer; code = flushed_code b A.code; wait = false; open_calls = A.open_calls; state = A.state }) → Content tree c h A
    → Content tree c (cond b (W.emitted 0x0d00_0000 0 (set_waiting false h.0, h.1)) h) (record { outer = A.outer; code = flushed_code b A.code; wait = false; open_calls = A.open_calls; state = A.state })
unfolding flushed_code word_of
flush_go {tree} {c} true A h e f k = (emits {tree = tree} {c = c} (instr push)).keep (waits false A) (set_waiting false h.0, h.1) f (stopped A h k)
flush_go false A h e f k = search rules

pub flushes : {tree : List ℕ} {c : Counts} → Moves tree flush_a c c W.flushed
unfolding W.flushed
flushes {tree} {c} = record {
  back = back_flush;
  keep = λ A h f k. let e = k.tables.code_held.waiting_is in subst (λ (w : Bool). Content tree c (cond w (W.emitted 0x0d00_0000 0 (set_waiting false h.0, h.1)) h) (flush_a A)) (sym e) (flush_go A.wait A h e f k);
}

abbrev pub at_a : (ℕ → State → Lowered) → Abs → Abs
at_a f B =
    let x = f (past B.code 0) B.state in
    record { outer = B.outer; code = B.code ++ x.code; wait = false; open_calls = B.open_calls; state = x.state }

flush_eq : (b : Bool) (o k : List Item) (os : List OpenCall) (s : State) (f : ℕ → State → Lowered) → ◌≡◌ {A = Abs} (record { outer = o; code = k ++ (flush f b (past k 0) s).code; wait = false; open_calls = os; state = (flush f b (past k 0) s).state }) (at_a f (record { outer = o; code = flushed_code b k; wait = false; open_calls = os; state = s }))
unfolding flush flushed_code
flush_eq false o k os s f = refl
flush_eq true o k os s f = rw (past_append k (instr push ∷ []) 0, append_assoc k (instr push ∷ []))

pub flush_is : (f : Counts → ℕ → State → Lowered) (c : Counts) (A : Abs) → run (λ k. flush (f k)) c A ≡ at_a (f c) (flush_a A)
flush_is f c A = flush_eq A.wait A.outer A.code A.open_calls A.state (f c)

module _ {tree : List ℕ} {c : Counts} where
  -- an item, behind a Push if one waits
  pub item_does : (x : Item) → Does tree (λ k. flush λ n s. emit (x ∷ []) s) c (λ h. W.emitted (front_of x) (back_of x) (W.flushed h))
  item_does x = ends _ (λ A. sym (flush_is (λ k n s. emit (x ∷ []) s) c A)) (both flushes (emits x))

  pub put_does : (i : Instruction) → Does tree (put i) c (W.put (front_of (instr i)) (back_of (instr i)))
  unfolding W.put
  put_does i = item_does (instr i)

  pub nothing_does : Does tree nothing c W.flushed
  nothing_does = ends _ (λ A. nil A ∙ sym (flush_is (λ k n s. emit [] s) c A)) flushes
    where
      nil : (A : Abs) → flush_a A ≡ at_a (λ n s. emit [] s) (flush_a A)
      nil A = rw append-nil

  pub failing_does : (why : Refusal) → Does tree (failing (number_of why)) c (W.failed why)
  unfolding W.failed
  failing_does why = ends _ (λ A. nil A ∙ sym (flush_is (λ k n s. emit [] (fail (number_of why) s)) c A)) (both flushes (fails_move why))
    where
      nil : (A : Abs) → on_state (fail (number_of why)) (flush_a A) ≡ at_a (λ n s. emit [] (fail (number_of why) s)) (flush_a A)
      nil A = rw append-nil
