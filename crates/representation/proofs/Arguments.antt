-- The arguments of a call, each a segment of its own, and the call that they fill. Assumes nothing.
use Rattle.std.proofs.Common.{rules, ◌≡◌, refl, ap, subst, Bool, false, List, [], ◌∷◌, ◌++◌, map, append_assoc, ℕ, zero, suc, ◌+◌, ◌≤◌, ◌<◌, arith, length, length-append}
use lib.ListN.{length-map}
use Rattle.ast.specs.Node.{next_at}
use Rattle.program.specs.Instruction.{end}
use Rattle.program.specs.Image.{word_of}
use Rattle.program.specs.Counts.{Counts}
use Rattle.semantics.specs.State.{Item, instr, State}
use Rattle.semantics.specs.Pieces.{Lowered, Lowering, aim, flush}
use Rattle.semantics.specs.Lowering.{Lowerings, arguments, pasts}
use Rattle.payload.specs.declared.NameRef.{NameRef}
use Rattle.payload.specs.Payloads.{named}
use Rattle.workspace.specs.Layout.{CALLS}
use Rattle.workspace.specs.Counts.{one_more}
use Rattle.builder.specs.Segments as T
use Rattle.lowering.specs.Held.{Held}
use Rattle.lowering.specs.Parts as L
use Rattle.lowering.specs.Parts.{Step}
use Rattle.builder.specs.Steps.{still}
use Rattle.lowering.specs.Rules as R
use Rattle.representation.proofs.Represents.{OpenCall, OpenCalls, reserved_by, Abs, Fits, Content, Does, run}
use Rattle.representation.proofs.Keeps.{call_within}
use Rattle.representation.proofs.Entries.{TextOf}
use Rattle.representation.proofs.OpenCode.{back_code}
use Rattle.representation.proofs.Targets.{mk, aim_at}
use Rattle.representation.proofs.Loops.{puts}
use Rattle.representation.proofs.Segments.{closed_state, close_back, close_keep, pasts_length}
use Rattle.representation.proofs.Calls.{grown, start_keep}

-- ---- children: what each lowering of a child is in words

module _ (tree : List ℕ) (E : ℕ → Bool → Step) (C : ℕ → NameRef → Bool → Step) (Z : ℕ → Bool → Step) where
  pub record Child (a : Lowerings) (q : ℕ) : Type 0 where
    pub expr_is : (l : Bool) (c : Counts) → Does tree (a.expr l) c (E q l)
    pub statement_is : (l : Bool) (c : Counts) → Does tree (a.statement l) c (R.statement tree E C Z q l)
    pub base_is : (last : NameRef) → TextOf tree last → (l : Bool) (c : Counts) → Does tree (a.base (named tree last) l) c (C q last l)

  -- m children from q on
  abbrev pub Children : List Lowerings → ℕ → ℕ → Type 0
  Children [] zero q = Unit {0}
  Children [] (suc m) q = ⊥
  Children (a ∷ xs) zero q = ⊥
  Children (a ∷ xs) (suc m) q = Child a q × Children xs m (next_at tree q)

  pub children_count : (xs : List Lowerings) (m q : ℕ) → Children xs m q → length xs ≡ m
  children_count [] zero q k = refl
  children_count (a ∷ xs) (suc m) q k = ap suc (children_count xs m (next_at tree q) k.1)
  children_count xs m q k = absurd k

-- ---- a segment opened

module _ {tree : List ℕ} {c : Counts} where
  opened_keep : (A : Abs) (h : Held) → Content tree c h A → Content tree c (still T.opened h) (mk (A.outer ++ A.code) [] false A.open_calls A.state)
  unfolding T.opened
  opened_keep A h r = search rules

-- ---- one argument

-- the lowering of a child, its End and the segment closed
abbrev pub segment_of : Lowering → Counts → State → Lowered
segment_of f c s = f c false 0 s

abbrev pub code_of : Lowering → Counts → State → List Item
code_of f c s = (segment_of f c s).code ++ (instr end ∷ [])

abbrev pub after_segment : Lowering → Counts → State → State
after_segment f c s = closed_state (code_of f c s) (segment_of f c s).state

abbrev pub start_of : Lowering → Counts → State → ℕ
start_of f c s = pasts (segment_of f c s).state.pools.segments 0

module _ (c : Counts) where
  segment_fits : (f : Lowering) (A : Abs) → Fits (mk A.outer A.code A.wait A.open_calls (after_segment f c A.state)) → Fits (mk (A.outer ++ A.code) (map (aim 0 0) (code_of f c A.state)) false A.open_calls (segment_of f c A.state).state)
  segment_fits f A q = close_back A.outer A.code (code_of f c A.state) A.wait A.open_calls (segment_of f c A.state).state q

  ended_fits : (f : Lowering) (A : Abs) → Fits (mk A.outer A.code A.wait A.open_calls (after_segment f c A.state)) → Fits (mk (A.outer ++ A.code) (code_of f c A.state) false A.open_calls (segment_of f c A.state).state)
  ended_fits f A q =
      let l = length-map (code_of f c A.state) (aim 0 0) in
      back_code (mk (A.outer ++ A.code) (code_of f c A.state) false A.open_calls (segment_of f c A.state).state) (mk (A.outer ++ A.code) (map (aim 0 0) (code_of f c A.state)) false A.open_calls (segment_of f c A.state).state) refl refl (omega arith) (segment_fits f A q)

  lowered_fits : (f : Lowering) (A : Abs) → Fits (mk A.outer A.code A.wait A.open_calls (after_segment f c A.state)) → Fits (run f c (mk (A.outer ++ A.code) [] false A.open_calls A.state))
  lowered_fits f A q =
      let l = length-append (segment_of f c A.state).code (instr end ∷ []) in
      back_code (run f c (mk (A.outer ++ A.code) [] false A.open_calls A.state)) (mk (A.outer ++ A.code) (code_of f c A.state) false A.open_calls (segment_of f c A.state).state) refl refl (omega arith) (ended_fits f A q)

module _ {tree : List ℕ} {c : Counts} where
  pub segment_back : {f : Lowering} {F : Step} → Does tree f c F → (A : Abs) → Fits (mk A.outer A.code A.wait A.open_calls (after_segment f c A.state)) → Fits A
  segment_back {f} d A q =
      let g = d.back (mk (A.outer ++ A.code) [] false A.open_calls A.state) (lowered_fits c f A q) in
      let l = length-append A.outer A.code in
      back_code A (mk (A.outer ++ A.code) [] false A.open_calls A.state) refl refl (omega arith) g

-- the first place of an open call's next start lies in the region
slot_small : {tree : List ℕ} {c : Counts} {h : Held} {A : Abs} (o : OpenCall) (os : List OpenCall) → A.open_calls ≡ o ∷ os → length o.starts < o.reserved → Fits A → Content tree c h A → o.first + length o.starts < 384
slot_small {h = h} {A = A} o os eo lt f r =
    let t = r.tables in
    let is = A.state.pools.calls in
    let op : OpenCalls h.1 is h.0.listed.calls (o ∷ os) = subst (λ (l : List OpenCall). OpenCalls h.1 is h.0.listed.calls l) eo t.calls_held.the_open in
    let wi = call_within h.1 h.0.listed.arguments CALLS 0 is o.number (omega arith) t.calls_held.the_calls in
    omega arith

module _ {tree : List ℕ} {c : Counts} where
  pub argument_keep : {f : Lowering} {F : Step} → Does tree f c F → (A : Abs) (o : OpenCall) (os : List OpenCall) (slot base : ℕ) (h : Held) → A.open_calls ≡ o ∷ os → slot ≡ o.first + length o.starts → length o.starts < o.reserved → base ≡ length A.outer
      → Fits (mk A.outer A.code A.wait A.open_calls (after_segment f c A.state)) → Content tree c h A
      → Content tree c (L.argument_closed base A.wait slot (F (still T.opened h))) (mk A.outer A.code A.wait (grown (start_of f c A.state) o ∷ os) (after_segment f c A.state))
  unfolding L.argument_closed flush word_of
  argument_keep {f} {F} d A o os slot base h eo es lt eb q r =
      let B = mk (A.outer ++ A.code) [] false A.open_calls A.state in
      let x = segment_of f c A.state in
      let r1 = opened_keep A h r in
      let q2 = lowered_fits c f A q in
      let g1 = F (still T.opened h) in
      let r2 = d.keep B (still T.opened h) q2 r1 in
      let q3 = ended_fits c f A q in
      let g2 = L.instr 48 0 0 0 g1 in
      let r3 = puts end refl (A.outer ++ A.code) x.code A.open_calls x.state g1 q3 r2 in
      let g3 : Held = (g2.0, T.breaks_resolved g2.0 0 0 0 g2.1) in
      let r4 = aim_at (A.outer ++ A.code) [] (code_of f c A.state) false A.open_calls x.state g2 0 0 0 refl q3 r3 in
      let r5 = close_keep A.outer A.code (code_of f c A.state) A.wait A.open_calls x.state base g3 eb q r4 in
      let v = g2.0.code.finished in
      let pl = pasts_length x.state.pools.segments 0 in
      let ev : v ≡ start_of f c A.state = omega arith in
      let A5 = mk A.outer A.code A.wait A.open_calls (after_segment f c A.state) in
      let r6 = start_keep A5 o os slot v (T.closed base A.wait g3) eo es lt q r5 in
      subst (λ (n : ℕ). Content tree c (L.argument_closed base A.wait slot g1) (mk A.outer A.code A.wait (grown n o ∷ os) (after_segment f c A.state))) ev r6

-- ---- all arguments

abbrev pub grown_by : List ℕ → OpenCall → OpenCall
grown_by l o = record { number = o.number; first = o.first; reserved = o.reserved; starts = o.starts ++ l }

module _ (tree : List ℕ) (E : ℕ → Bool → Step) (C : ℕ → NameRef → Bool → Step) (Z : ℕ → Bool → Step) (c : Counts) where
  pub arguments_back : (xs : List Lowerings) (m q : ℕ) → Children tree E C Z xs m q → (A : Abs) (os : List OpenCall) → reserved_by os ≡ reserved_by A.open_calls → Fits (mk A.outer A.code A.wait os (arguments xs c A.state).state) → Fits A
  unfolding arguments
  arguments_back [] zero q k A os e f = search rules
  arguments_back (a ∷ xs) (suc m) q k A os e f = segment_back (k.0.expr_is false c) A (arguments_back xs m (next_at tree q) k.1 (mk A.outer A.code A.wait A.open_calls (after_segment (a.expr false) c A.state)) os e f)
  arguments_back xs m q k A os e f = absurd k

  pub arguments_keep : (xs : List Lowerings) (m q : ℕ) → Children tree E C Z xs m q → (A : Abs) (o : OpenCall) (os : List OpenCall) (slot base : ℕ) (h : Held) → A.open_calls ≡ o ∷ os → slot ≡ o.first + length o.starts → length o.starts + length xs ≤ o.reserved → base ≡ length A.outer
      → Fits (mk A.outer A.code A.wait A.open_calls (arguments xs c A.state).state) → Content tree c h A
      → Content tree c (R.arguments tree E C Z base A.wait m q slot h) (mk A.outer A.code A.wait (grown_by (arguments xs c A.state).offsets o ∷ os) (arguments xs c A.state).state)
  unfolding arguments R.arguments
  arguments_keep [] zero q k A o os slot base h eo es lt eb f r = search rules
  arguments_keep (a ∷ xs) (suc m) q k A o os slot base h eo es lt eb f r =
      let d = k.0.expr_is false c in
      let s1 = after_segment (a.expr false) c A.state in
      let v = start_of (a.expr false) c A.state in
      let A1 = mk A.outer A.code A.wait A.open_calls s1 in
      let f1 : Fits A1 = arguments_back xs m (next_at tree q) k.1 A1 A.open_calls refl f in
      let f0 : Fits A = segment_back d A f1 in
      let sm = slot_small {h = h} {A = A} o os eo (omega arith) f0 r in
      let ea : one_more slot ≡ o.first + length (grown v o).starts = let l = length-append o.starts (v ∷ []) in omega (arith, es, sm, l) in
      let g = L.argument_closed base A.wait slot (E q false (still T.opened h)) in
      let r1 = argument_keep d A o os slot base h eo es (omega arith) eb f1 r in
      let A2 = mk A.outer A.code A.wait (grown v o ∷ os) s1 in
      let f2 : Fits (mk A.outer A.code A.wait (grown v o ∷ os) (arguments xs c s1).state) = let e = ap reserved_by eo in search rules in
      let r2 = arguments_keep xs m (next_at tree q) k.1 A2 (grown v o) os (one_more slot) base g refl ea (omega arith) eb f2 r1 in
      subst (λ (y : List ℕ). Content tree c (R.arguments tree E C Z base A.wait m (next_at tree q) (one_more slot) g) (mk A.outer A.code A.wait (record { number = o.number; first = o.first; reserved = o.reserved; starts = y } ∷ os) (arguments xs c s1).state)) (append_assoc o.starts (v ∷ []) (arguments xs c s1).offsets) r2
  arguments_keep xs m q k A o os slot base h eo es lt eb f r = absurd k
