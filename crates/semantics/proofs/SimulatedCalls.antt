use mathlib.Core.Path.{◌≡◌, refl, ap, sym, ◌∙◌, subst}
use mathlib.Core.Bool.{Bool, true, false}
use mathlib.Core.List.{List, [], ◌∷◌, ◌++◌, map, append_assoc}
use mathlib.Core.Option.{Option, none}
use Prim.Native.Nat.{ℕ, suc}
use lib.ListN.{length, get_or, length-map}
use Rattle.ast.specs.Tree.{Name}
use Rattle.numeric.specs.Post.{Post, is_identity}
use Rattle.program.specs.Instruction.{Instruction, end, call}
use Rattle.program.specs.Counts.{Counts}
use Rattle.program.specs.Program.{Program, code_at, post_at, call_at, start_at}
use Rattle.semantics.proofs.Bounds.{Less}
use Rattle.semantics.proofs.Positions.{Holds, past_length, whole_list}
use Rattle.semantics.proofs.Relations.{Zip, znil, zcons, zip_length}
use Rattle.semantics.proofs.Simulation.{has_handler, Place, at}
use Rattle.semantics.specs.Link.{relocate, settle}
use Rattle.semantics.specs.Lowering.{query, Lowerings, pasts, Arguments, close_segment, fill, called}
use Rattle.semantics.specs.Machine.{enter, leave, execute}
use Rattle.semantics.specs.Pieces.{Lowered, Lowering, flush, put, post_if, with_post}
use Rattle.semantics.specs.Positions.{◌⊕◌, past}
use Rattle.semantics.specs.Run.{e_call, Run, set_counts, note, note_argument, Result}
use Rattle.semantics.specs.State.{Item, instr, CallInfo, set_calls, State, set_pools}
use Rattle.semantics.specs.Walk.{Completion, normal, missing, broke, again, returned, halted, out, Walking, Scope, inside, Walkings, segment, shown}
use Rattle.semantics.specs.Walk as K
use Rattle.semantics.specs.Lowering as L
use Rattle.semantics.proofs.Simulation as Z
use Rattle.semantics.proofs.SimulatedControl as Y

-- Calls and their argument segments: the step machine agrees with the walk. Assumes nothing.

module _ (P : Program) (E : ℕ) (r : Result) where
  infixr 40 ◌⟫◌
  ◌⟫◌ : {s t u : State} → Z.Step P E r s t → Z.Step P E r t u → Z.Step P E r s u
  ◌⟫◌ a b = Z.◌⟫◌ P E r a b

  -- a whole tree
  pub record Tree-s (l : Lowerings) (m : Walkings) : Type 0 where
    pub expr : (e : Scope) → Z.Sim P E r e (l.expr e.loop) (m.expr e)
    pub statement : (e : Scope) → Z.Sim P E r e (l.statement e.loop) (m.statement e)
    pub base : (n : Name) (e : Scope) → Z.Sim P E r e (l.base n e.loop) (m.base e)
    pub less : (e : Scope) → Less (m.expr e)

  -- the arguments of a call
  pub segs_left : (o : ℕ) (cs : List (List Item)) (c : List Item) → Z.SegsOk P E r o (cs ++ (c ∷ [])) → Z.SegsOk P E r o cs
  segs_left o [] c h = tt
  segs_left o (d ∷ cs) c h = (h.0, segs_left (past d o) cs c h.1)

  pub segs_last : (o : ℕ) (cs : List (List Item)) (c : List Item) → Z.SegsOk P E r o (cs ++ (c ∷ [])) → Z.Has P E r (at (E ⊕ pasts cs o)) 0 c
  segs_last o [] c h = h.0
  segs_last o (d ∷ cs) c h = segs_last (past d o) cs c h.1

  pub known_seg : (x : Lowered) → Z.Step P E r x.state (close_segment x)
  known_seg o = Z.to P E r o.state (close_segment o) (λ x. record { clean = x.clean; slot0 = x.slot0; hconsts = x.hconsts; hposts = x.hposts; hhashes = x.hhashes; hnames = x.hnames; htemps = x.htemps; hmembers = x.hmembers; hstores = x.hstores; hcalls = x.hcalls; hsegs = segs_left 0 o.state.pools.segments _ x.hsegs }) refl

  pub args_grow : {ls : List Lowerings} {ms : List Walkings} → Zip Tree-s ls ms → (c : Counts) (s : State) → Z.Step P E r s (L.arguments ls c s).state
  unfolding L.arguments
  args_grow znil c s = Z.stay P E r s
  args_grow (zcons {a = l} a h) c s = (a.expr inside).grow c false 0 s ⟫ known_seg (l.expr false c false 0 s) ⟫ args_grow h c _

  abbrev pub calling : ℕ → ℕ → ℕ → ℕ → ℕ → Counts → Place → Place
  calling b n k m j c κ = record { base = b; check_at = 0; cleanup_at = 0; control = []; frames = record { back = κ.base ⊕ n; callee = k; todo = m; number = suc j; counts = c; control = κ.control } ∷ κ.frames }

  pub segment_after : (e : Scope) (κ : Place) (b n k m j i : ℕ) (c : Counts) (v : Walking) → code_at P (b ⊕ i) ≡ end
      → ((w : Run) → Z.After P E r e κ n (v w) → Z.Ends P E r (enter P k m (suc j) (κ.base ⊕ n) w κ.control κ.frames))
      → (x : Completion) → Z.After P E r e κ n (segment c v x) → Z.After P E r inside (calling b n k m j c κ) i x
  unfolding segment leave execute
  segment_after e κ b n k m j i c v at_end h (normal w) q = Z.ends_at P E r (b ⊕ i) at_end (h (set_counts c w) q)
  segment_after e κ b n k m j i c v at_end h (returned w) q = h (set_counts c w) q
  segment_after e κ b n k m j i c v at_end h (halted w) q = h (set_counts c w) q
  segment_after e κ b n k m j i c v at_end h (out w) q = q
  segment_after e κ b n k m j i c v at_end h _ q = tt

  pub args_ends : (k j : ℕ) {ls : List Lowerings} {ms : List Walkings} → Zip Tree-s ls ms → (c : Counts) (s : State) → Z.Ext P E r (L.arguments ls c s).state → Holds (start_at P k) j (map (E ⊕◌) (L.arguments ls c s).offsets)
      → (e : Scope) (κ : Place) (n : ℕ) → Z.Fits P E r e κ → (w : Run) → Z.After P E r e κ n (K.arguments j ms (K.perhaps e) w) → Z.Ends P E r (enter P k (length ls) j (κ.base ⊕ n) w κ.control κ.frames)
  unfolding L.arguments K.arguments enter settle relocate has_handler
  args_ends k j znil c s x y e κ n z w q = Y.perhaps_ends P E r e κ n z w q
  args_ends k j (zcons {a = l} {b = m} {ps = ls} {qs = ms} a h) c s x y e κ n z w q =
      let o = l.expr false c false 0 s in
      let x' = (args_grow h c (close_segment o)).back x in
      let b = E ⊕ pasts o.state.pools.segments 0 in
      let κ' = calling b n k (length ls) j w.counts κ in
      let y' = segs_last 0 o.state.pools.segments (o.code ++ (instr end ∷ [])) x'.hsegs in
      rw y.0 ((a.expr inside).sim c false 0 s ((known_seg o).back x') κ' (Z.has_left P E r κ' 0 o.code (instr end ∷ []) y') refl (note_argument j w)
      (segment_after e κ b n k (length ls) j (past o.code 0) w.counts (K.arguments (suc j) ms (K.perhaps e)) (Z.has_right P E r κ' 0 o.code (instr end ∷ []) y').0
      (args_ends k (suc j) h c (close_segment o) x y.1 e κ n z) (m.expr inside (note_argument j w)) q))

  pub starts_hold : (k : ℕ) (o : List ℕ) → (call_at P k).starts ≡ map (E ⊕◌) o → Holds (start_at P k) 0 (map (E ⊕◌) o)
  unfolding start_at
  starts_hold k o h = subst (λ (l : List ℕ). Holds (λ j. get_or l j 0) 0 (map (E ⊕◌) o)) (sym h) (whole_list 0 (map (E ⊕◌) o))

  pub args_length : (ls : List Lowerings) (c : Counts) (s : State) → length (L.arguments ls c s).offsets ≡ length ls
  unfolding L.arguments
  args_length [] c s = refl
  args_length (l ∷ ls) c s = ap suc (args_length ls c _)

  pub call_s : {e : Scope} (k q : ℕ) {v i : ℕ} {ls : List Lowerings} {ms : List Walkings} → Zip Tree-s ls ms → (c : Counts) (s : State) → Z.Ext P E r (L.arguments ls c s).state
      → Z.CallOk P E r k (record { index = v; impl = i; offsets = Option.some (L.arguments ls c s).offsets })
      → Z.Sim P E r e (put (call k q)) (λ w. K.arguments 0 ms (K.perhaps e) (note (e_call v i (length ms) (post_at P q)) w))
  unfolding settle relocate execute
  call_s {e} k q {ls = ls} h c s x j =
      let many : length (call_at P k).starts ≡ length ls = ap length j.starts ∙ length-map (L.arguments ls c s).offsets (E ⊕◌) ∙ args_length ls c s in
      Z.flushed P E r (record {
        grow = λ c n s. Z.stay P E r s;
        sim = λ c' n s' x' κ y z w t. Z.ends_at P E r (κ.base ⊕ n) y.0 (rw (j.index, j.impl, many) (args_ends k 0 h c s x (starts_hold k (L.arguments ls c s).offsets j.starts) e κ (suc n) z _ (rw (← zip_length h) at t)));
      })

  pub put_grow : (i : Instruction) → Z.Grow P E r (put i)
  unfolding flush
  put_grow i c true n s = Z.stay P E r s
  put_grow i c false n s = Z.stay P E r s

  pub post_grow : (x : Bool) (v : Post) (g : ℕ → Lowering) → ((k : ℕ) → Z.Grow P E r (g k)) → Z.Grow P E r (post_if x v g)
  unfolding post_if
  post_grow true v g h c b n s = h 0 c b n s
  post_grow false v g h c b n s = Z.known_post P E r v s ⟫ h _ c b n _

  -- a call's entry is filled in behind what was there
  pub fill_at : (is : List CallInfo) (i : CallInfo) (js : List CallInfo) (o : List ℕ) → fill (length is) o (is ++ (i ∷ js)) ≡ is ++ (record { index = i.index; impl = i.impl; offsets = Option.some o } ∷ js)
  unfolding fill
  fill_at [] i js o = refl
  fill_at (x ∷ is) i js o = ap (x ∷◌) (fill_at is i js o)

  pub calls_at : (n : ℕ) (is : List CallInfo) (i : CallInfo) (js : List CallInfo) → Z.CallsOk P E r n (is ++ (i ∷ js)) → Z.CallOk P E r (past is n) i
  calls_at n [] i js h = h.0
  calls_at n (x ∷ is) i js h = calls_at (suc n) is i js h.1

  pub calls_unfilled : (n : ℕ) (is : List CallInfo) (i : CallInfo) (js : List CallInfo) → i.offsets ≡ none → (o : List ℕ) → Z.CallsOk P E r n (is ++ (record { index = i.index; impl = i.impl; offsets = Option.some o } ∷ js)) → Z.CallsOk P E r n (is ++ (i ∷ js))
  calls_unfilled n [] i js e o h = (record { index = h.0.index; impl = h.0.impl; starts = rw e tt }, h.1)
  calls_unfilled n (x ∷ is) i js e o h = (h.0, calls_unfilled (suc n) is i js e o h.1)

  pub calls_left : (n : ℕ) (is js : List CallInfo) → Z.CallsOk P E r n (is ++ js) → Z.CallsOk P E r n is
  calls_left n [] js h = tt
  calls_left n (x ∷ is) js h = (h.0, calls_left (suc n) is js h.1)

  module _ {ls : List Lowerings} {ms : List Walkings} (h : Zip Tree-s ls ms) (v i : ℕ) (c : Counts) (s : State) where
    abbrev info : Option (List ℕ) → CallInfo
    info o = record { index = v; impl = i; offsets = o }

    abbrev begun : State
    begun = set_pools (set_calls (s.pools.calls ++ (info none ∷ [])) s.pools) s

    abbrev told : Arguments
    told = L.arguments ls c begun

    kept_call : told.state.pools.calls ≡ s.pools.calls ++ (info none ∷ (args_grow h c begun).more)
    kept_call = (args_grow h c begun).kept ∙ append_assoc s.pools.calls (info none ∷ []) (args_grow h c begun).more

    filled_call : (called v i ls c s).pools.calls ≡ s.pools.calls ++ (info (Option.some told.offsets) ∷ (args_grow h c begun).more)
    filled_call = ap (fill (length s.pools.calls) told.offsets) kept_call ∙ fill_at s.pools.calls (info none) (args_grow h c begun).more told.offsets

    args_known : Z.Ext P E r (called v i ls c s) → Z.Ext P E r told.state
    args_known x = record { clean = x.clean; slot0 = x.slot0; hconsts = x.hconsts; hposts = x.hposts; hhashes = x.hhashes; hnames = x.hnames; htemps = x.htemps; hmembers = x.hmembers; hstores = x.hstores; hcalls = rw kept_call (calls_unfilled 0 s.pools.calls (info none) (args_grow h c begun).more refl told.offsets (rw filled_call at x.hcalls)); hsegs = x.hsegs }

    call_known : Z.Ext P E r (called v i ls c s) → Z.CallOk P E r (length s.pools.calls) (info (Option.some told.offsets))
    call_known x = rw (past_length s.pools.calls) at (calls_at 0 s.pools.calls (info (Option.some told.offsets)) (args_grow h c begun).more (rw filled_call at x.hcalls))

    called_grow : Z.Step P E r s (called v i ls c s)
    called_grow = record {
      back = λ y. let x = (args_grow h c begun).back (args_known y) in record { clean = x.clean; slot0 = x.slot0; hconsts = x.hconsts; hposts = x.hposts; hhashes = x.hhashes; hnames = x.hnames; htemps = x.htemps; hmembers = x.hmembers; hstores = x.hstores; hcalls = calls_left 0 s.pools.calls (info none ∷ []) x.hcalls; hsegs = x.hsegs };
      more = info (Option.some told.offsets) ∷ (args_grow h c begun).more;
      kept = filled_call;
    }

  pub query_s : {e : Scope} (v i : ℕ) (p : Post) {ls : List Lowerings} {ms : List Walkings} → Zip Tree-s ls ms → Z.Sim P E r e (query v i p ls) (λ w. K.arguments 0 ms (K.perhaps e) (note (e_call v i (length ms) (shown p)) w))
  query_s {e} v i p {ls} {ms} h = record {
    grow = λ c b n s. called_grow h v i c s ⟫ grown c b n s;
    sim = λ c b n s x κ y z w t.
        let x' = (grown c b n s).back x in
        (Z.with_post_s P E r p (λ q. put (call (length s.pools.calls) q)) (λ q w. K.arguments 0 ms (K.perhaps e) (note (e_call v i (length ms) q) w))
        (λ q. call_s (length s.pools.calls) q h c (begun h v i c s) (args_known h v i c s x') (call_known h v i c s x'))).sim c b n (called v i ls c s) x κ y z w t;
  }
    where
      grown : (c : Counts) (b : Bool) (n : ℕ) (s : State) → Z.Step P E r (called v i ls c s) (with_post p (λ q. put (call (length s.pools.calls) q)) c b n (called v i ls c s)).state
      grown c b n s = post_grow (is_identity p) p _ (λ k. put_grow (call (length s.pools.calls) k)) c b n (called v i ls c s)
