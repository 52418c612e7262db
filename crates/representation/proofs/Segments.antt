-- Segments: closed, with their targets counted from the start of the finished code. Assumes nothing.
use Rattle.std.proofs.Common.{rules, ◌≡◌, refl, sym, ap, subst, ◌∙◌, Bool, false, List, [], ◌∷◌, ◌++◌, map, append_assoc, append-nil, ℕ, suc, ◌+◌, ◌*◌, ◌-◌, ◌/◌, ◌%◌, ◌≤◌, arith, length, get_or, length-append, le-leb}
use lib.ListN.{length-map}
use lib.Seq.{sets}
use Rattle.program.specs.Instruction as I
use Rattle.program.specs.Instruction.{Instruction}
use Rattle.program.specs.Counts.{Counts}
use Rattle.program.specs.Image.{word_of}
use Rattle.program.specs.Targets.{shift_of}
use Rattle.semantics.specs.Positions.{past}
use Rattle.semantics.proofs.Ranges.{shift}
use Rattle.semantics.proofs.Costs.{weigh}
use Rattle.semantics.proofs.Sizes.{weigh_length}
use Rattle.semantics.specs.State.{Item, instr, to_cleanup, to_check, State, set_pools, set_segments}
use Rattle.semantics.specs.Pieces.{aim}
use Rattle.semantics.specs.Lowering.{pasts}
use Rattle.semantics.specs.Link.{relocate, settle, place_segments}
use Rattle.code.specs.Segments as G
use Rattle.workspace.specs.Layout.{OPEN, FINISHED}
use Rattle.builder.specs.Segments as T
use Rattle.lowering.specs.Held.{Held}
use Rattle.representation.proofs.Rows.{Rows, Apart, rows_agree, rows_append, rows_left, rows_right, sets_apart, sets_stored}
use Rattle.representation.proofs.Represents.{ItemAt, InstructionAt, instruction_front, OpenCall, Fits, Content}
use Rattle.representation.proofs.Keeps.{item_local, instruction_local, code_changed}
use Rattle.representation.proofs.Targets.{mk}

-- ---- where segments are placed

pub place_snoc : (cs : List (List Item)) (y : List Item) (n : ℕ) → place_segments (cs ++ (y ∷ [])) n ≡ place_segments cs n ++ map (settle (pasts cs n) 0 0) y
unfolding place_segments
place_snoc [] y n = append-nil (map (settle n 0 0) y)
place_snoc (c ∷ cs) y n = ap (λ (l : List Instruction). map (settle n 0 0) c ++ l) (place_snoc cs y (past c n)) ∙ sym (append_assoc (map (settle n 0 0) c) (place_segments cs (past c n)) (map (settle (pasts cs (past c n)) 0 0) y))

pub past_is : (c : List Item) (n : ℕ) → past c n ≡ n + length c
past_is [] n = omega arith
past_is (x ∷ c) n = let h = past_is c (suc n) in omega arith

pub pasts_length : (cs : List (List Item)) (n : ℕ) → pasts cs n ≡ n + length (place_segments cs n)
unfolding place_segments
pasts_length [] n = omega arith
pasts_length (c ∷ cs) n =
    let h = pasts_length cs (past c n) in
    let p = past_is c n in
    let l = length-append (map (settle n 0 0) c) (place_segments cs (past c n)) in
    let m = length-map c (settle n 0 0) in
    omega arith

-- ---- an instruction's words where its target is moved

pub relocate_front : (b : ℕ) (i : Instruction) → instruction_front (relocate b i) ≡ instruction_front i
unfolding relocate word_of
relocate_front b (I.plain i) = refl
relocate_front b (I.taking i) = refl
relocate_front b (I.reading i) = refl
relocate_front b (I.guard (I.div_guard c) t) = refl
relocate_front b (I.each_next (I.each_next_var c) t) = refl
relocate_front b i = refl

pub relocate_back : (b : ℕ) (i : Instruction) → (word_of (relocate b i)).a ≡ (word_of i).a + shift_of (word_of i).opcode b
unfolding relocate word_of
relocate_back b (I.plain (I.const c)) = omega arith
relocate_back b (I.taking (I.add_last c)) = omega arith
relocate_back b (I.reading (I.load_var c d)) = omega arith
relocate_back b (I.guard (I.div_guard c) t) = let h = shift b t in omega arith
relocate_back b (I.guard g t) = let h = shift b t in omega arith
relocate_back b (I.each_next (I.each_next_var c) t) = let h = shift b t in omega arith
relocate_back b (I.each_next n t) = let h = shift b t in omega arith
relocate_back b (I.jump t) = let h = shift b t in omega arith
relocate_back b (I.handler_push t) = let h = shift b t in omega arith
relocate_back b (I.handler_pop t) = let h = shift b t in omega arith
relocate_back b (I.loop_begin t) = let h = shift b t in omega arith
relocate_back b (I.loop_check t) = let h = shift b t in omega arith
relocate_back b (I.each_begin t) = let h = shift b t in omega arith
relocate_back b i = omega arith

-- what an item settles to is its resolved instruction, relocated
abbrev pub instruction_of : Item → Instruction
instruction_of (instr i) = i
instruction_of to_cleanup = I.jump 0
instruction_of to_check = I.jump 0

pub aim_is : (x : Item) → aim 0 0 x ≡ instr (instruction_of x)
aim_is (instr i) = refl
aim_is to_cleanup = refl
aim_is to_check = refl

pub settle_is : (b : ℕ) (x : Item) → settle b 0 0 x ≡ relocate b (instruction_of x)
unfolding settle relocate
settle_is b (instr i) = refl
settle_is b to_cleanup = refl
settle_is b to_check = refl

-- ---- the words moved

module _ (by : ℕ) where
  move_one : (ws : List ℕ) (from to : ℕ) (x : Item) → ItemAt ws from (aim 0 0 x) → to + 2 ≤ length ws → InstructionAt (G.relocated_one ws from to by) to (settle by 0 0 x) × Apart ws (G.relocated_one ws from to by) to (to + 2)
  unfolding G.relocated_one
  move_one ws from to x h l =
      let i = instruction_of x in
      let g : ItemAt ws from (instr i) = subst (λ (y : Item). ItemAt ws from y) (aim_is x) h in
      let w = get_or ws from 0 in
      let v = get_or ws (from + 1) 0 in
      let u = (v + shift_of (w / 16777216) by) % 4294967296 in
      let a = sets_apart ws to (w ∷ u ∷ []) in
      let e0 : to ≡ to + 0 = omega arith in
      let g0 = g.0 in
      let g1 = g.1 in
      let eo : w / 16777216 ≡ (word_of i).opcode = omega (arith, g0) in
      let rb = relocate_back by i in
      let s1 : u ≡ (v + shift_of (word_of i).opcode by) % 4294967296 = ap (λ (o : ℕ). (v + shift_of o by) % 4294967296) eo in
      let first = ap (λ (j : ℕ). get_or (sets ws to (w ∷ u ∷ [])) j 0) e0 ∙ sets_stored ws to (w ∷ u ∷ []) 0 (omega arith) (omega arith) ∙ g0 ∙ sym (relocate_front by i) in
      let second0 = sets_stored ws to (w ∷ u ∷ []) 1 (omega arith) (omega arith) in
      let second : get_or (sets ws to (w ∷ u ∷ [])) (to + 1) 0 % 4294967296 ≡ (word_of (relocate by i)).a % 4294967296 = omega (arith, second0, s1, rb, g1) in (
        subst (λ (j : Instruction). InstructionAt (sets ws to (w ∷ u ∷ [])) to j) (sym (settle_is by x)) (first, second),
        record { same_length = a.same_length; below = a.below; above = λ j q. a.above j (omega arith) },
      )

  move_range : (y : List Item) (ws : List ℕ) (from to : ℕ) → from + 2 * length y ≤ to → to + 2 * length y ≤ length ws → Rows 2 (ItemAt ws) from (map (aim 0 0) y)
      → Rows 2 (InstructionAt (G.relocated_range ws from to (length y) by)) to (map (settle by 0 0) y) × Apart ws (G.relocated_range ws from to (length y) by) to (to + 2 * length y)
  unfolding G.relocated_range
  move_range [] ws from to b l h = (tt, record { same_length = refl; below = λ j u. refl; above = λ j u. refl })
  move_range (x ∷ y) ws from to b l h =
      let one = move_one ws from to x h.0 (omega arith) in
      let vs = G.relocated_one ws from to by in
      let a = one.1 in
      let w = weigh_length 2 (map (aim 0 0) y) in
      let m = length-map y (aim 0 0) in
      let rest : Rows 2 (ItemAt vs) (from + 2) (map (aim 0 0) y) = rows_agree 2 ItemAt item_local ws vs (from + 2) (map (aim 0 0) y) (λ j u z. a.below j (omega arith)) h.1 in
      let rec = move_range y vs (from + 2) (to + 2) (omega arith) (omega arith) rest in
      search rules

-- ---- a segment closed

abbrev pub closed_state : List Item → State → State
closed_state y s = set_pools (set_segments (s.pools.segments ++ (y ∷ [])) s.pools) s

-- the same code in all
pub close_back : (o k y : List Item) (w : Bool) (os : List OpenCall) (s : State) → Fits (mk o k w os (closed_state y s)) → Fits (mk (o ++ k) (map (aim 0 0) y) false os s)
close_back o k y w os s f =
    let l1 = length-append o k in
    let l2 = length-map y (aim 0 0) in
    let l3 = ap length (place_snoc s.pools.segments y 0) in
    let l4 = length-append (place_segments s.pools.segments 0) (map (settle (pasts s.pools.segments 0) 0 0) y) in
    let l5 = length-map y (settle (pasts s.pools.segments 0) 0 0) in
    search rules

module _ {tree : List ℕ} {c : Counts} where
  pub close_keep : (o k y : List Item) (w : Bool) (os : List OpenCall) (s : State) (base : ℕ) (h : Held) → base ≡ length o → Fits (mk o k w os (closed_state y s)) → Content tree c h (mk (o ++ k) (map (aim 0 0) y) false os s) → Content tree c (T.closed base w h) (mk o k w os (closed_state y s))
  unfolding T.closed G.moved G.moved_count
  close_keep o k y w os s base h eb f r =
      let A = mk (o ++ k) (map (aim 0 0) y) false os s in
      let f0 = close_back o k y w os s f in
      let t = r.tables in
      let en = r.enough in
      let segs = s.pools.segments in
      let F = place_segments segs 0 in
      let ln = length-append (o ++ k) (map (aim 0 0) y) in
      let l2 = length-map y (aim 0 0) in
      let pl = pasts_length segs 0 in
      let size : h.0.code.top - h.0.code.base ≡ length y = omega arith in
      let room : h.0.code.finished + length y ≤ 2048 = omega arith in
      let from = h.0.code.base * 2 in
      let to = 4096 + h.0.code.finished * 2 in
      let wo = weigh_length 2 (o ++ k) in
      let wf = weigh_length 2 F in
      let ef : OPEN + weigh 2 (o ++ k) ≡ from = omega arith in
      let et : FINISHED + weigh 2 F ≡ to = omega arith in
      let right = subst (λ (p : ℕ). Rows 2 (ItemAt h.1) p (map (aim 0 0) y)) ef (rows_right 2 (ItemAt h.1) OPEN (o ++ k) (map (aim 0 0) y) t.code_held.open_code.rows) in
      let left = rows_left 2 (ItemAt h.1) OPEN (o ++ k) (map (aim 0 0) y) t.code_held.open_code.rows in
      let g = move_range h.0.code.finished y h.1 from to (omega arith) (omega arith) right in
      let vs = G.relocated_range h.1 from to (length y) h.0.code.finished in
      let a = g.1 in
      let left' : Rows 2 (ItemAt vs) OPEN (o ++ k) = rows_agree 2 ItemAt item_local h.1 vs OPEN (o ++ k) (λ j u z. a.below j (omega arith)) left in
      let old : Rows 2 (InstructionAt vs) FINISHED F = rows_agree 2 InstructionAt instruction_local h.1 vs FINISHED F (λ j u z. a.below j (omega arith)) t.code_held.the_finished_code.rows in
      let es : h.0.code.finished ≡ pasts segs 0 = omega arith in
      let new : Rows 2 (InstructionAt vs) to (map (settle (pasts segs 0) 0 0) y) = subst (λ (b : ℕ). Rows 2 (InstructionAt vs) to (map (settle b 0 0) y)) es g.0 in
      let rows = rows_append 2 (InstructionAt vs) FINISHED F (map (settle (pasts segs 0) 0 0) y) old (subst (λ (p : ℕ). Rows 2 (InstructionAt vs) p (map (settle (pasts segs 0) 0 0) y)) (sym et) new) in
      let e = sym (place_snoc segs y 0) in
      let rows' = subst (λ (l : List Instruction). Rows 2 (InstructionAt vs) FINISHED l) e rows in
      let lf = ap length e in
      let l4 = length-append F (map (settle (pasts segs 0) 0 0) y) in
      let l5 = length-map y (settle (pasts segs 0) 0 0) in
      rw (size, le-leb (h.0.code.finished + length y) 2048 room)
      (record {
        enough = omega (arith, a.same_length, en);
        beside = r.beside;
        tables = code_changed tree h.1 vs A f0 a (omega arith) t {segments = segs ++ (y ∷ [])} (record { open_base = eb; open_code = record { count = omega arith; rows = left' }; the_finished_code = record { count = omega arith; rows = rows' }; waiting_is = refl });
      })
