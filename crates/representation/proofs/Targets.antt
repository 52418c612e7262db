-- Instructions whose target comes later: set when it is known, Breaks and Continues resolved by their loop. Assumes nothing.
use Rattle.std.proofs.Common.{min, le-leb, rules, ◌≡◌, refl, sym, ap, subst, ◌∙◌, Bool, List, [], ◌∷◌, ◌++◌, map, append_assoc, ℕ, suc, ◌+◌, ◌*◌, ◌-◌, ◌≤◌, ◌<◌, ◌%◌, arith, length, get_or, set, length-append, get_or-set_same, eq-eqb, ne_eqb}
use lib.ListN.{length-map}
use lib.Seq.{sets}
use Rattle.program.specs.Instruction as I
use Rattle.program.specs.Instruction.{Instruction}
use Rattle.program.specs.Counts.{Counts}
use Rattle.program.specs.Image.{word_of, Word, word}
use Rattle.semantics.specs.Positions.{past}
use Rattle.semantics.proofs.Positions.{past_length}
use Rattle.semantics.proofs.Costs.{weigh}
use Rattle.semantics.proofs.Sizes.{weigh_length}
use Rattle.semantics.specs.State.{Item, instr, to_cleanup, to_check, State}
use Rattle.semantics.specs.Pieces.{aim}
use Rattle.code.specs.Segments as G
use Rattle.workspace.specs.Layout.{OPEN}
use Rattle.builder.specs.Segments as T
use Rattle.builder.specs.Steps as W
use Rattle.lowering.specs.Held.{Held}
use Rattle.lowering.specs.Parts as L
use Rattle.lowering.specs.Parts.{Step, front}
use Rattle.representation.proofs.Rows.{Rows, Apart, rows_agree, rows_append, rows_left, rows_right}
use Rattle.representation.proofs.Represents.{ItemAt, front_of, back_of, OpenCall, Abs, Fits, Content, Moves}
use Rattle.representation.proofs.Keeps.{item_local}
use Rattle.representation.proofs.OpenCode.{open_changed, add_item, back_add, emits, flushed_code, flush_a, back_flush, flushes}
use Rattle.representation.proofs.Laws.{both}

-- no instruction is taken for a Break or a Continue: 48 opcodes
pub opcode_small : (i : Instruction) → (word_of i).opcode ≤ 48
unfolding word_of
opcode_small (I.plain (I.const c)) = omega arith
opcode_small (I.taking (I.add_last c)) = omega arith
opcode_small (I.reading (I.load_var c d)) = omega arith
opcode_small (I.guard (I.div_guard c) t) = omega arith
opcode_small (I.each_next (I.each_next_var c) t) = omega arith
opcode_small i = omega arith

pub front_small : (i : Instruction) → front_of (instr i) < 0x3100_0000
front_small i = let h = opcode_small i in omega arith

abbrev pub mk : List Item → List Item → Bool → List OpenCall → State → Abs
mk o k w os s = record { outer = o; code = k; wait = w; open_calls = os; state = s }

-- where the next instruction goes
pub placed : {tree : List ℕ} {c : Counts} {h : Held} {A : Abs} → Content tree c h A → L.place h.0 ≡ past A.code 0
placed {A = A} k = let t = k.tables in omega (arith, t.code_held.open_base, t.code_held.open_code.count, length-append A.outer A.code, past_length A.code)

-- ---- a target set

set_apart : (ws : List ℕ) (i v : ℕ) → Apart ws (set ws i v) i (i + 1)
set_apart ws i v = search rules

module _ {tree : List ℕ} {c : Counts} where
  pub land_at : (o k l : List Item) (y x : Item) (w : Bool) (os : List OpenCall) (s : State) (h : Held) → front_of x ≡ front_of y → back_of x ≡ past (k ++ (y ∷ l)) 0
      → Fits (mk o (k ++ (y ∷ l)) w os s) → Content tree c h (mk o (k ++ (y ∷ l)) w os s) → Content tree c (L.place_target (past k 0) h) (mk o (k ++ (x ∷ l)) w os s)
  unfolding L.place_target T.targeted G.targeted
  land_at o k l y x w os s h ef eb f r =
      let t = r.tables in
      let A = mk o (k ++ (y ∷ l)) w os s in
      let ob = t.code_held.open_base in
      let l1 = length-append o (k ++ (y ∷ l)) in
      let l2 = length-append k (y ∷ l) in
      let l3 = length-append o k in
      let l4 = length-append o (k ++ (x ∷ l)) in
      let l5 = length-append k (x ∷ l) in
      let pk = past_length k in
      let en = r.enough in
      let i = (h.0.code.base + past k 0) * 2 + 1 in
      let v = L.place h.0 in
      let pv : v ≡ back_of x = placed r ∙ sym eb in
      let vs = set h.1 i v in
      let a = set_apart h.1 i v in
      let wo = weigh_length 2 (o ++ k) in
      let p = OPEN + weigh 2 (o ++ k) in
      let ei : p + 1 ≡ i = omega arith in
      let small : i < length h.1 = omega arith in
      let rows0 : Rows 2 (ItemAt h.1) OPEN ((o ++ k) ++ (y ∷ l)) = subst (λ (q : List Item). Rows 2 (ItemAt h.1) OPEN q) (sym (append_assoc o k (y ∷ l))) t.code_held.open_code.rows in
      let left = rows_left 2 (ItemAt h.1) OPEN (o ++ k) (y ∷ l) rows0 in
      let right = rows_right 2 (ItemAt h.1) OPEN (o ++ k) (y ∷ l) rows0 in
      let left' : Rows 2 (ItemAt vs) OPEN (o ++ k) = rows_agree 2 ItemAt item_local h.1 vs OPEN (o ++ k) (λ j u z. a.below j (omega arith)) left in
      let new : ItemAt vs p x = (a.below p (omega arith) ∙ right.0.0 ∙ sym ef, ap (λ (z : ℕ). z % 4294967296) (ap (λ (j : ℕ). get_or vs j 0) ei ∙ get_or-set_same h.1 i v 0 small ∙ pv)) in
      let rest : Rows 2 (ItemAt vs) (p + 2) l = rows_agree 2 ItemAt item_local h.1 vs (p + 2) l (λ j u z. a.above j (omega arith)) right.1 in
      let rows = subst (λ (q : List Item). Rows 2 (ItemAt vs) OPEN q) (append_assoc o k (x ∷ l)) (rows_append 2 (ItemAt vs) OPEN (o ++ k) (x ∷ l) left' (new, rest)) in
      let m : min (h.0.code.base + past k 0) 65535 ≡ h.0.code.base + past k 0 = omega arith in
      rw (m, le-leb (h.0.code.base + past k 0 + 1) 2048 (omega arith))
      (record {
        enough = omega (arith, a.same_length, en);
        beside = r.beside;
        tables = open_changed A f a (omega arith) ob (record { count = omega arith; rows = rows }) t;
      })

-- ---- Breaks and Continues resolved

stored : (ws : List ℕ) (at p t u : ℕ) → p ≡ at * 2 → p + 2 ≤ length ws → ((get_or (sets ws (at * 2) (t ∷ u ∷ [])) p 0 ≡ t) × (get_or (sets ws (at * 2) (t ∷ u ∷ [])) (p + 1) 0 % 4294967296 ≡ u % 4294967296)) × Apart ws (sets ws (at * 2) (t ∷ u ∷ [])) p (p + 2)
stored ws at p t u e l = search rules

module _ (check cleanup : ℕ) where
  aim_one : (ws : List ℕ) (at p : ℕ) (x : Item) → p ≡ at * 2 → p + 2 ≤ length ws → ItemAt ws p x → ItemAt (G.break_resolved ws at check cleanup) p (aim check cleanup x) × Apart ws (G.break_resolved ws at check cleanup) p (p + 2)
  unfolding G.break_resolved word_of
  aim_one ws at p (instr i) e l h =
      let s = front_small i in
      let g : get_or ws (at * 2) 0 ≡ front_of (instr i) = ap (λ (j : ℕ). get_or ws j 0) (sym e) ∙ h.0 in
      rw (ne_eqb (get_or ws (at * 2) 0) G.BREAK (λ q. omega (arith, s, g, q)), ne_eqb (get_or ws (at * 2) 0) G.CONTINUE (λ q. omega (arith, s, g, q)))
      (h, record { same_length = refl; below = λ j u. refl; above = λ j u. refl })
  aim_one ws at p to_cleanup e l h =
      let g : get_or ws (at * 2) 0 ≡ G.BREAK = ap (λ (j : ℕ). get_or ws j 0) (sym e) ∙ h.0 in
      search rules
  aim_one ws at p to_check e l h =
      let g : get_or ws (at * 2) 0 ≡ G.CONTINUE = ap (λ (j : ℕ). get_or ws j 0) (sym e) ∙ h.0 in
      rw (ne_eqb (get_or ws (at * 2) 0) G.BREAK (λ q. omega (arith, g, q)), eq-eqb (get_or ws (at * 2) 0) G.CONTINUE g)
      (stored ws at p G.JUMP check e l)

  aim_range : (l : List Item) (ws : List ℕ) (at : ℕ) → at * 2 + 2 * length l ≤ length ws → Rows 2 (ItemAt ws) (at * 2) l
      → Rows 2 (ItemAt (G.range_resolved ws at (length l) check cleanup)) (at * 2) (map (aim check cleanup) l) × Apart ws (G.range_resolved ws at (length l) check cleanup) (at * 2) (at * 2 + 2 * length l)
  unfolding G.range_resolved
  aim_range [] ws at b h = (tt, record { same_length = refl; below = λ j u. refl; above = λ j u. refl })
  aim_range (x ∷ l) ws at b h =
      let one = aim_one ws at (at * 2) x refl (omega arith) h.0 in
      let vs = G.break_resolved ws at check cleanup in
      let a = one.1 in
      let e : at * 2 + 2 ≡ suc at * 2 = omega arith in
      let tail : Rows 2 (ItemAt vs) (suc at * 2) l = subst (λ (p : ℕ). Rows 2 (ItemAt vs) p l) e (rows_agree 2 ItemAt item_local ws vs (at * 2 + 2) l (λ j u z. a.above j u) h.1) in
      let rec = aim_range l vs (suc at) (omega arith) tail in
      search rules

module _ {tree : List ℕ} {c : Counts} where
  -- those of the code behind k
  pub aim_at : (o k l : List Item) (w : Bool) (os : List OpenCall) (s : State) (h : Held) (at check cleanup : ℕ) → at ≡ past k 0
      → Fits (mk o (k ++ l) w os s) → Content tree c h (mk o (k ++ l) w os s) → Content tree c (h.0, T.breaks_resolved h.0 at check cleanup h.1) (mk o (k ++ map (aim check cleanup) l) w os s)
  unfolding T.breaks_resolved
  aim_at o k l w os s h at check cleanup ea f r =
      let t = r.tables in
      let A = mk o (k ++ l) w os s in
      let ob = t.code_held.open_base in
      let l1 = length-append o (k ++ l) in
      let l2 = length-append k l in
      let l3 = length-append o k in
      let m = map (aim check cleanup) l in
      let l4 = length-append o (k ++ m) in
      let l5 = length-append k m in
      let l6 = length-map l (aim check cleanup) in
      let pk = past_length k in
      let en = r.enough in
      let i = h.0.code.base + at in
      let wo = weigh_length 2 (o ++ k) in
      let ei : OPEN + weigh 2 (o ++ k) ≡ i * 2 = omega arith in
      let rows0 : Rows 2 (ItemAt h.1) OPEN ((o ++ k) ++ l) = subst (λ (q : List Item). Rows 2 (ItemAt h.1) OPEN q) (sym (append_assoc o k l)) t.code_held.open_code.rows in
      let left = rows_left 2 (ItemAt h.1) OPEN (o ++ k) l rows0 in
      let right : Rows 2 (ItemAt h.1) (i * 2) l = subst (λ (p : ℕ). Rows 2 (ItemAt h.1) p l) ei (rows_right 2 (ItemAt h.1) OPEN (o ++ k) l rows0) in
      let g = aim_range check cleanup l h.1 i (omega arith) right in
      let vs = G.range_resolved h.1 i (length l) check cleanup in
      let a = g.1 in
      let left' : Rows 2 (ItemAt vs) OPEN (o ++ k) = rows_agree 2 ItemAt item_local h.1 vs OPEN (o ++ k) (λ j u z. a.below j (omega arith)) left in
      let rows = subst (λ (q : List Item). Rows 2 (ItemAt vs) OPEN q) (append_assoc o k m) (rows_append 2 (ItemAt vs) OPEN (o ++ k) m left' (subst (λ (p : ℕ). Rows 2 (ItemAt vs) p m) (sym ei) g.0)) in
      let e0 : min (h.0.code.base + at) 65535 ≡ h.0.code.base + at = omega arith in
      let e1 : h.0.code.top - (h.0.code.base + at) ≡ length l = omega arith in
      rw (e0, e1)
      (record {
        enough = omega (arith, a.same_length, en);
        beside = r.beside;
        tables = open_changed A f a (omega arith) ob (record { count = omega arith; rows = rows }) t;
      })

-- ---- an instruction that waits for its target

-- i makes the instruction of these fields for every target
pub record Leads (i : ℕ → Instruction) (op sub b : ℕ) : Type 0 where
  pub fields : (t : ℕ) → word_of (i t) ≡ word op sub t b

pub leads : (i : ℕ → Instruction) (op sub b : ℕ) → ((t : ℕ) → word_of (i t) ≡ word op sub t b) → Leads i op sub b
leads i op sub b e = record { fields = e }

pub lead_front : {i : ℕ → Instruction} {op sub b : ℕ} → Leads i op sub b → (t : ℕ) → front_of (instr (i t)) ≡ front op sub b
lead_front e t = ap (λ (w : Word). front w.opcode w.sub w.b) (e.fields t)

pub lead_back : {i : ℕ → Instruction} {op sub b : ℕ} → Leads i op sub b → (t : ℕ) → back_of (instr (i t)) ≡ t
lead_back e t = ap (λ (w : Word). w.a) (e.fields t)

-- the state and words behind it
abbrev pub guarding : ℕ → ℕ → ℕ → Step
guarding op sub b h = ((L.emit_jump op sub b h).0.state, (L.emit_jump op sub b h).1)

guarding_is : (op sub b : ℕ) (h : Held) → guarding op sub b h ≡ W.emitted (front op sub b) 0 (W.flushed h)
unfolding L.emit_jump
guarding_is op sub b h = refl

module _ {tree : List ℕ} {c : Counts} where
  pub guards : (i : ℕ → Instruction) {op sub b : ℕ} → Leads i op sub b → Moves tree (λ A. add_item (instr (i 0)) (flush_a A)) c c (guarding op sub b)
  guards i {op} {sub} {b} e = record {
    back = λ A f. back_flush A (back_add (instr (i 0)) (flush_a A) f);
    keep = λ A h f k.
        let m = (both (flushes {tree = tree} {c = c}) (emits (instr (i 0)))).keep A h f k in
        subst (λ (y : Held). Content tree c y (add_item (instr (i 0)) (flush_a A))) (sym (guarding_is op sub b h))
        (subst (λ (x : ℕ). Content tree c (W.emitted x 0 (W.flushed h)) (add_item (instr (i 0)) (flush_a A))) (lead_front e 0)
        (subst (λ (x : ℕ). Content tree c (W.emitted (front_of (instr (i 0))) x (W.flushed h)) (add_item (instr (i 0)) (flush_a A))) (lead_back e 0) m));
  }

  pub guard_place : {A : Abs} {h : Held} (op sub b : ℕ) → Fits (flush_a A) → Content tree c h A → (L.emit_jump op sub b h).0.index ≡ past (flushed_code A.wait A.code) 0
  unfolding L.emit_jump
  guard_place {A} {h} op sub b f k = placed ((flushes {tree = tree} {c = c}).keep A h f k)
