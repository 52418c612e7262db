-- What the lowering leaves in the workspace holds the program of the tree: the card can be written from it. Assumes nothing.
use Rattle.std.proofs.Common.{rules, ◌≡◌, refl, sym, ap, subst, ◌∙◌, Bool, true, false, cond, List, [], ◌∷◌, ◌++◌, map, ℕ, zero, suc, ◌+◌, ◌*◌, ◌≤◌, ◌<◌, arith, length, get_or, length-append}
use Rattle.answers.specs.Refusals.{number_of_first}
use mathlib.Core.Option.{Option, some, none}
use mathlib.Core.Path.{ap₂}
use lib.Bits.{bit_and}
use Rattle.std.proofs.lemmas.List.{map-append, get_or-map}
use lib.ListN.{length-map}
use Rattle.wire.specs.Bytes.{Bytes}
use Rattle.numeric.specs.Post.{identity}
use Rattle.ast.specs.Node.{parse}
use Rattle.ast.specs.Questions.{questions}
use Rattle.program.specs.Instruction as I
use Rattle.program.specs.Instruction.{Instruction, halt}
use Rattle.program.specs.Program.{MemberEntry, QueryCall}
use Rattle.program.specs.Image.{word_of}
use Rattle.program.specs.Targets.{shift_of}
use Rattle.program.specs.Kinds.{in_float_loop}
use Rattle.program.specs.Fits.{Every, FitInstruction, FitProgram}
use Rattle.program.proofs.Counts.{same_counts, counts_fitted}
use Rattle.semantics.specs.Positions.{◌⊕◌, past}
use Rattle.semantics.proofs.Positions.{past_length}
use Rattle.semantics.proofs.Ranges.{shift}
use Rattle.semantics.specs.Run.{nothing_open}
use Rattle.semantics.specs.State as S
use Rattle.semantics.specs.State.{Item, CallInfo, MemberRead, State, empty}
use Rattle.semantics.specs.Pieces.{Lowered, aim, put, ◌⨾◌}
use Rattle.semantics.specs.Lowering.{lower}
use Rattle.semantics.specs.Link.{relocate, settle, place_segments, offsets_of, place_call, member_entry, final_flags, lowered, link, program}
use Rattle.ast.specs.Header.{settings, ROOT, LEVELS}
use Rattle.semantics.specs.Regions.{argument_starts}
use Rattle.semantics.proofs.Regions.{regions}
use Rattle.semantics.proofs.Fitting.{program_fits}
use Rattle.semantics.proofs.AcceptedTrees.{parsed_fits, parsed_short}
use Rattle.workspace.specs.Layout.{OPEN, FINISHED, CONSTS, POSTS, HASHES, NAMES, TEMPS, MEMBERS, STORES, CALLS, ARGUMENTS}
use Rattle.program.specs.declared.Flags as F
use Rattle.card.specs.Holds.{Each, InstructionIs, MemberIs, CallIs, Holds}
use Rattle.lowering.specs.Parts as L
use Rattle.lowering.specs.Rules as R
use Rattle.representation.specs.Sections.{in_loop, closing_flags, sections_of}
use Rattle.representation.proofs.Rows.{Rows}
use Rattle.representation.proofs.Represents.{consts, posts, hashes, names, temps, members, pool_held, ItemAt, InstructionAt, WordAt, ConstIs, MemberAt, places, first_place, Filled, CallsFrom, filled, Abs, Fits, Table, Content, Does}
use Rattle.representation.proofs.Pools.{rows_at}
use Rattle.representation.proofs.Laws.{thens}
use Rattle.representation.proofs.Targets.{mk, aim_at}
use Rattle.representation.proofs.Branches.{instr_does}
use Rattle.representation.proofs.Segments.{past_is, relocate_front, relocate_back, instruction_of, aim_is, settle_is}
use Rattle.representation.proofs.Sound.{sound, not_larger}
use Rattle.representation.proofs.Nodes.{child}

-- ---- targets moved twice

further : (b n t : ℕ) → (b + n) ⊕ t ≡ b ⊕ (n ⊕ t)
further b n t = let h = shift (b + n) t in let i = shift n t in let j = shift b (n ⊕ t) in omega arith

relocate_twice : (b n : ℕ) (i : Instruction) → relocate (b + n) i ≡ relocate b (relocate n i)
unfolding relocate
relocate_twice b n (I.guard g t) = ap (I.guard g) (further b n t)
relocate_twice b n (I.each_next i t) = ap (I.each_next i) (further b n t)
relocate_twice b n (I.jump t) = ap I.jump (further b n t)
relocate_twice b n (I.handler_push t) = ap I.handler_push (further b n t)
relocate_twice b n (I.handler_pop t) = ap I.handler_pop (further b n t)
relocate_twice b n (I.loop_begin t) = ap I.loop_begin (further b n t)
relocate_twice b n (I.loop_check t) = ap I.loop_check (further b n t)
relocate_twice b n (I.each_begin t) = ap I.each_begin (further b n t)
relocate_twice b n i = refl

settle_twice : (b n : ℕ) (x : Item) → settle (b + n) 0 0 x ≡ relocate b (settle n 0 0 x)
settle_twice b n x = settle_is (b + n) x ∙ relocate_twice b n (instruction_of x) ∙ ap (relocate b) (sym (settle_is n x))

past_plus : (c : List Item) (b n : ℕ) → past c (b + n) ≡ b + past c n
past_plus c b n = let h = past_is c (b + n) in let i = past_is c n in omega arith

settle_map : (b n : ℕ) (c : List Item) → map (settle (b + n) 0 0) c ≡ map (relocate b) (map (settle n 0 0) c)
settle_map b n [] = refl
settle_map b n (x ∷ c) = λ i. settle_twice b n x i ∷ settle_map b n c i

place_shift : (b n : ℕ) (cs : List (List Item)) → place_segments cs (b + n) ≡ map (relocate b) (place_segments cs n)
unfolding place_segments
place_shift b n [] = refl
place_shift b n (c ∷ cs) =
    ap (λ (l : List Instruction). l ++ place_segments cs (past c (b + n))) (settle_map b n c)
    ∙ ap (λ (m : ℕ). map (relocate b) (map (settle n 0 0) c) ++ place_segments cs m) (past_plus c b n)
    ∙ ap (λ (l : List Instruction). map (relocate b) (map (settle n 0 0) c) ++ l) (place_shift b (past c n) cs)
    ∙ sym (map-append (relocate b) (map (settle n 0 0) c) (place_segments cs (past c n)))

-- ---- entries by number

each_rows : {A : Type 0} (w : ℕ) (Q : ℕ → A → Type 0) (o : ℕ) (xs : List A) (d : A) → Rows w Q o xs → Each d (λ k x. Q (o + w * k) x) xs
each_rows w Q o xs d h k l = rows_at w Q o xs k d l h

every_at : {A : Type 0} (Q : A → Type 0) (xs : List A) (k : ℕ) (d : A) → k < length xs → Every Q xs → Q (get_or xs k d)
every_at Q [] k d l h = absurd (omega arith)
every_at Q (x ∷ xs) zero d l h = h.0
every_at Q (x ∷ xs) (suc k) d l h = every_at Q xs k d (omega arith) h.1

every_left : {A : Type 0} (Q : A → Type 0) (xs ys : List A) → Every Q (xs ++ ys) → Every Q xs
every_left Q [] ys h = tt
every_left Q (x ∷ xs) ys h = (h.0, every_left Q xs ys h.1)

every_right : {A : Type 0} (Q : A → Type 0) (xs ys : List A) → Every Q (xs ++ ys) → Every Q ys
every_right Q [] ys h = h
every_right Q (x ∷ xs) ys h = every_right Q xs ys h.1

-- ---- instructions

-- an instruction whose words stand there is the same behind b more
moved_is : (ws : List ℕ) (b k : ℕ) (i : Instruction) → InstructionAt ws k i → FitInstruction (relocate b i) → InstructionIs ws b k (relocate b i)
moved_is ws b k i h f =
    let j = relocate b i in
    let e = relocate_front b i in
    let m = relocate_back b i in
    let h0 = h.0 in
    let h1 = h.1 in
    let fs = f.sub in
    let fb = f.b in
    let fa = f.a in
    let eo : (word_of j).opcode ≡ (word_of i).opcode = omega (arith, e) in
    let es : shift_of (word_of j).opcode b ≡ shift_of (word_of i).opcode b = ap (λ (o : ℕ). shift_of o b) eo in
    record { first = omega (arith, h0, e, fs, fb); second = omega (arith, h1, m, fa, es) }

item_is : (ws : List ℕ) (k : ℕ) (x : Item) → ItemAt ws k (aim 0 0 x) → InstructionAt ws k (instruction_of x)
item_is ws k x h = subst (λ (y : Item). ItemAt ws k y) (aim_is x) h

main_is : (ws : List ℕ) (xs : List Item) → Rows 2 (ItemAt ws) OPEN (map (aim 0 0) xs) → Every FitInstruction (map (settle 0 0 0) xs) → Each halt (λ k i. InstructionIs ws 0 (OPEN + 2 * k) i) (map (settle 0 0 0) xs)
main_is ws xs h f k l =
    let n = length-map xs (settle 0 0 0) in
    let m = length-map xs (aim 0 0) in
    let x = get_or xs k S.to_cleanup in
    let e : get_or (map (settle 0 0 0) xs) k halt ≡ relocate 0 (instruction_of x) = get_or-map (settle 0 0 0) xs k S.to_cleanup halt (omega arith) ∙ settle_is 0 x in
    let g : ItemAt ws (OPEN + 2 * k) (aim 0 0 x) = subst (λ (y : Item). ItemAt ws (OPEN + 2 * k) y) (get_or-map (aim 0 0) xs k S.to_cleanup S.to_cleanup (omega arith)) (each_rows 2 (ItemAt ws) OPEN (map (aim 0 0) xs) S.to_cleanup h k (omega arith)) in
    let fit = subst (λ (i : Instruction). FitInstruction i) e (every_at FitInstruction (map (settle 0 0 0) xs) k halt l f) in
    subst (λ (i : Instruction). InstructionIs ws 0 (OPEN + 2 * k) i) (sym e) (moved_is ws 0 (OPEN + 2 * k) (instruction_of x) (item_is ws (OPEN + 2 * k) x g) fit)

finished_is : (ws : List ℕ) (b : ℕ) (xs : List Instruction) → Rows 2 (InstructionAt ws) FINISHED xs → Every FitInstruction (map (relocate b) xs) → Each halt (λ k i. InstructionIs ws b (FINISHED + 2 * k) i) (map (relocate b) xs)
finished_is ws b xs h f k l =
    let n = length-map xs (relocate b) in
    let e = get_or-map (relocate b) xs k halt halt (omega arith) in
    subst (λ (i : Instruction). InstructionIs ws b (FINISHED + 2 * k) i) (sym e) (moved_is ws b (FINISHED + 2 * k) (get_or xs k halt) (each_rows 2 (InstructionAt ws) FINISHED xs halt h k (omega arith)) (subst (λ (i : Instruction). FitInstruction i) e (every_at FitInstruction (map (relocate b) xs) k halt l f)))

-- ---- calls: with none open, each has its starts

filled_one : (ws : List ℕ) (p : ℕ) (o : Option (List ℕ)) → Filled ws p o → length (offsets_of o) ≤ places ws p
unfolding offsets_of
filled_one ws p none h = omega arith
filled_one ws p (some o) h = let e = h.0 in omega arith

calls_sum : (ws : List ℕ) (hi p lo : ℕ) (is : List CallInfo) → CallsFrom ws hi p lo is → lo + filled is ≤ hi
calls_sum ws hi p lo [] h = let l = h in omega arith
calls_sum ws hi p lo (i ∷ is) h =
    let r = calls_sum ws hi (p + 4) (first_place ws p + places ws p) is h.4 in
    let f = filled_one ws p i.offsets h.2 in
    omega arith

starts_of : (ws : List ℕ) (p : ℕ) (o : Option (List ℕ)) → places ws p ≡ length (offsets_of o) → Filled ws p o → Rows 1 (WordAt ws) (ARGUMENTS + first_place ws p) (offsets_of o)
unfolding offsets_of
starts_of ws p none e h = tt
starts_of ws p (some o) e h = h.1

-- a call, its starts still without the main code's length b
pub record CallAt (ws : List ℕ) (p : ℕ) (i : CallInfo) : Type 0 where
  pub index_is : get_or ws p 0 ≡ i.index
  pub impl_is : get_or ws (p + 1) 0 ≡ i.impl
  pub count_is : places ws p ≡ length (offsets_of i.offsets)
  pub starts_are : Rows 1 (WordAt ws) (ARGUMENTS + first_place ws p) (offsets_of i.offsets)

calls_all : (ws : List ℕ) (hi p lo : ℕ) (is : List CallInfo) → hi ≤ lo + filled is → CallsFrom ws hi p lo is → Rows 4 (CallAt ws) p is
calls_all ws hi p lo [] g h = tt
calls_all ws hi p lo (i ∷ is) g h =
    let r = calls_sum ws hi (p + 4) (first_place ws p + places ws p) is h.4 in
    let f = filled_one ws p i.offsets h.2 in
    let e : places ws p ≡ length (offsets_of i.offsets) = omega arith in
    (record { index_is = h.0; impl_is = h.1; count_is = e; starts_are = starts_of ws p i.offsets e h.2 }, calls_all ws hi (p + 4) (first_place ws p + places ws p) is (omega arith) h.4)

call_placed : (ws : List ℕ) (b p : ℕ) (i : CallInfo) → CallAt ws p i → CallIs ws b p (place_call b i)
unfolding place_call
call_placed ws b p i h = record {
  index = h.index_is;
  impl = h.impl_is;
  count = h.count_is ∙ sym (length-map (offsets_of i.offsets) (b ⊕◌));
  starts = λ k l.
      let o = offsets_of i.offsets in
      let n = length-map o (b ⊕◌) in
      let e = get_or-map (b ⊕◌) o k 0 0 (omega arith) in
      let v = each_rows 1 (WordAt ws) (ARGUMENTS + first_place ws p) o 0 h.starts_are k (omega arith) in
      let q : ARGUMENTS + first_place ws p + 1 * k ≡ ARGUMENTS + first_place ws p + k = omega arith in
      let v' = ap (λ (j : ℕ). get_or ws j 0) (sym q) ∙ v in
      let s = shift b (get_or o k 0) in
      omega (arith, e, v', s);
}

calls_placed : (ws : List ℕ) (b : ℕ) (is : List CallInfo) → Rows 4 (CallAt ws) CALLS is → Each (record { index = 0; impl = 0; starts = [] }) (λ k q. CallIs ws b (CALLS + 4 * k) q) (map (place_call b) is)
calls_placed ws b is h k l =
    let n = length-map is (place_call b) in
    let d : CallInfo = record { index = 0; impl = 0; offsets = none } in
    subst (λ (q : QueryCall). CallIs ws b (CALLS + 4 * k) q) (sym (get_or-map (place_call b) is k d (record { index = 0; impl = 0; starts = [] }) (omega arith))) (call_placed ws b (CALLS + 4 * k) (get_or is k d) (each_rows 4 (CallAt ws) CALLS is d h k (omega arith)))

-- ---- members

members_held : {tree : List ℕ} (ws : List ℕ) (xs : List MemberRead) → Rows 6 (MemberAt tree ws) MEMBERS xs → Each (record { hash = 0; text = []; report = [] }) (λ k m. MemberIs tree ws (MEMBERS + 6 * k) m) (map member_entry xs)
members_held {tree} ws xs h k l =
    let n = length-map xs member_entry in
    let d : MemberRead = record { own = record { hash = 0; text = [] }; last = record { hash = 0; text = [] } } in
    subst (λ (m : MemberEntry). MemberIs tree ws (MEMBERS + 6 * k) m) (sym (get_or-map member_entry xs k d (record { hash = 0; text = []; report = [] }) (omega arith))) (each_rows 6 (MemberAt tree ws) MEMBERS xs d h k (omega arith)).0

-- ---- the start and the end

flags_final : (b : Bool) (m : F.Flags) (f : S.Flags) → m.bits ≡ f.bits → (closing_flags b m).bits ≡ (cond {A = S.Flags} b f (S.not_float_only f)).bits
unfolding closing_flags S.not_float_only
flags_final true m f q = q
flags_final false m f q = ap (λ (n : ℕ). bit_and n 2046) q

loop_final : (b : Bool) (m : F.Flags) (f : S.Flags) → m.float_loop ≡ f.float_loop → (closing_flags b m).float_loop ≡ (cond {A = S.Flags} b f (S.not_float_only f)).float_loop
unfolding closing_flags S.not_float_only
loop_final true m f q = q
loop_final false m f q = refl

abbrev nothing_lowered : Abs
nothing_lowered = mk [] [] false [] empty

no_entries : {X : Type 0} {w o : ℕ} {Q : ℕ → X → Type 0} → Table w Q o 0 []
no_entries = record { count = refl; rows = tt }

begins : (tree words : List ℕ) → 16384 ≤ length words → Content tree nothing_open (R.start, words) nothing_lowered
unfolding place_segments
begins tree words h = record {
  enough = h;
  beside = record { counted = omega arith; bits_are = refl; float_loop_is = refl; number_is = refl };
  tables = record {
    code_held = record {
      open_base = refl;
      open_code = no_entries;
      the_finished_code = no_entries;
      waiting_is = refl;
    };
    pools_held = (no_entries, no_entries, no_entries, no_entries, no_entries, no_entries);
    stores_held = record { the_stores = no_entries; path_count = refl };
    calls_held = record { call_count = refl; the_calls = omega arith; the_open = tt; argument_count = refl };
  };
}

module _ (tree words : List ℕ) (small : Bytes tree) (passed : questions tree ≡ 0) (enough : 16384 ≤ length words) where
  abbrev x : Lowered
  x = lowered (settings tree) (parse tree)

  abbrev after_main : Abs
  after_main = mk [] x.code false [] x.state

  fits_all : FitProgram (program (settings tree) (parse tree))
  fits_all = program_fits (settings tree) (parse tree) (parsed_fits tree small passed) (parsed_short tree small passed)

  stored_args : (b : ℕ) (is : List CallInfo) → argument_starts (map (place_call b) is) ≡ filled is
  unfolding place_call
  stored_args b [] = refl
  stored_args b (i ∷ is) = let h = stored_args b is in let l = length-map (offsets_of i.offsets) (b ⊕◌) in omega arith

  fits_main : Fits after_main
  unfolding program link
  fits_main =
      let r = regions tree small passed in
      let f = counts_fitted fits_all.depths in
      let s = x.state.pools in
      let b = past x.code 0 in
      let la = length-append (map (settle 0 0 0) x.code) (place_segments s.segments b) in
      let lm = length-map x.code (settle 0 0 0) in
      let e : b + 0 ≡ b = omega arith in
      let lp = ap length (ap (λ (n : ℕ). place_segments s.segments n) (sym e) ∙ place_shift b 0 s.segments) in
      let lq = length-map (place_segments s.segments 0) (relocate b) in
      let lx = length-map s.members member_entry in
      let lc = length-map s.calls (place_call b) in
      let sa = stored_args b s.calls in
      search rules

  whole_does : Does tree ((lower (settings tree) (parse tree)).expr false ⨾ put I.end) nothing_open (λ h. L.instr 48 0 0 0 (R.expr tree LEVELS ROOT false h))
  unfolding parse word_of
  whole_does = thens ((child tree (not_larger tree passed) LEVELS (omega arith) ROOT (sound tree passed)).expr_is false nothing_open) (instr_does I.end refl)

  abbrev settled : Abs
  settled = mk [] (map (aim 0 0) x.code) false [] x.state

  pub content : Content tree nothing_open (R.lowered tree words) settled
  unfolding lowered R.lowered
  content =
      let g = L.instr 48 0 0 0 (R.expr tree LEVELS ROOT false (R.start, words)) in
      let r = whole_does.keep nothing_lowered (R.start, words) fits_main (begins tree words enough) in
      aim_at [] [] x.code false [] x.state g 0 0 0 refl fits_main r

  pub refusal_is : number_of_first (R.lowered tree words).0.refusal ≡ x.state.refusal
  refusal_is = content.beside.number_is

  -- the flags
  in_a_loop : in_loop (R.lowered tree words).0 ≡ in_float_loop x.state.deepest (length x.state.pools.temps)
  unfolding in_loop
  in_a_loop =
      ap₂ in_float_loop (same_counts content.beside.counted.most_are)
      (pool_held tree (R.lowered tree words).1 (R.lowered tree words).0.pools x.state.pools content.tables.pools_held temps).count

  pub holds : Holds tree (R.lowered tree words).1 (sections_of (R.lowered tree words).0) (program (settings tree) (parse tree))
  unfolding sections_of program link final_flags
  holds =
      let h = R.lowered tree words in
      let ws = h.1 in
      let t = content.tables in
      let bs = content.beside in
      let s = x.state.pools in
      let b = past x.code 0 in
      let lm = length-map x.code (settle 0 0 0) in
      let la = length-map x.code (aim 0 0) in
      let pl = past_length x.code in
      let eb : h.0.code.top ≡ b = omega arith in
      let e0 : b + 0 ≡ b = omega arith in
      let ps : place_segments s.segments b ≡ map (relocate b) (place_segments s.segments 0) = ap (λ (m : ℕ). place_segments s.segments m) (sym e0) ∙ place_shift b 0 s.segments in
      let fit = fits_all.code.each in
      let fitm = every_left FitInstruction (map (settle 0 0 0) x.code) (place_segments s.segments b) fit in
      let fitf = subst (λ (l : List Instruction). Every FitInstruction l) ps (every_right FitInstruction (map (settle 0 0 0) x.code) (place_segments s.segments b) fit) in
      let lf = length-map (place_segments s.segments 0) (relocate b) in
      let il = in_a_loop in
      let held = pool_held tree ws h.0.pools s t.pools_held in
      record {
        main = map (settle 0 0 0) x.code;
        finished = map (relocate b) (place_segments s.segments 0);
        code = ap (λ (l : List Instruction). map (settle 0 0 0) x.code ++ l) ps;
        main_count = omega arith;
        main_is = main_is ws x.code t.code_held.open_code.rows fitm;
        finished_count = omega arith;
        finished_is = subst (λ (m : ℕ). Each halt (λ k i. InstructionIs ws m (FINISHED + 2 * k) i) (map (relocate b) (place_segments s.segments 0))) (sym eb) (finished_is ws b (place_segments s.segments 0) t.code_held.the_finished_code.rows fitf);
        consts_count = sym (held consts).count;
        consts = λ k l. (each_rows 2 (ConstIs ws) CONSTS s.consts 0 (held consts).rows k l).0;
        further = s.posts;
        posts = refl;
        posts_count = sym (held posts).count;
        posts_are = each_rows 2 _ POSTS s.posts identity (held posts).rows;
        hashes_count = sym (held hashes).count;
        hashes = each_rows 2 _ HASHES s.hashes 0 (held hashes).rows;
        names_count = sym (held names).count;
        names = each_rows 3 _ NAMES s.names _ (held names).rows;
        temps_count = sym (held temps).count;
        temps = λ k l. let q : TEMPS + 1 * k ≡ TEMPS + k = omega arith in ap (λ (j : ℕ). get_or ws j 0) (sym q) ∙ each_rows 1 (WordAt ws) TEMPS s.temps 0 (held temps).rows k l;
        members_count = length-map s.members member_entry ∙ sym (held members).count;
        members = members_held ws s.members (held members).rows;
        stores_count = sym t.stores_held.the_stores.count;
        stores = λ k l. (each_rows 4 _ STORES s.stores _ t.stores_held.the_stores.rows k l).0;
        calls_count = length-map s.calls (place_call b) ∙ sym t.calls_held.call_count;
        calls = subst (λ (m : ℕ). Each (record { index = 0; impl = 0; starts = [] }) (λ k q. CallIs ws m (CALLS + 4 * k) q) (map (place_call b) s.calls)) (sym eb) (calls_placed ws b s.calls (calls_all ws h.0.listed.arguments CALLS 0 s.calls (let ac = t.calls_held.argument_count in omega arith) t.calls_held.the_calls));
        depths = same_counts bs.counted.most_are;
        flags = rw il (flags_final _ h.0.flags x.state.flags bs.bits_are);
        float_loop = rw il (loop_final _ h.0.flags x.state.flags bs.float_loop_is);
      }
