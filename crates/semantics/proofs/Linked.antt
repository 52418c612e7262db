-- The linked program has what the lowering gathered, so the machine over it does what the walk does. Assumes nothing.
use mathlib.Core.Path.{◌≡◌, refl, ap, sym, ◌∙◌}
use mathlib.Core.Bool.{Bool, false}
use mathlib.Core.List.{List, [], ◌∷◌, ◌++◌, map, map-map, append_assoc}
use mathlib.Core.Option.{Option, none}
use Prim.Native.Nat.{ℕ, suc}
use native.Mathlib.Omega.{arith}
use lib.ListN.{length, length-append}
use lib.Seq.{append_snoc, get_or_at}
use Rattle.ast.specs.Tree.{Tree}
use Rattle.numeric.specs.Post.{Post, identity}
use Rattle.program.specs.Instruction.{Instruction, halt, end}
use Rattle.program.specs.Program.{name_at, MemberEntry, root_other, QueryCall, Program, code_at, const_at, post_at, hash_at, slot_at, member_at, store_at, call_at}
use Rattle.semantics.proofs.Agreement.{tree_s}
use Rattle.semantics.proofs.Positions.{past_map, in_list, whole_list, holds_map, shifted, plus_past, length_past}
use Rattle.semantics.proofs.Simulation.{has_handler, at, Ends, After, Has, SegsOk, StartsOk, CallsOk, Ext, ends_at, has_left, has_right}
use Rattle.semantics.specs.Link.{relocate, settle, place_segments, offsets_of, place_call, member_entry, lowered, link, program}
use Rattle.semantics.specs.Lowering.{lower}
use Rattle.semantics.specs.Machine.{stop, leave, execute, follow, start}
use Rattle.semantics.specs.Pieces.{Lowered, flush, itself, hash_key}
use Rattle.semantics.specs.Positions.{◌⊕◌, past}
use Rattle.ast.specs.Header.{Settings}
use Rattle.semantics.specs.Run.{nothing_open, Result, begin}
use Rattle.semantics.specs.State.{Item, instr, CallInfo, empty}
use Rattle.semantics.specs.Walk.{Completion, normal, missing, broke, again, inside, finish, walked, walk}

module _ (P : Program) (E : ℕ) (r : Result) where
  segs_ok : (o : ℕ) (cs : List (List Item)) (before : List Instruction) → P.code ≡ before ++ place_segments cs (E ⊕ o) → length before ≡ E ⊕ o → SegsOk P E r o cs
  unfolding place_segments code_at
  segs_ok o [] before e h = tt
  segs_ok o (c ∷ cs) before e h =
      let b = E ⊕ o in
      let d = map (settle b 0 0) c in (
        shifted (code_at P) b 0 d (rw e (in_list halt before d (place_segments cs (past c b)) b h)),
        segs_ok (past c o) cs (before ++ d) (rw (plus_past E c o) (e ∙ sym (append_assoc before d _))) (length_past before d b h ∙ past_map (settle b 0 0) c b ∙ sym (plus_past E c o)),
      )

  starts_ok : (k : ℕ) (i : CallInfo) → call_at P k ≡ place_call E i → (o : Option (List ℕ)) → i.offsets ≡ o → StartsOk P E r k o
  unfolding place_call offsets_of
  starts_ok k i h none e = tt
  starts_ok k i h (Option.some o) e = ap (λ c. c.starts) h ∙ ap (λ q. map (E ⊕◌) (offsets_of q)) e

  calls_ok : (n : ℕ) (is : List CallInfo) (before : List QueryCall) → P.calls ≡ before ++ map (place_call E) is → length before ≡ n → CallsOk P E r n is
  unfolding place_call call_at
  calls_ok n [] before e h = tt
  calls_ok n (i ∷ is) before e h = (record { index = ap (λ c. c.index) found; impl = ap (λ c. c.impl) found; starts = starts_ok n i found i.offsets refl }, calls_ok (suc n) is (before ++ (place_call E i ∷ [])) (e ∙ sym (append_snoc before (place_call E i) _)) (simp length-append (omega arith)))
    where
      found : call_at P n ≡ place_call E i
      found = rw e (get_or_at before (place_call E i) (map (place_call E) is) _ n h)

-- at the end of the whole run
final : (P : Program) (E n : ℕ) (r : Result) → code_at P (0 ⊕ n) ≡ end → (x : Completion) → Ends P E r (stop (finish x)) → After P E r inside (at 0) n x
unfolding finish execute leave
final P E n r h (normal w) q = ends_at P E r (0 ⊕ n) h q
final P E n r h (missing w) q = tt
final P E n r h (broke w) q = tt
final P E n r h (again w) q = tt
final P E n r h _ q = q

linked : (x : Lowered) (r : Result) → x.state.refusal ≡ 0 → Ext (link x) (past x.code 0) r x.state
unfolding link code_at const_at post_at hash_at name_at slot_at member_at store_at member_entry
linked x r h =
    let E = past x.code 0 in
    let s = x.state.pools in
    record {
      clean = h;
      slot0 = refl;
      hconsts = holds_map itself _ 0 s.consts (whole_list 0 s.consts);
      hposts = holds_map (λ (p : Post). p) _ 0 s.posts (whole_list identity s.posts);
      hhashes = holds_map itself _ 0 s.hashes (whole_list 0 s.hashes);
      hnames = holds_map hash_key _ 0 s.names (whole_list (record { hash = 0; text = [] }) s.names);
      htemps = holds_map itself _ 0 s.temps (whole_list 0 s.temps);
      hmembers = rw (map-map (λ (m : MemberEntry). m.hash) member_entry s.members) at (holds_map (λ (m : MemberEntry). m.hash) _ 0 (map member_entry s.members) (whole_list (record { hash = 0; text = []; report = [] }) (map member_entry s.members)));
      hstores = whole_list (record { root = root_other; path = [] }) s.stores;
      hcalls = calls_ok (link x) E r 0 s.calls [] refl refl;
      hsegs = segs_ok (link x) E r 0 s.segments (map (settle 0 0 0) x.code) refl (length_past [] (map (settle 0 0 0) x.code) 0 refl ∙ past_map (settle 0 0 0) x.code 0);
    }

linked_main : (x : Lowered) (r : Result) → Has (link x) (past x.code 0) r (at 0) 0 x.code
unfolding link code_at
linked_main x r = shifted (code_at (link x)) 0 0 (map (settle 0 0 0) x.code) (in_list halt [] (map (settle 0 0 0) x.code) (place_segments x.state.pools.segments (past x.code 0)) 0 refl)

-- the machine over the program of an accepted tree comes to the walk's end, with its log and outcomes left
pub correct : (S : Settings) (t : Tree) → (lowered S t).state.refusal ≡ 0 → (outcomes : List Bool) → Ends (program S t) (past (lowered S t).code 0) (walked S t outcomes) (start outcomes)
unfolding program lowered flush walked settle relocate has_handler follow
correct S t h outcomes =
    let x = lowered S t in
    let E = past x.code 0 in
    let r = walked S t outcomes in
    let o = (lower S t).expr false nothing_open false 0 empty in
    let y = linked_main x r in
    ((tree_s S (link x) E r t).expr inside).sim nothing_open false 0 empty (linked x r h) (at 0) (has_left (link x) E r (at 0) 0 o.code (instr end ∷ []) y) refl (begin outcomes)
    (final (link x) E (past o.code 0) r (has_right (link x) E r (at 0) 0 o.code (instr end ∷ []) y).0 ((walk S t).expr inside (begin outcomes)) (record { steps = 0; comes = refl }))
