use Rattle.program.proofs.Counts.{counts_fit}
use Rattle.program.proofs.Length.{program_length, image_length}
use Rattle.program.proofs.ReadBack.{read_image}
use mathlib.Core.Path.{◌≡◌}
use mathlib.Core.Bool.{Bool, true, false, cond}
use mathlib.Core.List.{List, [], ◌∷◌, map}
use Prim.Native.Nat.{ℕ, ◌≤◌, ◌<◌, ◌+◌, ◌^◌}
use native.Mathlib.Omega.{arith}
use lib.ListN.{length}
use Rattle.ast.specs.Tree.{Name, Payload, p_none, Tree}
use Rattle.program.specs.Fits.{Below, Every, FitInstruction, FitName, FitMember, root_index, FitStore, FitCall, FitProgram}
use Rattle.program.specs.Image.{put_program, image, read}
use Rattle.program.specs.Instruction.{end}
use Rattle.program.specs.Kinds.{in_float_loop}
use Rattle.program.specs.Program.{MemberStore}
use Rattle.semantics.proofs.CostedRules.{pay, own}
use Rattle.semantics.proofs.Costs.{sum, weigh, store_weight, sz}
use Rattle.semantics.proofs.FitTrees.{TreeFits}
use Rattle.semantics.proofs.Lengths.{length_bytes}
use Rattle.semantics.proofs.RangedJumps.{fits_end}
use Rattle.semantics.proofs.RangedRules.{tree_r}
use Rattle.semantics.proofs.Ranges.{Fits, ones, total, FitText, FitRead, FitInfo, Good, Done, Ranged, past_weigh, shift, not_fit, every_append, ◌then_r◌, put_r}
use Rattle.semantics.proofs.Sizes.{held, bytes, weigh_length, weighed, nodes_bytes, sizes}
use Rattle.program.specs.Counts.{all, AtMost}
use Rattle.semantics.specs.Link.{settle, place_segments, offsets_of, place_call, member_entry, final_flags, lowered, link, program}
use Rattle.semantics.specs.Lowering.{lower}
use Rattle.semantics.specs.Pieces.{put, ◌⨾◌}
use Rattle.semantics.specs.Positions.{◌⊕◌, past}
use Rattle.semantics.specs.Regions.{argument_starts}
use Rattle.ast.specs.Header.{Settings}
use Rattle.semantics.specs.Run.{nothing_open}
use Rattle.semantics.specs.State.{Item, CallInfo, MemberRead, Flags, not_float_only, empty}

-- The program of a tree that fits has every index, target, count and text in its field, so its image is read back. Assumes nothing.

-- a node weighs no more than its bytes
held_enough : (v : Payload) → own ones + pay ones v + ones.i + ones.ar ≤ held v
unfolding pay
held_enough p_none = omega arith
held_enough _ = omega arith

pub total_bytes : (S : Settings) (t : Tree) → total (lowered S t) ≤ bytes t
total_bytes S t = let h = weighed ones held held_enough S t in omega arith

every_map : {A B : Type 0} (Q : A → Type 0) (R : B → Type 0) (f : A → B) → ((a : A) → Q a → R (f a)) → (xs : List A) → Every Q xs → Every R (map f xs)
every_map Q R f h [] q = tt
every_map Q R f h (x ∷ xs) q = (h x q.0, every_map Q R f h xs q.1)

-- code
settled : (b : ℕ) → b ≤ 65535 → (xs : List Item) → Every Fits xs → Every FitInstruction (map (settle b 0 0) xs)
settled b h = every_map Fits FitInstruction (settle b 0 0) (λ x q. q b h)

placed : (cs : List (List Item)) (b : ℕ) → b + sum (weigh 1) cs ≤ 65535 → Every (Every Fits) cs → Every FitInstruction (place_segments cs b)
unfolding place_segments
placed [] b h q = tt
placed (c ∷ cs) b h q = let e = past_weigh c b in every_append FitInstruction (map (settle b 0 0) c) (place_segments cs (past c b)) (settled b (omega arith) c q.0) (placed cs (past c b) (omega arith) q.1)

every_weak : {A : Type 0} (Q R : A → Type 0) → ((a : A) → Q a → R a) → (xs : List A) → Every Q xs → Every R xs
every_weak Q R h [] q = tt
every_weak Q R h (x ∷ xs) q = (h x q.0, every_weak Q R h xs q.1)

-- entries
fit_name : (n : Name) → FitText n → FitName n
fit_name n h = record { hash = h.hash; text = record { short = omega arith; each = h.bytes } }

fit_member : (r : MemberRead) → FitRead r → FitMember (member_entry r)
unfolding member_entry
fit_member r h = record {
  hash = h.own.hash;
  text = record { short = omega arith; each = (omega arith, h.own.bytes) };
  report = record { short = omega arith; each = (omega arith, h.last.bytes) };
}

-- a path is shorter than all of them
fit_stores : (xs : List MemberStore) → sum (store_weight ones) xs ≤ 65535 → Every (λ v. Below 2 (root_index v.root) × Every (Below 8) v.path) xs → Every FitStore xs
fit_stores [] h q = tt
fit_stores (v ∷ vs) h q = let e = weigh_length 1 v.path in (record { root = q.0.0; path = record { short = omega arith; each = q.0.1 } }, fit_stores vs (omega arith) q.1)

fit_calls : (b : ℕ) → b ≤ 65535 → (xs : List CallInfo) → argument_starts (map (place_call b) xs) ≤ 65535 → Every FitInfo xs → Every FitCall (map (place_call b) xs)
unfolding place_call
fit_calls b h [] l q = tt
fit_calls b h (i ∷ is) l q = (
  record {
    index = q.0.index;
    impl = q.0.impl;
    starts = record {
      short = omega arith;
      each = every_map (λ o. o ≤ 65535) (Below 4) (b ⊕◌) (λ o k. let e = shift b o in omega arith) (offsets_of i.offsets) q.0.offsets;
    };
  },
  fit_calls b h is (omega arith) q.1,
)

final_fit : (x : Bool) (f : Flags) → f.bits < 2048 → (cond x f (not_float_only f)).bits < 2048
final_fit true f h = h
final_fit false f h = not_fit f h

empty_good : Good empty
empty_good = record { pools = record { consts = tt; posts = tt; hashes = tt; names = tt; temps = tt; members = tt; stores = tt; calls = tt; segments = tt }; flags = omega arith }

module _ (S : Settings) (t : Tree) (f : TreeFits t) (short : bytes t ≤ 6137) where
  whole : Ranged [] ((lower S t).expr false ⨾ put end)
  whole = (tree_r S t f).expr false then_r put_r end (λ u. fits_end)

  done : Done (lowered S t)
  unfolding lowered
  done = let h = total_bytes S t in (whole.by nothing_open false 0 empty).ok tt (omega arith) empty_good

  deepest : AtMost (lowered S t).state.deepest (all 65535)
  unfolding lowered
  deepest = let h = total_bytes S t in (whole.by nothing_open false 0 empty).deep (all 65535) (omega arith) (omega arith)

  pub program_fits : FitProgram (program S t)
  unfolding program link sz final_flags
  program_fits =
      let x = lowered S t in
      let b = past x.code 0 in
      let z = sizes S t in
      let n = nodes_bytes t in
      let g = done.good.pools in
      let d = deepest in
      let k = total_bytes S t in
      let e = past_weigh x.code 0 in
      let fl = final_fit (in_float_loop x.state.deepest (length x.state.pools.temps)) x.state.flags done.good.flags in
      record {
        code = record { short = omega arith; each = every_append FitInstruction (map (settle 0 0 0) x.code) (place_segments x.state.pools.segments b) (settled 0 (omega arith) x.code done.fits) (placed x.state.pools.segments b (omega arith) g.segments) };
        consts = record { short = omega arith; each = g.consts };
        posts = record { short = omega arith; each = (record { scale = omega arith; offset = omega arith }, g.posts) };
        hashes = record { short = omega arith; each = g.hashes };
        names = record { short = omega arith; each = every_weak FitText FitName fit_name x.state.pools.names g.names };
        temps = record { short = omega arith; each = g.temps };
        members = record { short = omega arith; each = every_map FitRead FitMember member_entry fit_member x.state.pools.members g.members };
        stores = record { short = omega arith; each = fit_stores x.state.pools.stores (omega arith) g.stores };
        calls = record { short = omega arith; each = fit_calls b (omega arith) x.state.pools.calls (omega arith) g.calls };
        depths = counts_fit d;
        flags = omega arith;
      }

  pub image_short : length (image (program S t)) ≤ 85235
  image_short = let h = length_bytes S t done.good.pools.members in omega arith

  pub rest_fits : length (put_program (program S t) []) < 256 ^ 4
  rest_fits = let h = image_short in let i = image_length (program S t) in let j = program_length (program S t) in omega arith

  pub image_back : read (image (program S t)) ≡ program S t
  image_back = read_image (program S t) program_fits rest_fits
