use mathlib.Core.Bool.{Bool, true, false}
use mathlib.Core.List.{List, [], ◌∷◌, map}
use Prim.Native.Nat.{ℕ, suc, ◌≤◌}
use native.Mathlib.Omega.{arith}
use Rattle.program.specs.Fits.{Every}
use Rattle.program.specs.Image.{word_of}
use Rattle.program.specs.Instruction.{Guard, EachNext, Instruction, guard, loop_end, end, jump, loop_begin, loop_check, each_begin, each_next}
use Rattle.program.specs.Counts.{Counts}
use Rattle.semantics.proofs.Costs.{weigh_map, weigh_append}
use Rattle.semantics.proofs.Ranges.{Fits, Aims, Under, Ranged, past_weigh, shift, Up, every_append, flushed}
use Rattle.semantics.specs.Link.{relocate, settle}
use Rattle.semantics.specs.Pieces.{Lowering, guarded, fork, aim, counted_loop, eached}
use Rattle.semantics.specs.Positions.{past}
use Rattle.semantics.specs.Run.{opens}
use Rattle.semantics.specs.State.{Item, instr, to_cleanup, to_check, raise}

-- Guards, forks and loops: their targets are within the segment. Assumes nothing.

-- jumps
pub fits_jump : Aims jump
unfolding settle relocate word_of
fits_jump t h b i = let e = shift b t in omega arith

module _ {is : List ℕ} where
  pub guarded_r : (g : Guard) (up : Counts → Counts) → Up up → (Under is → Aims (guard g)) → {f : Lowering} → Ranged is f → Ranged is (guarded g up f)
  guarded_r g up k m {f} a = flushed λ c n s.
      let t = raise (up c) s in
      let x = f (up c) false (suc n) t in
      let h = a.by (up c) false (suc n) t in
      let j = k.by c in
      let e = past_weigh x.code (suc n) in
      record {
        grows = omega arith;
        deep = λ o r d. h.deep o (omega arith) (omega arith);
        ok = λ u l q. let v = h.ok u (omega arith) q in record { good = v.good; fits = (m u (past x.code (suc n)) (omega arith), v.fits) };
      }

  pub fork_r : (i j : ℕ → Instruction) (up : Counts → Counts) → Up up → Aims i → Aims j → {f g : Lowering} → Ranged is f → Ranged is g → Ranged is (fork i j up f g)
  fork_r i j up k fi fj {f} {g} a b = flushed λ c n s.
      let t = raise (up c) s in
      let x = f (up c) false (suc n) t in
      let p = past x.code (suc n) in
      let y = g c false (suc p) x.state in
      let z = instr (j (past y.code (suc p))) ∷ y.code in
      let h = a.by (up c) false (suc n) t in
      let o = b.by c false (suc p) x.state in
      let q = k.by c in
      let w = weigh_append 1 x.code z in
      let e = past_weigh x.code (suc n) in
      let d = past_weigh y.code (suc p) in
      record {
        grows = omega arith;
        deep = λ m r d. o.deep m (omega arith) (h.deep m (omega arith) (omega arith));
        ok = λ u l q.
            let v = h.ok u (omega arith) q in
            let v' = o.ok u (omega arith) v.good in
            record { good = v'.good; fits = (fi (suc p) (omega arith), every_append Fits x.code z v.fits (fj (past y.code (suc p)) (omega arith), v'.fits)) };
      }

-- a loop aims its breaks and continues
aimed : (check_at cleanup_at : ℕ) → check_at ≤ 65535 → cleanup_at ≤ 65535 → (xs : List Item) → Every Fits xs → Every Fits (map (aim check_at cleanup_at) xs)
aimed k l h i [] q = tt
aimed k l h i (instr x ∷ xs) q = (q.0, aimed k l h i xs q.1)
aimed k l h i (to_cleanup ∷ xs) q = (fits_jump l i, aimed k l h i xs q.1)
aimed k l h i (to_check ∷ xs) q = (fits_jump k h, aimed k l h i xs q.1)

fits_check : Aims loop_check
unfolding settle relocate word_of
fits_check t h b i = let e = shift b t in omega arith

fits_begin : Aims loop_begin
unfolding settle relocate word_of
fits_begin t h b i = let e = shift b t in omega arith

fits_each : Aims each_begin
unfolding settle relocate word_of
fits_each t h b i = let e = shift b t in omega arith

fits_loop_end : Fits (instr loop_end)
unfolding settle relocate word_of
fits_loop_end b h = omega arith

pub fits_end : Fits (instr end)
unfolding settle relocate word_of
fits_end b h = omega arith

open_by : (x : Bool) → Up (opens x)
unfolding opens
open_by true = record { by = λ c. omega arith }
open_by false = record { by = λ c. omega arith }

module _ {is : List ℕ} where
  pub looped_r : {f : Lowering} → Ranged is f → Ranged is (counted_loop f)
  looped_r {f} a = flushed λ c n s.
      let t = raise (opens true c) s in
      let x = f (opens true c) false (suc n) t in
      let k = past x.code (suc n) in
      let z = instr (loop_check (suc n)) ∷ instr loop_end ∷ [] in
      let h = a.by (opens true c) false (suc n) t in
      let j = (open_by true).by c in
      let e = past_weigh x.code (suc n) in
      let m = weigh_map 1 (aim k (suc k)) x.code in
      let w = weigh_append 1 (map (aim k (suc k)) x.code) z in
      record {
        grows = omega arith;
        deep = λ o r d. h.deep o (omega arith) (omega arith);
        ok = λ u l q.
            let v = h.ok u (omega arith) q in
            let b = aimed k (suc k) (omega arith) (omega arith) x.code v.fits in
            record { good = v.good; fits = (fits_begin (suc (suc k)) (omega arith), every_append Fits (map (aim k (suc k)) x.code) z b (fits_check (suc n) (omega arith), (fits_loop_end, tt))) };
      }

  pub eached_r : (i : EachNext) → (Under is → Aims (each_next i)) → {f : Lowering} → Ranged is f → Ranged is (eached i f)
  eached_r i fi {f} a = flushed λ c n s.
      let t = raise (opens false c) s in
      let x = f (opens false c) false (suc (suc n)) t in
      let k = past x.code (suc (suc n)) in
      let z = instr (jump (suc n)) ∷ instr loop_end ∷ [] in
      let h = a.by (opens false c) false (suc (suc n)) t in
      let j = (open_by false).by c in
      let e = past_weigh x.code (suc (suc n)) in
      let m = weigh_map 1 (aim (suc n) (suc k)) x.code in
      let w = weigh_append 1 (map (aim (suc n) (suc k)) x.code) z in
      record {
        grows = omega arith;
        deep = λ o r d. h.deep o (omega arith) (omega arith);
        ok = λ u l q.
            let v = h.ok u (omega arith) q in
            let b = aimed (suc n) (suc k) (omega arith) (omega arith) x.code v.fits in
            record { good = v.good; fits = (fits_each (suc (suc k)) (omega arith), (fi u (suc k) (omega arith), every_append Fits (map (aim (suc n) (suc k)) x.code) z b (fits_jump (suc n) (omega arith), (fits_loop_end, tt)))) };
      }
