use Rattle.ast.specs.Questions.{questions}
use Rattle.semantics.specs.Demand3.{Demand3, Agrees, tree_behaviour, Within}
use mathlib.Core.Path.{◌≡◌, refl, ap, sym, ◌∙◌, subst}
use mathlib.Core.Bool.{Bool}
use mathlib.Core.List.{List, [], ◌∷◌, reverse_aux}
use Prim.Native.Nat.{ℕ, zero, suc}
use native.Mathlib.Omega.{arith}
use Rattle.ast.specs.Node.{parse}
use Rattle.program.specs.Image.{read}
use Rattle.program.specs.Counts.{Counts}
use Rattle.program.specs.Program.{Program}
use Rattle.semantics.proofs.AcceptedTrees.{parsed_fits, parsed_short}
use Rattle.semantics.proofs.BoundedRules.{within}
use Rattle.semantics.proofs.Fitting.{image_back}
use Rattle.semantics.proofs.Linked.{correct}
use Rattle.semantics.specs.Demand3.{tree_behaviour, Within, Agrees, Demand3}
use Rattle.ast.specs.Header.{settings}
use Rattle.semantics.specs.Link.{lowered, link, program, refusal_of, program_image}
use Rattle.semantics.specs.Machine.{follow, start}
use Rattle.semantics.specs.Run.{Event, event, argument, behaviour}
use Rattle.semantics.specs.State.{first}
use Rattle.semantics.specs.Walk.{walked}

-- Demand 3, whole: for every image that questions 2 to 8 accept and every list of outcomes, the step machine over the bytes of the
-- program image does what the walk over the tree does, within the declared depths. Assumes nothing.

-- no refusal: neither of questions 2 to 4 nor of the lowering
pub first_none : (m n : ℕ) → first m n ≡ 0 → (m ≡ 0) × (n ≡ 0)
unfolding first
first_none zero n h = (refl, h)
first_none (suc m) n h = absurd (omega arith)

-- a log is as much within its bounds read forwards
within_onto : (m : Counts) (xs ys : List Event) → Within m xs → Within m ys → Within m (reverse_aux xs ys)
within_onto m [] ys h i = i
within_onto m (event a c ∷ xs) ys h i = within_onto m xs (event a c ∷ ys) h.1 (h.0, i)
within_onto m (argument j ∷ xs) ys h i = within_onto m xs (argument j ∷ ys) h i

-- of a program record that is read back from its image
agrees : (tree : List ℕ) → (lowered (settings tree) (parse tree)).state.refusal ≡ 0 → read (program_image tree) ≡ program (settings tree) (parse tree) → (outcomes : List Bool) → Agrees tree (program_image tree) outcomes
unfolding tree_behaviour behaviour program link
agrees tree h back outcomes =
    let S = settings tree in
    let t = parse tree in
    let c = correct S t h outcomes in
    record {
      runs = record { steps = c.steps; result = walked S t outcomes; stops = ap (λ (P : Program). follow P c.steps (start outcomes)) back ∙ c.comes; same = refl };
      bounded = subst (λ (P : Program). Within P.depths (tree_behaviour tree outcomes).log) (sym back) (within_onto (lowered S t).state.deepest (walked S t outcomes).log [] (within S t h outcomes) tt);
    }

pub demand3 : Demand3
unfolding refusal_of program_image
demand3 tree small accepted outcomes =
    let none = first_none (questions tree) _ accepted in
    let back = image_back (settings tree) (parse tree) (parsed_fits tree small none.0) (parsed_short tree small none.0) in
    agrees tree none.1 back outcomes
