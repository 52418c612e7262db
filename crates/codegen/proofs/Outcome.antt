-- What is written and answered of a lowered tree is what the nine questions say. Assumes nothing.
use Rattle.std.proofs.Common.{rules, None, Some, Result, Ok, Err, ◌≡◌, refl, sym, ap, subst, ◌∙◌, Bool, true, false, cond, List, [], ◌∷◌, ◌++◌, ℕ, zero, suc, ◌≤◌, ◌<◌, arith, length, get_or, take, drop, replicate, leb, le-leb}
use Rattle.answers.specs.Refusals.{number_of, number_of_first}
use Rattle.answers.specs.declared.refusals.Refusal.{Refusal}
use Rattle.answers.specs.declared.refusals.Refusal.TheVariants.{SmallWorkspace, SmallOutput}
use lib.Seq.{take-append_seam}
use Rattle.wire.specs.Bytes.{Bytes}
use Rattle.ast.specs.Node.{parse}
use Rattle.ast.specs.Questions.{questions}
use Rattle.semantics.specs.State.{first}
use Rattle.semantics.specs.Answer as S
use Rattle.ast.specs.Header.{settings}
use Rattle.semantics.specs.Link.{program, refusal_of, program_image}
use Rattle.semantics.specs.Demand3.{Agrees}
use Rattle.semantics.proofs.Demand3.{demand3}
use Rattle.semantics.proofs.Fitting.{program_fits, rest_fits}
use Rattle.semantics.proofs.AcceptedTrees.{parsed_fits, parsed_short}
use Rattle.card.specs.Image.{image_of, laid, answer_of}
use Rattle.card.proofs.Bridge.{image_is}
use Rattle.card.specs.declared.Sections.{Sections}
use Rattle.lowering.specs.Held as B
use Rattle.lowering.specs.Held.{Held}
use Rattle.lowering.specs.Rules as R
use Rattle.representation.specs.Sections.{sections_of}
use Rattle.representation.proofs.Whole.{holds, refusal_is}
use Rattle.codegen.specs.Build.{shown, zeros, Built, Asked}

-- a list whose every element is below 256 is one of bytes
pub all_bytes : (s : List ℕ) → ((i : ℕ) → i < length s → get_or s i 0 < 256) → Bytes s
all_bytes [] h = tt
all_bytes (x ∷ s) h = (h 0 (omega arith), all_bytes s (λ i l. h (suc i) (omega arith)))

-- ---- questions 2 to 4

-- no refusal has the number of acceptance
refuses : (why : Refusal) → number_of why ≡ 0 → ⊥
refuses SmallWorkspace e = omega (arith, e)
refuses why e = omega (arith, e)

pub refused_early : (tree out : List ℕ) (r : ℕ) → r ≡ questions tree → (r ≡ 0 → ⊥) → Asked tree out out (record { number = r; length = 0 })
unfolding refusal_of first S.answer_from S.written
refused_early tree out zero e n = absurd (n refl)
refused_early tree out (suc r) e n = record { answered = rw (← e); output = refl }

pub refused_early_as : (tree out : List ℕ) (why : Refusal) → number_of why ≡ questions tree → Asked tree out out (shown (Err why))
refused_early_as tree out why e = refused_early tree out (number_of why) e (refuses why)

-- ---- questions 5 to 8

module _ (tree words out : List ℕ) (small : Bytes tree) (passed : questions tree ≡ 0) (enough : 16384 ≤ length words) where
  refusal : refusal_of tree ≡ number_of_first (R.lowered tree words).0.refusal
  unfolding refusal_of first
  refusal = rw passed (sym (refusal_is tree words small passed enough))

  pub refused_late : (r : ℕ) → number_of_first (R.lowered tree words).0.refusal ≡ r → (r ≡ 0 → ⊥) → Asked tree out out (record { number = r; length = 0 })
  unfolding S.answer_from S.written
  refused_late zero e n = absurd (n refl)
  refused_late (suc r) e n = record { answered = rw (refusal ∙ e); output = refl }

  pub refused_late_as : (s : B.State) (w : List ℕ) (why : Refusal) → ◌≡◌ {A = Held} (s, w) (R.lowered tree words) → s.refusal ≡ Some why → Asked tree out out (shown (Err why))
  refused_late_as s w why e z = refused_late (number_of why) (ap number_of_first (sym (ap (λ (h : Held). h.0.refusal) e) ∙ z)) (refuses why)

  -- ---- question 9, and the image

  image : image_of tree (R.lowered tree words).1 (sections_of (R.lowered tree words).0) ≡ program_image tree
  unfolding program_image
  image =
      let f = program_fits (settings tree) (parse tree) (parsed_fits tree small passed) (parsed_short tree small passed) in
      let n = rest_fits (settings tree) (parse tree) (parsed_fits tree small passed) (parsed_short tree small passed) in
      image_is tree (R.lowered tree words).1 (sections_of (R.lowered tree words).0) (program (settings tree) (parse tree)) (holds tree words small passed enough) f n

  finished : (b : Bool) (card : List ℕ) (a : Result ℕ Refusal) (out' : List ℕ) → a ≡ cond b (Ok (length card)) (Err SmallOutput) → out' ≡ cond b (card ++ drop (length card) out) out
      → (shown a ≡ cond b (record { number = 0; length = length card }) (record { number = 9; length = 0 })) × (out' ≡ S.written (shown a).number card out)
  unfolding S.written
  finished true card a out' e q = search rules
  finished b card a out' e q = search rules

  pub accepted : (R.lowered tree words).0.refusal ≡ None → (a : Result ℕ Refusal) (out' : List ℕ) → a ≡ answer_of (image_of tree (R.lowered tree words).1 (sections_of (R.lowered tree words).0)) out → out' ≡ laid (image_of tree (R.lowered tree words).1 (sections_of (R.lowered tree words).0)) out
      → Asked tree out out' (shown a)
  unfolding S.answer_from answer_of laid
  accepted z a out' e q =
      let c = program_image tree in
      let e' : a ≡ answer_of c out = e ∙ ap (λ (x : List ℕ). answer_of x out) image in
      let q' : out' ≡ laid c out = q ∙ ap (λ (x : List ℕ). laid x out) image in
      let d = finished (leb (length c) (length out)) c a out' e' q' in
      record { answered = rw (refusal ∙ ap number_of_first z) d.0; output = d.1 }

  -- the same of what the calls gave
  pub accepted_as : (s : B.State) (w : List ℕ) (c : Sections) (a : Result ℕ Refusal) (out' : List ℕ) → ◌≡◌ {A = Held} (s, w) (R.lowered tree words) → s.refusal ≡ None → c ≡ sections_of s → a ≡ answer_of (image_of tree w c) out → out' ≡ laid (image_of tree w c) out → Asked tree out out' (shown a)
  accepted_as s w c a out' e z k f q =
      let i : image_of tree w c ≡ image_of tree (R.lowered tree words).1 (sections_of (R.lowered tree words).0) = ap (image_of tree w) k ∙ ap (λ (h : Held). image_of tree h.1 (sections_of h.0)) e in
      accepted (sym (ap (λ (h : Held). h.0.refusal) e) ∙ z) a out' (f ∙ ap (λ (x : List ℕ). answer_of x out) i) (q ∙ ap (λ (x : List ℕ). laid x out) i)

-- ---- the whole

-- an accepted answer is a program image's length, and no question refused
accepts : (r n room : ℕ) → (S.answer_from r n room).number ≡ 0 → (r ≡ 0) × ((S.answer_from r n room).length ≡ n)
unfolding S.answer_from
accepts zero n room h = (refl, go (leb n room) h)
  where
    go : (b : Bool) → (cond {A = S.Answer} b (record { number = 0; length = n }) (record { number = 9; length = 0 })).number ≡ 0 → (cond {A = S.Answer} b (record { number = 0; length = n }) (record { number = 9; length = 0 })).length ≡ n
    go true h = refl
    go false h = absurd (omega arith)
accepts (suc r) n room h = absurd (omega arith)

taken : (k : ℕ) (card out : List ℕ) → k ≡ 0 → take (length card) (S.written k card out) ≡ card
unfolding S.written
taken zero card out e = take-append_seam card (drop (length card) out)
taken (suc k) card out e = absurd (omega arith)

-- a workspace of 16,384 words, cleared
pub all_zero : (n : ℕ) → n ≡ 16384 → replicate n 0 ≡ zeros
unfolding zeros
all_zero n e = ap (λ k. replicate k 0) e

after_zeros : (words : List ℕ) → 16384 ≤ length words → zeros ++ drop 16384 words ≡ S.workspace_after words
unfolding zeros S.workspace_after
after_zeros words h = rw (le-leb 16384 (length words) h)

pub built : (tree words out words' out' : List ℕ) (a : S.Answer) → Bytes tree → 16384 ≤ length words → Asked tree out out' a → words' ≡ zeros ++ drop 16384 words → Built tree words out words' out' a
unfolding S.answer S.output_after
built tree words out words' out' a small enough h w =
    let b = le-leb 16384 (length words) enough in
    record {
      answered = rw b h.answered;
      output = rw b (h.output ∙ ap (λ (x : S.Answer). S.written x.number (program_image tree) out) h.answered);
      workspace = w ∙ after_zeros words enough;
      agrees = λ z outcomes.
          let n = accepts (refusal_of tree) (length (program_image tree)) (length out) (ap (λ (x : S.Answer). x.number) (sym h.answered) ∙ z) in
          let l : a.length ≡ length (program_image tree) = ap (λ (x : S.Answer). x.length) h.answered ∙ n.1 in
          let t : take a.length out' ≡ program_image tree = ap (λ (x : ℕ). take x out') l ∙ ap (λ (x : List ℕ). take (length (program_image tree)) x) h.output ∙ taken a.number (program_image tree) out z in
          subst (λ (x : List ℕ). Agrees tree x outcomes) (sym t) (demand3 tree small n.0 outcomes);
    }

-- question 1
pub too_short : (tree words out : List ℕ) → length words < 16384 → Built tree words out words out (shown (Err SmallWorkspace))
unfolding S.answer S.output_after S.workspace_after S.written
too_short tree words out h = search rules
