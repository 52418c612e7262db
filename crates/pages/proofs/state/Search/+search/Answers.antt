use mathlib.Core.Path.{refl, ◌∙◌}
use native.Mathlib.Omega.{arith}
use Rattle.std.proofs.Common.{rules, ◌≡◌, ◌≤◌, ◌+◌, length}
use Rattle.pages.specs.declared.order.Image.{Image}
use Rattle.pages.specs.Searched.{left_from}
use Rattle.pages.proofs.Turns.{none_yet, all_turns, nothing, none_left, roomy, full, passed, went, last_one, and_more, back}
use Rattle.pages.proofs.state.Search.+search.Goals.{on_page-then-i-self, on_page-else-i-self, search-then-steps-budget+then-size-self, search-else-steps-budget, search-else-steps-budget-via-then-steps-budget+else-size-self, search-else-steps-budget-via-else-steps-budget}
use Rattle.pages.proofs.state.Search.+search.Goals as goal

none : Image
none = record { size = 0; index = 0 }

pub on_page-returns : goal.on_page-returns
unfolding none
on_page-returns t c =
    let s = c.args.self.now in
    let f : s.count ≤ length s.images = search rules in
    let b = back s c.args.i c.args.p c.args.budget none (omega arith) f in
    elim c.if-i-self.branch [
      | on_page-then-i-self w ↦
          let same : c.put_back.new.self ≡ s.placed = c.put_back.ensures ∙ rw (w.self-is, w.note.ensures, c.there-there.ensures, c.put.ensures) b in
          rw w.steps-is (last_one s c.args.i c.args.p c.args.budget none (omega arith) f _ w.if-i-self.true (omega arith) (rw (same, w.self-is, w.note.ensures, c.put.ensures) refl))
      | on_page-else-i-self w ↦
          let same : c.put_back.new.self ≡ s.placed = c.put_back.ensures ∙ rw (w.self-is, w.search-steps.ensures.left, c.there-there.ensures, c.put.ensures) b in
          rw w.steps-is (and_more s c.args.i c.args.p c.args.budget none (omega arith) f w.search-steps.new.self _ _ (omega (arith, w.if-i-self.false)) (omega arith) (rw c.put.ensures at w.search-steps.ensures) (rw (same, w.self-is) refl))
    ]

pub search-loop-p-init : goal.search-loop-p-init
search-loop-p-init t c = none_yet c.args.self.now (left_from c.args.i c.args.self.now) c.args.budget

pub search-loop-p-preserved : goal.search-loop-p-preserved
unfolding none
search-loop-p-preserved t c =
    let s = c.args.self.now in
    let f : s.count ≤ length s.images = search rules in
    let l = c.loop-p.invariant in
    elim c.if-steps-budget.branch [
      | search-then-steps-budget+then-size-self w ↦
          let r = roomy s c.args.i c.loop-p.p c.args.budget none (omega arith) f c.loop-p.self _ w.from.result l.left w.from.ensures w.if-size-self.true in
          rw (w.self-is, w.steps-is) (went s c.loop-p.self _ _ _ _ _ _ l (rw r w.on_page-steps.ensures))
      | search-else-steps-budget w ↦
          elim w.else-steps-budget.branch [
            | search-else-steps-budget-via-then-steps-budget+else-size-self u ↦
                let r = full s c.args.i c.loop-p.p c.args.budget none (omega arith) f c.loop-p.self _ u.from.result l.left u.from.ensures u.if-size-self.false in
                rw (w.self-is, w.steps-is) (passed s c.loop-p.self _ _ _ _ l (rw r (nothing _ _)))
            | search-else-steps-budget-via-else-steps-budget u ↦ rw (w.self-is, w.steps-is) (passed s c.loop-p.self _ _ _ _ l (none_left _ _ _ _ (omega (arith, u.if-steps-budget.false))))
          ]
    ]

pub search-returns : goal.search-returns
search-returns t c =
    let s = c.args.self.now in
    let e : c.loop-p.p ≡ s.placed.opened + 1 = omega (arith, c.loop-p-test.false, c.loop-p.auto.p-end) in
    rw (all_turns (left_from c.args.i s) s.placed, ← e) c.loop-p.invariant
