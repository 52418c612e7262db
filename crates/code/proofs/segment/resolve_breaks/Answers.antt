use native.Mathlib.Omega.{arith}
use mathlib.Core.Path.{◌≡◌, refl, ◌∙◌}
use Prim.Native.Nat.{◌-◌, ◌*◌, min}
use Rattle.code.proofs.Idle.{idle_range}
use Rattle.code.proofs.Runs.{aim_more}
use Rattle.code.specs.Segments.{range_resolved}
use Rattle.code.proofs.segment.resolve_breaks.Goals as goal
use Rattle.code.proofs.segment.resolve_breaks.Goals.{then-not-eight_idle, else-not-eight_idle}

pub loop-k-init : goal.loop-k-init
unfolding range_resolved
loop-k-init c =
    let none : min 0 c.from-all.result ≡ 0 = omega arith in
    rw none refl

pub loop-k-preserved : goal.loop-k-preserved
loop-k-preserved c =
    let inv = c.loop-k.invariant in
    elim c.if-not-eight_idle.branch [
      | then-not-eight_idle w ↦ aim_more _ _ _ _ _ _ _ _ inv (w.ws-is ∙ w.resolve_each.ensures) (omega arith) (omega arith)
      | else-not-eight_idle w ↦
          let idle = c.eight_idle.ensures w.if-not-eight_idle.false in
          let passed = idle_range _ _ _ _ (min (c.from-all.result - c.loop-k.k * 8) 8) (λ j h. idle.1 j (omega arith)) in
          aim_more _ _ _ _ _ _ _ _ inv (w.ws-is ∙ passed) (omega arith) (omega arith)
    ]
