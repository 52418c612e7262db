use Prim.Native.Nat.{ℕ, ◌+◌, ◌*◌, ◌≤◌, ◌<◌}
use lib.ListN.{get_or}
use Rattle.code.proofs.segment.eight_idle.Given as goal

abbrev pub invariant-loop-k : goal.invariant-loop-k
invariant-loop-k l = (k : ℕ) → k < l.k → get_or l.ws (l.at * 2 + 2 * k) 0 ≤ l.fronts
