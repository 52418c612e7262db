-- The measures of the cycle, and what each of its loops keeps. A level outweighs all that one node's rule does without going a level down.
use Rattle.std.proofs.Common.{◌≡◌, ◌+◌, ◌*◌}
use Rattle.std.specs.Iterator.Adapters.{zip_first, zip_second}
use Rattle.workspace.specs.Counts.{sum}
use Rattle.ast.specs.Node.{offset_at, count_at, first_at, next_at}
use Rattle.lowering.specs.Held.{Held}
use Rattle.builder.specs.Done.{held}
use Rattle.tree.specs.Nodes.{bytes}
use Rattle.lowering.specs.Rules as R
use Rattle.lowering.specs.Nodes.{over}
use Rattle.lowering.proofs.Rounds.{terms_behind, arguments_behind}
use Rattle.lowering.proofs.+expression.Given as goal

abbrev pub decreases-expr : goal.decreases-expr
decreases-expr l = 200000 * l.inside.levels

abbrev pub decreases-plain : goal.decreases-plain
decreases-plain l = 200000 * l.inside.levels + 90000

abbrev pub decreases-element : goal.decreases-element
decreases-element l = 200000 * l.inside.levels + 80000

abbrev pub decreases-chain : goal.decreases-chain
decreases-chain l = 200000 * l.inside.levels + 1

abbrev pub decreases-member : goal.decreases-member
decreases-member l = 200000 * l.inside.levels + 80000

abbrev pub decreases-assignment : goal.decreases-assignment
decreases-assignment l = 200000 * l.inside.levels + 80000

abbrev pub decreases-rhs : goal.decreases-rhs
decreases-rhs l = 200000 * l.inside.levels + 70000

abbrev pub decreases-binary : goal.decreases-binary
decreases-binary l = 200000 * l.inside.levels + 70000

abbrev pub decreases-paired : goal.decreases-paired
decreases-paired l = 200000 * l.inside.levels + 80000

abbrev pub decreases-logic : goal.decreases-logic
decreases-logic l = 200000 * l.inside.levels + 80000

abbrev pub decreases-ops : goal.decreases-ops
decreases-ops l = 200000 * l.inside.levels + 2 + l.m

abbrev pub decreases-par : goal.decreases-par
decreases-par l = 200000 * l.inside.levels + 80000

abbrev pub decreases-unary : goal.decreases-unary
decreases-unary l = 200000 * l.inside.levels + 80000

abbrev pub decreases-add : goal.decreases-add
decreases-add l = 200000 * l.inside.levels + 80000

abbrev pub decreases-terms : goal.decreases-terms
decreases-terms l = 200000 * l.inside.levels + 70000

abbrev pub decreases-bounds : goal.decreases-bounds
decreases-bounds l = 200000 * l.inside.levels + 80000

abbrev pub decreases-div : goal.decreases-div
decreases-div l = 200000 * l.inside.levels + 80000

abbrev pub decreases-host_math : goal.decreases-host_math
decreases-host_math l = 200000 * l.inside.levels + 80000

abbrev pub decreases-host : goal.decreases-host
decreases-host l = 200000 * l.inside.levels + 70000

abbrev pub decreases-pointer : goal.decreases-pointer
decreases-pointer l = 200000 * l.inside.levels + 80000

abbrev pub decreases-query : goal.decreases-query
decreases-query l = 200000 * l.levels + 80000

abbrev pub decreases-segs : goal.decreases-segs
decreases-segs l = 200000 * l.levels + 70000

abbrev pub decreases-coalesce : goal.decreases-coalesce
decreases-coalesce l = 200000 * l.inside.levels + 80000

abbrev pub decreases-alt : goal.decreases-alt
decreases-alt l = 200000 * l.inside.levels + 70000

abbrev pub decreases-conditional : goal.decreases-conditional
decreases-conditional l = 200000 * l.inside.levels + 80000

abbrev pub decreases-statements : goal.decreases-statements
decreases-statements l = 200000 * l.inside.levels + 80000

abbrev pub decreases-item : goal.decreases-item
decreases-item l = 200000 * l.inside.levels + 70001

abbrev pub decreases-ret : goal.decreases-ret
decreases-ret l = 200000 * l.inside.levels + 70000

abbrev pub decreases-repeat : goal.decreases-repeat
decreases-repeat l = 200000 * l.inside.levels + 80000

abbrev pub decreases-for_each : goal.decreases-for_each
decreases-for_each l = 200000 * l.inside.levels + 80000

abbrev pub decreases-each : goal.decreases-each
decreases-each l = 200000 * l.inside.levels + 70000

-- what the rounds left make of the builder is what all of them make of it at the start; it holds the words that it was lent, and the next node is of the image
abbrev pub invariant-terms-loop-term : goal.invariant-terms-loop-term
invariant-terms-loop-term l =
    let t = bytes l.node in
    let it = l.term-iterator in
    (◌≡◌ {A = Held} (over l.node l.inside.levels terms_behind l.node.at it.left it.next.at l.inside.looping (held l.b))
    (over l.node l.inside.levels terms_behind l.node.at l.m (next_at t (next_at t (first_at t l.node.at))) l.inside.looping (held l.initial.b)))
    × (l.b.words.ghost_name ≡ l.initial.b.words.ghost_name) × (it.next.image ≡ l.node.image)

abbrev pub invariant-host-loop-argument : goal.invariant-host-loop-argument
invariant-host-loop-argument l =
    let t = bytes l.node in
    let it = l.argument-iterator in
    (◌≡◌ {A = Held} (over l.node l.inside.levels arguments_behind l.node.at l.f l.k it.left it.next.at l.inside.looping (held l.b))
    (over l.node l.inside.levels arguments_behind l.node.at l.f l.k l.m (next_at t (first_at t l.node.at)) l.inside.looping (held l.initial.b)))
    × (l.b.words.ghost_name ≡ l.initial.b.words.ghost_name) × (it.next.image ≡ l.node.image)

abbrev pub invariant-segs-loop-i : goal.invariant-segs-loop-i
invariant-segs-loop-i l =
    let i = zip_first l.i-iterator in
    let it = zip_second l.i-iterator in
    (◌≡◌ {A = Held} (over l.a l.levels R.arguments l.base l.waiting it.left it.next.at (sum l.first i.start) (held l.b))
    (over l.a l.levels R.arguments l.base l.waiting l.m l.a.at l.first (held l.initial.b)))
    × (l.b.words.ghost_name ≡ l.initial.b.words.ghost_name) × (it.next.image ≡ l.a.image)
    × (i.start + it.left ≡ l.m) × (i.end ≡ l.m)

abbrev pub invariant-statements-loop-child : goal.invariant-statements-loop-child
invariant-statements-loop-child l =
    let t = bytes l.node in
    let it = l.child-iterator in
    (◌≡◌ {A = Held} (over l.node l.inside.levels R.statements_from (offset_at t l.node.at) it.left it.next.at l.inside.looping (held l.b))
    (over l.node l.inside.levels R.statements_from (offset_at t l.node.at) (count_at t l.node.at) (first_at t l.node.at) l.inside.looping (held l.initial.b)))
    × (l.b.words.ghost_name ≡ l.initial.b.words.ghost_name) × (it.next.image ≡ l.node.image)
