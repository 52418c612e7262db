use Rattle.std.proofs.Common.{arith, rules}
use Rattle.card.proofs.Whole.{image_length}
use Rattle.card.proofs.Starts.{total, headed}
use Rattle.card.proofs.Lowered.image.Goals as goal

pub returns : goal.returns
returns c =
    let l = c.args.self in
    let tree = l.tree.now in
    let ws = l.ws.now in
    let n = total tree ws l.sections c.sums-s.ensures.0 in
    let size = image_length tree ws l.sections in
    let laid = headed tree ws l.sections (omega (arith, n, size)) (omega arith) c.put.ensures.wrote c.put-2.ensures.wrote c.body.ensures.wrote in
    search rules
