use Rattle.std.proofs.Common.{arith}
use Rattle.codegen.proofs.Outcome.{all_bytes, refused_late_as, accepted_as}
use Rattle.codegen.proofs.generate.Goals as goal

pub returns-in-Some : goal.returns-in-Some
returns-in-Some c =
    let a = c.args in
    refused_late_as a.tree.now a.ws.now a.out.now
    (all_bytes a.tree.now (λ i l. omega (arith, c.type_inv.tree i)))
    c.requires (omega (arith, c.told-ws)) c.lower-s.result c.lower-s.new.ws c.in-Some.why c.lower-s.ensures c.in-Some.is

pub returns : goal.returns
returns c =
    let a = c.args in
    accepted_as a.tree.now a.ws.now a.out.now
    (all_bytes a.tree.now (λ i l. omega (arith, c.type_inv.tree i)))
    c.requires (omega (arith, c.told-ws))
    c.lower-s.result c.lower-s.new.ws c.sections-c.result c.finish.result c.finish.new.out
    c.lower-s.ensures c.in_default.is c.sections-c.ensures c.finish.ensures.0 c.finish.ensures.1
