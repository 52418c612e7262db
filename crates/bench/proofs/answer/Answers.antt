use Rattle.std.proofs.Common.{length, arith, ap, ◌∙◌}
use Rattle.semantics.specs.Answer as S
use Rattle.codegen.proofs.Outcome.{all_bytes}
use Rattle.bench.proofs.Asked.{answered, within, closed, numbered}
use Rattle.bench.proofs.answer.Goals as goal

pub returns : goal.returns
returns c =
    let tree = c.args.tree.now in
    let room = length c.args.out.now in
    let a = answered _ _ _ _ _ _ c.build.ensures c.workspace-ws.ensures in
    record {
      answered = a.0;
      output = a.1;
      within = rw a.0 (within tree room);
      closed = rw a.0 (closed tree room);
      number = λ r. ap (λ (b : S.Answer). b.number) a.0 ∙ numbered tree (all_bytes tree (λ i l. omega (arith, c.type_inv.tree i))) room r;
    }
