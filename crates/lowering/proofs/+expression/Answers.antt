use mathlib.Core.Path.{◌∙◌, refl}
use Rattle.lowering.proofs.Rounds.{call_all}
use Rattle.lowering.proofs.+expression.Goals as goal

pub query-returns : goal.query-returns
query-returns t c = (
  call_all _ _ _ _ _ _ c.payload_of-p.ensures c.in-Query.is c.count-count.ensures c.query_flags.ensures.0 c.begin_call-call.ensures.0 refl
      (rw c.first.ensures.0 at c.segs.ensures.0) c.from.ensures c.put_post.ensures.0,
  c.put_post.ensures.1 ∙ c.segs.ensures.1 ∙ c.begin_call-call.ensures.1 ∙ c.query_flags.ensures.1,
)
