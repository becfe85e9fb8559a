use Rattle.std.proofs.Common.{ap}
use Rattle.http_front.specs.declared.item.PartialItem.TheVariants.{InBody}
use Rattle.http_front.specs.declared.item.Stage.TheVariants.{Reading}
use Rattle.http_front.proofs.link.judge_stage.Goals as goal

pub returns-in-Reading-InBody-clause-same : goal.returns-in-Reading-InBody-clause-same
returns-in-Reading-InBody-clause-same g c = (
  c.judge_if_long-begun.result.admission,
  rw (c.in-Reading-InBody.is, c.in-Reading-InBody.field-0-is) (ap (λ begun. Reading (InBody begun)) c.judge_if_long-begun.ensures.same),
)
