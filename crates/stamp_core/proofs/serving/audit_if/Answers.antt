use Rattle.stamp_core.proofs.AuditLemmas.{unaudited}
use Rattle.stamp_core.proofs.serving.audit_if.Goals as goal

pub returns-clause-served : goal.returns-clause-served
returns-clause-served g c =
    unaudited c.args.slot.now c.serve_read-answer.new.self c.args.call.now.request.now c.args.call.now.moment _ c.serve_read-answer.result c.serve_read-answer.ensures.served
