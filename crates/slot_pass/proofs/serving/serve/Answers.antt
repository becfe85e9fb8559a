use Rattle.slot_pass.proofs.AuditLemmas.{audits_settled, serves_audited}
use Rattle.slot_pass.proofs.serving.serve.Goals as goal

pub returns-in-Ok-clause-answered : goal.returns-in-Ok-clause-answered
returns-in-Ok-clause-answered g c =
    serves_audited c.args.slot.now c.args.call.now.request.now c.args.call.now.moment _ c.serve_audited.result.answer c.serve_audited.result.entry c.serve_audited.new.self c.serve_audited.ensures.served

pub returns-in-Ok-clause-audited : goal.returns-in-Ok-clause-audited
returns-in-Ok-clause-audited g c =
    audits_settled c.args.slot.now c.args.call.now.request.now c.args.call.now.moment _ c.serve_audited.result.answer c.serve_audited.result.entry c.serve_audited.new.self c.serve_audited.ensures.served
