use Rattle.stored_slot.proofs.AuditLemmas.{audits_serve}
use Rattle.slot_pass.proofs.AuditLemmas.{audits_settled}
use Rattle.stamp_locks.proofs.locked.Locked.serve.Goals as goal

pub returns-then-ready-clause-served : goal.returns-then-ready-clause-served
returns-then-ready-clause-served g c =
    audits_serve c.args.self.now.slot c.args.ready.now.request.now c.args.ready.now.moment _ c.serve_audited.result.answer c.serve_audited.result.entry c.serve_audited.new.self c.serve_audited.ensures.served

pub returns-then-ready-clause-audited : goal.returns-then-ready-clause-audited
returns-then-ready-clause-audited g c =
    audits_settled c.args.self.now.slot c.args.ready.now.request.now c.args.ready.now.moment _ c.serve_audited.result.answer c.serve_audited.result.entry c.serve_audited.new.self c.serve_audited.ensures.served
