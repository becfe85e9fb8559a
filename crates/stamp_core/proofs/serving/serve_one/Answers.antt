use Rattle.stored_slot.specs.Served.{Faulted}
use Rattle.stamp_core.proofs.AuditLemmas.{starved_too}
use Rattle.stamp_core.proofs.serving.serve_one.Goals as goal

pub returns-in-Err-clause-audited : goal.returns-in-Err-clause-audited
returns-in-Err-clause-audited g c =
    starved_too (Faulted (g.W.Wire.faults c.args.wire.now) (g.W.Wire.faults c.args.wire.now)) c.args.slots.now.items c.args.spans.now c.args.call.now.request.now c.args.call.now.moment
