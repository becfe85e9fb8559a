use Rattle.stored_slot.specs.Served.{Faulted}
use Rattle.stamp_core.proofs.AuditLemmas.{served_too}
use Rattle.stamp_core.proofs.serving.answer_one.Goals as goal

pub returns-clause-served : goal.returns-clause-served
returns-clause-served g c =
    served_too c.args.slots.now.items c.args.spans.now c.args.call.now.request.now c.args.call.now.moment (Faulted (g.W.Wire.faults c.args.wire.now) (g.W.Wire.faults c.serve_one-answer.new.wire))
    c.serve_one-answer.result.answer c.serve_one-answer.result.entry c.serve_one-answer.new.slots.items c.serve_one-answer.ensures.audited
