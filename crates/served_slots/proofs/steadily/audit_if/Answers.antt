use Rattle.served_slots.proofs.SteadyLemmas.{unaudited}
use Rattle.served_slots.proofs.steadily.audit_if.Goals as goal

pub returns-clause-served : goal.returns-clause-served
returns-clause-served g c =
    unaudited c.args.slot.now c.args.ready.now.request.now c.args.ready.now.moment _ c.serve_read-answer.result c.serve_read-answer.new.self c.serve_read-answer.ensures.served
