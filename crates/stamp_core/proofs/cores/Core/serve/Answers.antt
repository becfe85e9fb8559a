use Rattle.stored_rows.proofs.CountLemmas.{grows_twice}
use Rattle.stored_slot.specs.Served.{Faulted}
use Rattle.stamp_core.specs.CoreSteps.{has_faults}
use Rattle.stamp_core.proofs.FaultLemmas.{told_after, told_before}
use Rattle.stamp_core.proofs.ServeLemmas.{serve_at_core}
use Rattle.stamp_core.proofs.cores.Core.serve.Goals as goal

pub returns-clause-taken : goal.returns-clause-taken
returns-clause-taken g c =
    let old = g.W.Wire.faults c.args.wire.now in
    let mid = g.W.Wire.faults c.answer_one-answer.new.wire in
    let new = g.W.Wire.faults c.tell.new.wire in
    serve_at_core (Faulted old mid) (Faulted mid new) (has_faults old new) (told_before old mid new c.tell.ensures.grown) (told_after old mid new c.answer_one-answer.ensures.grown)
    (record { slots = c.self.inside.slots.items; points = c.self.inside.spans; tickets = c.self.inside.tickets }) c.args.self.now c.self.view_is c.self.invariant
    c.args.request.now c.args.moment c.answer_one-answer.result c.answer_one-answer.new.slots.items c.tell.result c.tell.new.tickets c.answer_one-answer.ensures.served c.tell.ensures.told

pub returns-clause-grown : goal.returns-clause-grown
returns-clause-grown g c =
    grows_twice (g.W.Wire.faults c.args.wire.now) (g.W.Wire.faults c.answer_one-answer.new.wire) (g.W.Wire.faults c.tell.new.wire) c.answer_one-answer.ensures.grown c.tell.ensures.grown
