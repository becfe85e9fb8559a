use Rattle.stored_slot.specs.Served.{Faulted}
use Rattle.stamp_core.specs.CoreSteps.{has_faults}
use Rattle.stamp_core.specs.Tending.{care_answer}
use Rattle.stamp_core.proofs.FaultLemmas.{told}
use Rattle.stamp_core.proofs.TendLemmas.{tend_at_core}
use Rattle.stamp_core.proofs.cores.Core.tend.Goals as goal

pub returns-clause-taken : goal.returns-clause-taken
returns-clause-taken g c =
    let old = g.W.Wire.faults c.args.wire.now in
    let new = g.W.Wire.faults c.tend.new.wire in
    tend_at_core (Faulted old new) (has_faults old new) (told old new) (record { slots = c.self.inside.slots.items; points = c.self.inside.spans; tickets = c.self.inside.tickets }) c.args.self.now c.self.view_is c.args.slot
    c.args.care (care_answer c.tend.result) c.tend.new.slots.items c.tend.ensures.tended
