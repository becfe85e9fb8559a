use Rattle.stored_slot.specs.Served.{Faulted}
use Rattle.stamp_core.specs.CoreSteps.{has_faults}
use Rattle.stamp_core.proofs.FaultLemmas.{told}
use Rattle.stamp_core.proofs.SplitLemmas.{split_at_core}
use Rattle.stamp_core.proofs.cores.Core.split.Goals as goal

pub returns-clause-taken : goal.returns-clause-taken
returns-clause-taken g c =
    let old = g.W.Wire.faults c.args.wire.now in
    let new = g.W.Wire.faults c.split.new.wire in
    split_at_core (Faulted old new) (has_faults old new) (told old new) (record { slots = c.self.inside.slots.items; points = c.self.inside.spans; tickets = c.self.inside.tickets }) c.args.self.now c.self.view_is c.self.invariant
    c.args.slot c.args.middle.now c.split.result c.split.new.slots.items c.split.new.spans c.split.ensures.split
