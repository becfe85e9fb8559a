use Rattle.stored_slot.specs.Served.{Faulted}
use Rattle.stamp_core.specs.CoreSteps.{has_faults}
use Rattle.stamp_core.specs.Tickets.{held_reply}
use Rattle.stamp_core.proofs.FaultLemmas.{told}
use Rattle.stamp_core.proofs.ServeLemmas.{fetch_at_core}
use Rattle.stamp_core.proofs.cores.Core.fetch.Goals as goal

pub returns-clause-taken : goal.returns-clause-taken
returns-clause-taken g c =
    let old = g.W.Wire.faults c.args.wire.now in
    let new = g.W.Wire.faults c.fetch-fetched.new.wire in
    fetch_at_core (Faulted old new) (has_faults old new) (told old new) (record { slots = c.self.inside.slots.items; points = c.self.inside.spans; tickets = c.self.inside.tickets }) c.args.self.now c.self.view_is c.args.ticket
    c.fetch-fetched.result (held_reply c.fetch-fetched.new.self c.args.ticket) c.fetch-fetched.new.self c.answered.result c.fetch-fetched.ensures.fetched c.fetch-fetched.ensures.left c.answered.ensures
