use Rattle.std.proofs.Common.{refl}
use Rattle.stored_slot.specs.Served.{Faulted}
use Rattle.stamp_core.proofs.TicketLemmas.{ended_fetch, ended_list, failed_fetch, failed_list, none_past}
use Rattle.stamp_core.proofs.open_tickets.OpenTickets.fetch.Goals as goal

pub returns-then-number-self-clause-fetched : goal.returns-then-number-self-clause-fetched
returns-then-number-self-clause-fetched g c = (none_past c.self.inside.open c.self.inside.given c.args.self.now c.args.number c.self.view_is c.if-number-self.true, refl)

pub returns-in-Ok-clause-fetched : goal.returns-in-Ok-clause-fetched
returns-in-Ok-clause-fetched g c =
    ended_fetch c.self.inside.open c.fetch_place.new.tree c.self.inside.given c.args.number c.args.self.now c.self.view_is c.if-number-self.false c.in-Ok.ensures.others
    (Faulted (g.W.Wire.faults c.args.wire.now) (g.W.Wire.faults c.fetch_place.new.wire)) c.remove.new.self c.in-Ok.reply c.in-Ok.ensures.fetched c.remove.ensures.updates

pub returns-in-Ok-clause-left : goal.returns-in-Ok-clause-left
returns-in-Ok-clause-left g c =
    ended_list c.self.inside.open c.fetch_place.new.tree c.self.inside.given c.args.number c.args.self.now c.self.view_is c.if-number-self.false c.in-Ok.ensures.others
    (Faulted (g.W.Wire.faults c.args.wire.now) (g.W.Wire.faults c.fetch_place.new.wire)) c.remove.new.self c.in-Ok.reply c.in-Ok.ensures.fetched c.remove.ensures.updates

pub returns-in-Err-clause-fetched : goal.returns-in-Err-clause-fetched
returns-in-Err-clause-fetched g c =
    failed_fetch c.self.inside.open c.fetch_place.new.tree c.self.inside.given c.args.number c.args.self.now c.self.view_is c.if-number-self.false c.in-Err.ensures.others
    (Faulted (g.W.Wire.faults c.args.wire.now) (g.W.Wire.faults c.fetch_place.new.wire)) c.in-Err.fault c.in-Err.ensures.fetched

pub returns-in-Err-clause-left : goal.returns-in-Err-clause-left
returns-in-Err-clause-left g c =
    failed_list c.self.inside.open c.fetch_place.new.tree c.self.inside.given c.args.number c.args.self.now c.self.view_is c.if-number-self.false c.in-Err.ensures.others
    (Faulted (g.W.Wire.faults c.args.wire.now) (g.W.Wire.faults c.fetch_place.new.wire)) c.in-Err.fault c.in-Err.ensures.fetched
