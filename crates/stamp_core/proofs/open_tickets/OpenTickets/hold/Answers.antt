use Rattle.std.proofs.Common.{rules}
use Rattle.stamp_core.proofs.TicketLemmas.{count_of, one_more}
use Rattle.stamp_core.proofs.open_tickets.OpenTickets.hold.Goals as goal

pub returns-clause-number : goal.returns-clause-number
returns-clause-number c = count_of c.self.inside.open c.self.inside.given c.args.self.now c.self.view_is

pub returns-clause-held : goal.returns-clause-held
returns-clause-held c =
    one_more c.self.inside.open c.self.inside.given c.args.self.now c.put.new.tree c.in-Some.next c.args.ticket c.self.view_is c.in_ok-put.ensures.put (search rules)
