use Rattle.std.proofs.Common.{refl}
use Rattle.http_front.specs.Connections.{IsFresh, fresh_connection}
use Rattle.http_front.proofs.LinkLemmas.{link_at}
use Rattle.http_front.proofs.link.Link.new.Goals as goal

pub invariant_of-result : goal.invariant_of-result
invariant_of-result g c =
    let made = fresh_connection (g.R.Read.remaining c.args.reader) c.args.turns (g.W.Write.contents c.args.writer) in
    let fresh : IsFresh made = (refl, refl, refl) in
    rw (c.of-before.ensures, c.of-fresh.ensures, c.new-connection.ensures)
    (link_at g.C.Clock.gives g.S.Service.answers g.S.Service.admits g.S.Service.starves c.args.clock (g.S.Service.world c.args.service) made c.new.result c.new.ensures fresh)
