use Rattle.std.proofs.Common.{sym, subst}
use Rattle.http_front.specs.Links.{IsBetween, LinkState}
use Rattle.http_front.proofs.LinkLemmas.{rests}
use Rattle.http_front.proofs.link.settle.Goals as goal

pub invariant_of-result : goal.invariant_of-result
invariant_of-result g c =
    let none = subst (λ (l : LinkState g.row.C.Denot g.row.S.Denot). IsBetween l.stage l.connection) (sym c.link.view_is) c.requires in
    rw c.rest.ensures
    (rests g.C.Clock.gives g.S.Service.answers g.S.Service.admits c.link.inside.before.0 c.link.inside.clock (g.S.Service.world c.link.inside.before.1) (g.S.Service.world c.link.inside.service) c.link.inside.fresh
    c.link.inside.stage c.link.inside.connection c.link.invariant none)
