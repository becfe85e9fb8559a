use Rattle.http_front.proofs.LinkLemmas.{serves_link}
use Rattle.http_front.proofs.link.finish_link.Goals as goal

pub invariant_of-result : goal.invariant_of-result
invariant_of-result g c =
    serves_link g.C.Clock.gives g.S.Service.answers g.S.Service.admits g.S.Service.starves c.args.before.0 c.args.clock (g.S.Service.world c.args.before.1) (g.S.Service.world c.args.service) c.args.fresh c.args.connection
    c.args.ended c.finish-end.result c.finish-end.new.connection (g.R.Read.remaining c.into_parts-reader.result.0) (g.W.Write.contents c.into_parts-reader.result.1)
    c.requires.comes c.requires.left c.finish-end.ensures c.into_parts-reader.ensures.0 c.into_parts-reader.ensures.1
