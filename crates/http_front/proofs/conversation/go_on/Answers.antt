use Rattle.std.proofs.Common.{sym, subst}
use Rattle.http_front.specs.declared.item.Stage.{Stage}
use Rattle.http_front.specs.Stages.{work}
use Rattle.http_front.specs.Steps.{Conversing, HasLess}
use Rattle.http_front.proofs.Going.{answered_replied, comes_replied, leaves_replied, less_replied, takes_found}
use Rattle.http_front.proofs.conversation.go_on.Goals as goal

pub returns-in-Answering-clause-comes : goal.returns-in-Answering-clause-comes
returns-in-Answering-clause-comes g c = λ first start from m.
    c.answer_on.ensures.comes first start from
    (subst (λ (s : Stage). Conversing g.C.Clock.gives g.S.Service.answers first c.args.clock.now start (g.S.Service.world c.args.service.now) from s c.args.connection.now) c.in-Answering.is m)

pub returns-in-Answering-clause-less : goal.returns-in-Answering-clause-less
returns-in-Answering-clause-less g c =
    subst (λ (s : Stage). HasLess c.answer_on.result (work s c.args.connection.now) c.answer_on.new.connection) (sym c.in-Answering.is)
    (c.answer_on.ensures.less _ (takes_found c.in-Answering.found c.args.connection.now))

pub returns-in-Answering-clause-admitted : goal.returns-in-Answering-clause-admitted
returns-in-Answering-clause-admitted g c = c.answer_on.ensures.admitted _

pub returns-in-Replying-clause-comes : goal.returns-in-Replying-clause-comes
returns-in-Replying-clause-comes g c = λ first start from m.
    comes_replied g.C.Clock.gives g.S.Service.answers g.S.Service.starves first c.args.clock.now start (g.S.Service.world c.args.service.now) from c.args.connection.now c.reply_on.new.connection
    c.in-Replying.reply
    (subst (λ (s : Stage). Conversing g.C.Clock.gives g.S.Service.answers first c.args.clock.now start (g.S.Service.world c.args.service.now) from s c.args.connection.now) c.in-Replying.is m)
    c.requires.open.1 c.reply_on.ensures.unread c.reply_on.result c.reply_on.ensures.written

pub returns-in-Replying-clause-less : goal.returns-in-Replying-clause-less
returns-in-Replying-clause-less g c =
    subst (λ (s : Stage). HasLess c.reply_on.result (work s c.args.connection.now) c.reply_on.new.connection) (sym c.in-Replying.is)
    (less_replied c.in-Replying.reply c.args.connection.now c.reply_on.new.connection c.reply_on.ensures.unread c.reply_on.result)

pub returns-in-Replying-clause-left : goal.returns-in-Replying-clause-left
returns-in-Replying-clause-left g c =
    leaves_replied c.in-Replying.reply c.args.connection.now c.reply_on.new.connection c.reply_on.ensures.unread c.reply_on.result c.requires.open.0 c.reply_on.ensures.written

pub returns-in-Replying-clause-answered : goal.returns-in-Replying-clause-answered
returns-in-Replying-clause-answered g c = λ is. answered_replied c.in-Replying.reply c.reply_on.result _ _ c.reply_on.ensures.written
