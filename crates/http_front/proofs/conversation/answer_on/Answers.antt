use Rattle.std.proofs.Common.{Err, ap}
use Rattle.std.proofs.lemmas.Result.{err_from_is_err_and}
use Rattle.http_front.proofs.Going.{answered_replied, comes_replied, comes_unanswered, leaves_replied, less_answered, replies}
use Rattle.http_front.proofs.conversation.answer_on.Goals as goal

pub returns-in_err-reply-clause-comes : goal.returns-in_err-reply-clause-comes
returns-in_err-reply-clause-comes g c = λ first start from m.
    let p = err_from_is_err_and c.from_residual.result c.from_residual.ensures.1 in
    rw (p.1, p.2) (comes_unanswered g.C.Clock.gives g.S.Service.answers g.S.Service.starves first c.args.clock.now c.answer_item.new.clock start (g.S.Service.world c.args.service.now) (g.S.Service.world c.answer_item.new.service)
    from m.between c.args.connection.now c.args.found m.serving m.takes
    c.in_err-reply.field-0.0 c.in_err-reply.ensures.fault (c.in_err-reply.ensures.unanswered (ap Err c.in_err-reply.ensures.fault)))

pub returns-clause-comes : goal.returns-clause-comes
returns-clause-comes g c = λ first start from m.
    comes_replied g.C.Clock.gives g.S.Service.answers g.S.Service.starves first c.answer_item.new.clock start (g.S.Service.world c.answer_item.new.service) from c.args.connection.now c.reply_on.new.connection
    c.in_ok-reply.reply
    (replies g.C.Clock.gives g.S.Service.answers g.S.Service.starves first c.args.clock.now c.answer_item.new.clock start (g.S.Service.world c.args.service.now) (g.S.Service.world c.answer_item.new.service)
    from m.between c.args.connection.now c.args.found m.serving m.takes
    c.in_ok-reply.reply c.requires c.in_ok-reply.ensures.answered c.in_ok-reply.ensures.closes)
    c.requires.1 c.reply_on.ensures.unread c.reply_on.result c.reply_on.ensures.written

pub returns-clause-less : goal.returns-clause-less
returns-clause-less g c = λ before less.
    less_answered c.in_ok-reply.reply c.args.connection.now c.reply_on.new.connection c.reply_on.ensures.unread c.reply_on.result c.args.found before
    less c.in_ok-reply.ensures.closes c.reply_on.ensures.written

pub returns-clause-left : goal.returns-clause-left
returns-clause-left g c =
    leaves_replied c.in_ok-reply.reply c.args.connection.now c.reply_on.new.connection c.reply_on.ensures.unread c.reply_on.result
    c.requires.0 c.reply_on.ensures.written

pub returns-clause-answered : goal.returns-clause-answered
returns-clause-answered g c = λ is. answered_replied c.in_ok-reply.reply c.reply_on.result _ _ c.reply_on.ensures.written
