use Rattle.served_slots.proofs.EnterLemmas.{served_asked, served_told}
use Rattle.served_slots.proofs.connection.SlotsService.answer_once.Goals as goal

pub returns-clause-answered : goal.returns-clause-answered
returns-clause-answered g c =
    served_asked _ _ _ _ _ _ _ c.in-Ok.ensures.request c.in-Ok.ensures.moment (served_told _ _ _ _ _ _ _ c.again-known.ensures.same c.in_ok-reply.ensures.reply c.in_ok-told.ensures.served)
