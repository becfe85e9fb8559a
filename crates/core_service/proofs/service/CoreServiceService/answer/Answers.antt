use Rattle.std.proofs.Common.{◌∙◌}
use Rattle.core_service.proofs.ServiceLemmas.{answered_as}
use Rattle.core_service.proofs.service.CoreServiceService.answer.Goals as goal

pub returns-clause-answered : goal.returns-clause-answered
returns-clause-answered c =
    answered_as c.answer_steadily.result c.sweep_before.new.core c.args.self.now c.answer_steadily.new.core c.args.request c.args.moment (c.sweep_before.ensures ∙ c.self.view_is)
    c.answer_steadily.ensures.answered
