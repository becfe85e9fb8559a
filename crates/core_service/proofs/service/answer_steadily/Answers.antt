use Rattle.std.proofs.Common.{refl}
use Rattle.core_service.proofs.ServiceLemmas.{steady_answer, steady_calm, steady_same}
use Rattle.core_service.proofs.service.answer_steadily.Goals as goal

pub returns-clause-calm : goal.returns-clause-calm
returns-clause-calm c = steady_calm c.answer.result c.args.core.now c.answer.new.self c.args.request.now c.args.moment (c.answer.ensures.steady refl) c.requires.calm

pub returns-clause-answered : goal.returns-clause-answered
returns-clause-answered c = steady_answer c.answer.result c.args.core.now c.answer.new.self c.args.request.now c.args.moment (c.answer.ensures.steady refl) c.requires.calm

pub returns-clause-unchanged : goal.returns-clause-unchanged
returns-clause-unchanged c = steady_same c.answer.result c.args.core.now c.answer.new.self c.args.request.now c.args.moment (c.answer.ensures.steady refl) c.requires.calm
