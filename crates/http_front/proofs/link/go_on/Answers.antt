use Rattle.http_front.proofs.LinkLemmas.{has_room, judged_link, judged_starved, stays_admitted}
use Rattle.http_front.proofs.link.go_on.Goals as goal

pub finish_link-requires-then-exceeds-clause-comes : goal.finish_link-requires-then-exceeds-clause-comes
finish_link-requires-then-exceeds-clause-comes g c =
    let left = rw (c.in-Ok-Waits.is, c.in-Ok-Waits.field-0-is) at c.advance.ensures.left in
    let met = (rw (c.in-Ok-Waits.is, c.in-Ok-Waits.field-0-is) at c.advance.ensures.comes) c.link.inside.before.0 (g.S.Service.world c.link.inside.before.1) c.link.inside.fresh c.link.invariant.conversing in
    let same = c.judge_stage-stage.ensures.same in
    judged_starved g.C.Clock.gives g.S.Service.answers c.link.inside.before.0 c.advance.new.clock (g.S.Service.world c.link.inside.before.1) (g.S.Service.world c.advance.new.service) c.link.inside.fresh c.advance.new.connection
    same.0 c.in-Ok-Waits.stage c.judge_stage-stage.result same.1 met g.S.Service.starves c.args.rooms left (c.exceeds.ensures.0 c.if-exceeds.true)

pub invariant_of-result : goal.invariant_of-result
invariant_of-result g c =
    let met = (rw (c.in-Ok-Waits.is, c.in-Ok-Waits.field-0-is) at c.advance.ensures.comes) c.link.inside.before.0 (g.S.Service.world c.link.inside.before.1) c.link.inside.fresh c.link.invariant.conversing in
    let ready = rw (c.in-Ok-Waits.is, c.in-Ok-Waits.field-0-is) at c.advance.ensures.ready in
    let kept = rw (c.in-Ok-Waits.is, c.in-Ok-Waits.field-0-is) at c.advance.ensures.admitted in
    let same = c.judge_stage-stage.ensures.same in
    let admitted = c.judge_stage-stage.ensures.admitted (stays_admitted g.S.Service.admits _ c.in-Ok-Waits.stage c.link.invariant.admitted kept) in
    judged_link g.C.Clock.gives g.S.Service.answers c.link.inside.before.0 c.advance.new.clock (g.S.Service.world c.link.inside.before.1) (g.S.Service.world c.advance.new.service) c.link.inside.fresh c.advance.new.connection
    same.0 c.in-Ok-Waits.stage c.judge_stage-stage.result same.1 met g.S.Service.admits c.link.invariant.was_fresh ready.0 ready.1 admitted

pub returns-clause-within : goal.returns-clause-within
returns-clause-within g c =
    let kept = rw (c.in-Ok-Waits.is, c.in-Ok-Waits.field-0-is) at c.advance.ensures.admitted in
    let admitted = c.judge_stage-stage.ensures.admitted (stays_admitted g.S.Service.admits _ c.in-Ok-Waits.stage c.link.invariant.admitted kept) in
    has_room g.S.Service.admits c.args.rooms c.judge_stage-stage.result admitted (λ exceeds. let true_one = c.exceeds.ensures.1 exceeds in let false_one = c.if-exceeds.false in absurd (cc))
