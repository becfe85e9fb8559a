use Rattle.std.proofs.lemmas.Result.{err_from_is_err_and}
use Rattle.http_front.proofs.Going.{comes_end, comes_fault}
use Rattle.http_front.proofs.conversation.read_on.Goals as goal

pub returns-in_err-next_item-clause-comes : goal.returns-in_err-next_item-clause-comes
returns-in_err-next_item-clause-comes g c = λ first start from m.
    let p = err_from_is_err_and c.from_residual.result c.from_residual.ensures.1 in
    rw (p.1, p.2) (comes_fault g.C.Clock.gives g.S.Service.answers g.S.Service.starves first c.args.clock.now start (g.S.Service.world c.args.service.now) from m.between c.next_item.new.self m.serving
    c.in_err-next_item.field-0.0 (c.in_err-next_item.ensures.read m.between m.begun) c.in_err-next_item.ensures.left)

pub returns-in-End-clause-comes : goal.returns-in-End-clause-comes
returns-in-End-clause-comes g c = λ first start from m.
    comes_end g.C.Clock.gives g.S.Service.answers g.S.Service.starves first c.args.clock.now start (g.S.Service.world c.args.service.now) from m.between c.next_item.new.self m.serving
    ((rw c.in-End.is at c.in_ok-next_item.ensures.read) m.between m.begun) (rw c.in-End.is at c.in_ok-next_item.ensures.left)

pub returns-in-Waits-clause-comes : goal.returns-in-Waits-clause-comes
returns-in-Waits-clause-comes g c = λ first start from m. record {
  between = m.between;
  serving = m.serving;
  begun = (rw c.in-Waits.is at c.in_ok-next_item.ensures.read) m.between m.begun;
}

pub returns-in-Whole-clause-comes : goal.returns-in-Whole-clause-comes
returns-in-Whole-clause-comes g c = λ first start from m.
    c.answer_on.ensures.comes first start from (record {
      between = m.between;
      serving = m.serving;
      takes = (rw c.in-Whole.is at c.in_ok-next_item.ensures.read) m.between m.begun;
    })

pub returns-in-Whole-clause-less : goal.returns-in-Whole-clause-less
returns-in-Whole-clause-less g c = c.answer_on.ensures.less _ (rw c.in-Whole.is at c.in_ok-next_item.ensures.less)

pub returns-in-Whole-clause-admitted : goal.returns-in-Whole-clause-admitted
returns-in-Whole-clause-admitted g c = c.answer_on.ensures.admitted _
