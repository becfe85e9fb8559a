use Rattle.stored_slot.proofs.parts.SlotParts.decide_on_rows.Goals as goal

pub returns-clause-decided : goal.returns-clause-decided
returns-clause-decided g c =
    let made = c.in_ok-decision.ensures.decided in
    let pair = c.current-pair.ensures in
    let pairs = c.deref.ensures in
    let part = c.of-target.ensures.container in
    let found = c.find.ensures in
    let ask = c.ask-ask.ensures.value in
    let bound = c.end-bound.ensures in
    cc
