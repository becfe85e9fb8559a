use Rattle.body_forms.proofs.LatestLemmas.{latest_next}
use Rattle.body_forms.proofs.elements.latest.Goals as goal

pub returns-clause-value : goal.returns-clause-value
returns-clause-value c =
    latest_next c.args.text.now c.in_ok-after_opening.field-0.now c.in_ok-written.written.now c.text.new.self.left.now c.in_ok-rest.rest.now
    c.in_ok-after_opening.ensures.begins c.in_ok-written.ensures.value c.in_ok-rest.ensures.begins
