use Rattle.request_form.proofs.HeadLemmas.{parts_are, fields_fit, target_fits}
use Rattle.request_form.proofs.parse.head_parts.parse_head.Goals as goal

pub returns-clause-head : goal.returns-clause-head
returns-clause-head c =
    let found = c.in-Some.ensures.head in
    (found.0, found.1, parts_are found.2 c.in_ok-read_parts.ensures)

pub returns-clause-short : goal.returns-clause-short
returns-clause-short c =
    let found = c.in-Some.ensures.head in
    fields_fit found.1 (parts_are found.2 c.in_ok-read_parts.ensures)

pub returns-clause-target : goal.returns-clause-target
returns-clause-target c =
    let found = c.in-Some.ensures.head in
    target_fits found.1 (parts_are found.2 c.in_ok-read_parts.ensures)
