use Rattle.std.proofs.Common.{◌≡◌, sym, ◌∙◌, arith}
use Rattle.xml_text.specs.ElementReading.{value_of}
use Rattle.body_forms.proofs.IdLemmas.{plain_value_of, reference_no_id}
use Rattle.body_forms.proofs.ids.id.Goals as goal

pub returns-then-has_reference-clause-value : goal.returns-then-has_reference-clause-value
returns-then-has_reference-clause-value c =
    reference_no_id c.args.written.now (λ i. let fits = c.type_inv.written i in omega arith) (sym c.has_reference.ensures ∙ c.if-has_reference.true)

pub returns-clause-value : goal.returns-clause-value
returns-clause-value c =
    let same : value_of c.args.written.now ≡ c.without_white_ends.result.now =
    plain_value_of c.args.written.now (sym c.has_reference.ensures ∙ c.if-has_reference.false) ∙ sym c.without_white_ends.ensures in
    rw same c.decoded_id.ensures.value

pub returns-clause-read : goal.returns-clause-read
returns-clause-read c =
    let same : value_of c.args.written.now ≡ c.without_white_ends.result.now =
    plain_value_of c.args.written.now (sym c.has_reference.ensures ∙ c.if-has_reference.false) ∙ sym c.without_white_ends.ensures in
    rw same c.decoded_id.ensures.read
