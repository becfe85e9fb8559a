use Rattle.std.proofs.Common.{◌∙◌, ap, arith}
use Rattle.shared_key.specs.Readings.{claim_or_fault}
use Rattle.shared_key.proofs.Claims.{value_clause, read_clause, complete_clause, scheme_clause, form_clause, one_member}
use Rattle.shared_key.proofs.authorization.read_authorization.Goals as goal

pub returns-in-len1-clause-value : goal.returns-in-len1-clause-value
returns-in-len1-clause-value c =
    let once = one_member c.args.values.now c.value-item.result (omega arith) (omega arith) c.value-item.is in
    value_clause c.args.values.now c.value-item.result c.read_value.result once (c.read_value.ensures ∙ ap claim_or_fault c.as_slice.ensures)

pub returns-in-len1-clause-read : goal.returns-in-len1-clause-read
returns-in-len1-clause-read c =
    let once = one_member c.args.values.now c.value-item.result (omega arith) (omega arith) c.value-item.is in
    read_clause c.args.values.now c.value-item.result c.read_value.result once (c.read_value.ensures ∙ ap claim_or_fault c.as_slice.ensures)

pub returns-in-len1-clause-complete : goal.returns-in-len1-clause-complete
returns-in-len1-clause-complete c =
    let once = one_member c.args.values.now c.value-item.result (omega arith) (omega arith) c.value-item.is in
    complete_clause c.args.values.now c.value-item.result c.read_value.result once (c.read_value.ensures ∙ ap claim_or_fault c.as_slice.ensures)

pub returns-in-len1-clause-scheme : goal.returns-in-len1-clause-scheme
returns-in-len1-clause-scheme c =
    let once = one_member c.args.values.now c.value-item.result (omega arith) (omega arith) c.value-item.is in
    scheme_clause c.args.values.now c.value-item.result c.read_value.result once (c.read_value.ensures ∙ ap claim_or_fault c.as_slice.ensures)

pub returns-in-len1-clause-form : goal.returns-in-len1-clause-form
returns-in-len1-clause-form c =
    let once = one_member c.args.values.now c.value-item.result (omega arith) (omega arith) c.value-item.is in
    form_clause c.args.values.now c.value-item.result c.read_value.result once (c.read_value.ensures ∙ ap claim_or_fault c.as_slice.ensures)
