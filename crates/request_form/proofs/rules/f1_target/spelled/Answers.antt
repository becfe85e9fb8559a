use Rattle.request_form.proofs.TargetLemmas.{data_of_spelled, is_origin_spelled, is_origin_unspelled, refused_by_form}
use Rattle.request_form.proofs.rules.f1_target.spelled.Goals as goal

pub returns-in-Ok : goal.returns-in-Ok
returns-in-Ok c =
    let uri = c.in-Ok.address in
    let origin = c.args.origin.now in (
      is_origin_spelled origin uri.scheme uri.authority uri.path_and_query c.requires.start c.requires.unsigned c.in-Ok.ensures.ok.1,
      data_of_spelled origin uri.scheme uri.authority uri.path_and_query c.requires.start c.requires.unsigned c.in-Ok.ensures.ok.1,
    )

pub returns-in-Err-Invalid : goal.returns-in-Err-Invalid
returns-in-Err-Invalid c =
    is_origin_unspelled c.args.origin.now c.requires.utf8 c.requires.short (c.in-Err-Invalid.ensures.err (refused_by_form c.in-Err-Invalid.field-0 c.in-Err-Invalid.field-0-0 c.in-Err-Invalid.field-0-is))
