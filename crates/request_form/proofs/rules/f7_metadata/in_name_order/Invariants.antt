use Rattle.std.proofs.Common.{◌≡◌, fold}
use Rattle.request_form.specs.HeadMetadata.{in_name_order, meta_fields, placed}
use Rattle.request_form.proofs.rules.f7_metadata.in_name_order.Given as goal

-- the fields so far, with those that are left put into their places, are all fields by name
abbrev pub invariant-loop-field : goal.invariant-loop-field
invariant-loop-field l = fold placed l.sent.items (meta_fields l.field-iterator) ≡ in_name_order (meta_fields l.fields)
