use Rattle.std.proofs.Common.{◌≡◌, drop, map}
use Rattle.std.specs.List.{list_all}
use Rattle.stamp_values.specs.Names.{is_metadata_name}
use Rattle.request_form.specs.HeadMetadata.{meta_of}
use Rattle.request_form.proofs.rules.f7_metadata.have_good_names.Given as goal

-- what is left gives the answer
abbrev pub invariant-loop-field : goal.invariant-loop-field
invariant-loop-field l = list_all (λ m. is_metadata_name m.name) (map meta_of (drop l.field-index l.fields)) ≡ list_all (λ m. is_metadata_name m.name) (map meta_of l.fields)
