use Rattle.std.proofs.Common.{◌≡◌, ◌&&◌, take, drop, map}
use Rattle.std.specs.List.{list_all}
use Rattle.stamp_values.specs.Texts.{is_visible}
use Rattle.request_form.specs.HeadMetadata.{meta_of}
use Rattle.request_form.proofs.rules.f7_metadata.metas.Given as goal

-- the metadata so far, and what is left gives the answer
abbrev pub invariant-loop-field : goal.invariant-loop-field
invariant-loop-field l =
    (l.metas.items ≡ map meta_of (take l.field-index l.fields))
    × (list_all (λ f. is_visible f.name && is_visible f.value) (drop l.field-index l.fields) ≡ list_all (λ f. is_visible f.name && is_visible f.value) l.fields)
