use Rattle.std.proofs.Common.{◌≡◌, ◌+◌, drop, map}
use Rattle.stamp_values.specs.MetadataLists.{metadata_len}
use Rattle.request_form.specs.HeadMetadata.{meta_of}
use Rattle.request_form.proofs.rules.f7_metadata.are_short.Given as goal

-- what the fields that are left exceed their part of the limit by, the whole list exceeds the limit by
abbrev pub invariant-loop-field : goal.invariant-loop-field
invariant-loop-field l = metadata_len (map meta_of (drop l.field-index l.fields)) + 8192 ≡ metadata_len (map meta_of l.fields) + l.left
