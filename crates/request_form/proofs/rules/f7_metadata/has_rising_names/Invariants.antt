use Rattle.std.proofs.Common.{◌≡◌, length, map}
use Rattle.stamp_values.specs.MetadataLists as lists
use Rattle.request_form.specs.HeadMetadata.{meta_of}
use Rattle.request_form.proofs.rules.f7_metadata.has_rising_names.Given as goal

-- what is left gives the answer
abbrev pub invariant-loop-left : goal.invariant-loop-left
invariant-loop-left l = lists.has_rising_names (map meta_of l.left) ≡ lists.has_rising_names (map meta_of l.fields)

abbrev pub decreases-loop-left : goal.decreases-loop-left
decreases-loop-left l = length l.left
