use Rattle.std.proofs.Common.{◌≡◌, ◌+◌, take, sum_by}
use Rattle.stamp_values.specs.MetadataLists.{meta_len}
use Rattle.stamp_types.proofs.args_len.left_after_metadata.Given as goal

-- what is left is what the first names and values leave
abbrev pub invariant-loop-meta : goal.invariant-loop-meta
invariant-loop-meta l = sum_by meta_len (take l.meta-index l.metas) + l.rest ≡ l.left
