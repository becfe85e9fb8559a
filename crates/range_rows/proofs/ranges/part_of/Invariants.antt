use Rattle.std.proofs.Common.{◌≡◌, ◌++◌, length}
use Rattle.std.specs.List.{flat_map}
use Rattle.range_rows.specs.Ranges.{part_spans}
use Rattle.range_rows.proofs.RangeLemmas.{block_spans}
use Rattle.range_rows.proofs.ranges.part_of.Given as goal

-- what is there and what is left make the whole part
abbrev pub invariant-loop-left : goal.invariant-loop-left
invariant-loop-left l =
    l.spans.items ++ block_spans l.from l.end l.left ≡ part_spans l.initial.from l.initial.end (flat_map (λ b. b.content) l.blocks)

abbrev pub decreases-loop-left : goal.decreases-loop-left
decreases-loop-left l = length l.left
