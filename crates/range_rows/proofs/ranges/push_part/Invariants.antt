use Rattle.std.proofs.Common.{◌≡◌, ◌++◌, length}
use Rattle.range_rows.specs.Ranges.{part_spans}
use Rattle.range_rows.proofs.ranges.push_part.Given as goal

-- what is there and what is left make the whole part
abbrev pub invariant-loop-left : goal.invariant-loop-left
invariant-loop-left l = l.spans.items ++ part_spans l.from l.end l.left ≡ l.initial.spans.items ++ part_spans l.initial.from l.initial.end l.pieces

abbrev pub decreases-loop-left : goal.decreases-loop-left
decreases-loop-left l = length l.left
