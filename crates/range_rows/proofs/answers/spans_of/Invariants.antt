use Rattle.std.proofs.Common.{◌≡◌, ◌++◌, length, map}
use Rattle.std.specs.List.{flat_map}
use Rattle.range_rows.specs.SentContent.{whole_span}
use Rattle.range_rows.proofs.answers.spans_of.Given as goal

-- what is there and what is left make the whole
abbrev pub invariant-loop-left : goal.invariant-loop-left
invariant-loop-left l = l.spans.items ++ flat_map (λ b. map whole_span b.content) l.left ≡ flat_map (λ b. map whole_span b.content) l.blocks

abbrev pub decreases-loop-left : goal.decreases-loop-left
decreases-loop-left l = length l.left
