use Rattle.std.proofs.Common.{◌≡◌, length}
use Rattle.stamp_types.specs.Changes as changes
use Rattle.stamp_types.proofs.change_fits.has_rising_ids.Given as goal

-- what is left gives the answer
abbrev pub invariant-loop-left : goal.invariant-loop-left
invariant-loop-left l = changes.has_rising_ids l.left ≡ changes.has_rising_ids l.blocks

abbrev pub decreases-loop-left : goal.decreases-loop-left
decreases-loop-left l = length l.left
