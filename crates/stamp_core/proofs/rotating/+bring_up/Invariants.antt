use Rattle.std.proofs.Common.{◌-◌, length}
use Rattle.stamp_core.proofs.rotating.+bring_up.Given as goal

abbrev pub decreases-bring_up : goal.decreases-bring_up
decreases-bring_up g l = length l.slots.now.items - l.at
