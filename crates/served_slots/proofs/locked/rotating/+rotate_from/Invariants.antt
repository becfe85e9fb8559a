use Rattle.std.proofs.Common.{length}
use Rattle.served_slots.proofs.locked.rotating.+rotate_from.Given as goal

abbrev pub decreases-rotate_from : goal.decreases-rotate_from
decreases-rotate_from g l = length l.rest.now
