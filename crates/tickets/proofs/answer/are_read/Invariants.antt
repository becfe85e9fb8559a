use Rattle.std.proofs.Common.{◌≡◌, length}
use Rattle.tickets.specs.Tickets.{are_read}
use Rattle.tickets.proofs.answer.are_read.Given as goal

-- the parts before these were read
abbrev pub invariant-loop-left : goal.invariant-loop-left
invariant-loop-left l = are_read l.left ≡ are_read l.parts

abbrev pub decreases-loop-left : goal.decreases-loop-left
decreases-loop-left l = length l.left
