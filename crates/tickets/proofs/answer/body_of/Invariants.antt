use Rattle.std.proofs.Common.{◌≡◌, ◌++◌, true, length}
use Rattle.tickets.specs.Tickets.{are_read, parts_bytes}
use Rattle.tickets.proofs.answer.body_of.Given as goal

-- the bytes so far and those of the parts that are left make the whole, and these parts were read
abbrev pub invariant-loop-left : goal.invariant-loop-left
invariant-loop-left l = (l.whole ++ parts_bytes l.left ≡ l.body ++ parts_bytes l.parts) × (are_read l.left ≡ true)

abbrev pub decreases-loop-left : goal.decreases-loop-left
decreases-loop-left l = length l.left
