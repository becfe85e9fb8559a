use Rattle.std.proofs.Common.{◌≡◌, length}
use Rattle.shared_key.specs.Authorizations.{unspaced}
use Rattle.shared_key.proofs.authorization.without_spaces.Given as goal

-- the answer for the bytes that are left is the answer for all bytes
abbrev pub invariant-loop-left : goal.invariant-loop-left
invariant-loop-left l = unspaced l.left ≡ unspaced l.bytes

abbrev pub decreases-loop-left : goal.decreases-loop-left
decreases-loop-left l = length l.left
