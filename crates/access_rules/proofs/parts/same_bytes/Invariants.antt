use Rattle.std.proofs.Common.{◌≡◌, bytes_eq, take}
use Rattle.access_rules.proofs.parts.same_bytes.Given as goal

abbrev pub invariant-loop-at : goal.invariant-loop-at
invariant-loop-at l = l.same ≡ bytes_eq (take l.at l.one) (take l.at l.other)
