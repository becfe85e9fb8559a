use Rattle.std.proofs.Common.{◌≡◌, take}
use Rattle.slot_pass.proofs.comparing.pairs_differ.Given as goal

abbrev pub invariant-loop-at : goal.invariant-loop-at
invariant-loop-at l = take l.at l.pairs ≡ take l.at l.others
