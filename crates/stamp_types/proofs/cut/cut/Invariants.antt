use Rattle.std.proofs.Common.{◌≡◌, ◌-◌, ◌+◌, ◌≤◌, ◌++◌, length, drop}
use Rattle.stamp_types.specs.Pieces as pieces
use Rattle.stamp_types.proofs.cut.cut.Given as goal

-- the pieces so far and the pieces of what is left are the pieces of the whole
abbrev pub invariant-loop-at : goal.invariant-loop-at
invariant-loop-at l = record {
  same : l.pieces.items ++ pieces.cut (drop l.at l.share) ≡ pieces.cut l.share;
  near : l.at ≤ length l.share + 4194304;
}

abbrev pub decreases-loop-at : goal.decreases-loop-at
decreases-loop-at l = length l.share - l.at
