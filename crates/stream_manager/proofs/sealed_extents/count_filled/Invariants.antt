use Rattle.std.proofs.Common.{◌≡◌, ◌≤◌, length, take}
use Rattle.stream_manager.specs.GivenUp.{with_blocks}
use Rattle.stream_manager.proofs.sealed_extents.count_filled.Given as goal

abbrev pub invariant-loop-handle : goal.invariant-loop-handle
invariant-loop-handle l = record {
  count : l.count ≡ length (with_blocks (take l.handle-index l.handles));
  within : l.count ≤ l.handle-index;
}
