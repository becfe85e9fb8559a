use Rattle.std.proofs.Common.{◌≡◌, ◌+◌, ◌++◌, length, take}
use Rattle.stream_manager.specs.GivenUp.{with_blocks, without_front}
use Rattle.stream_manager.proofs.sealed_extents.empty_front.Given as goal

abbrev pub invariant-loop-i : goal.invariant-loop-i
invariant-loop-i l = record {
  left : l.handles.items ≡ without_front l.i l.initial.handles.items;
  given : l.room.extents ≡ l.initial.room.extents ++ with_blocks (take l.i l.initial.handles.items);
  room : l.room.room + length (with_blocks (take l.i l.initial.handles.items)) ≡ l.initial.room.room;
}
