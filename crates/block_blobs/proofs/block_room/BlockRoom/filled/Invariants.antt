use Rattle.std.proofs.Common.{◌≡◌, ◌≤◌, ◌+◌, ◌++◌, length, map, vec_len, vec_capacity}
use Rattle.block_blobs.specs.BlockLists.{block_of_entry}
use Rattle.block_blobs.proofs.block_room.BlockRoom.filled.Given as goal

-- the blocks that are left complete the list, and there is room for them
abbrev pub invariant-loop-id : goal.invariant-loop-id
invariant-loop-id l = record {
  so_far : l.list.items ++ map block_of_entry l.later ≡ map block_of_entry l.fn.blocks;
  room : vec_len l.list + length l.later ≤ vec_capacity l.list;
}

abbrev pub decreases-loop-id : goal.decreases-loop-id
decreases-loop-id l = length l.later
