use Rattle.std.proofs.Common.{◌≡◌, ◌+◌, take}
use Rattle.stamp_types.specs.Changes.{blocks_len}
use Rattle.block_blobs.proofs.found_blocks.total_len.Given as goal

-- what is left is what the first blocks leave
abbrev pub invariant-loop-block : goal.invariant-loop-block
invariant-loop-block l = blocks_len (take l.block-index l.blocks) + l.left ≡ 268435456
