use Rattle.std.proofs.Common.{◌≡◌, ◌++◌, length, map}
use Rattle.stamp_types.specs.Pieces.{pieces_len}
use Rattle.stamp_types.specs.World.{block_value}
use Rattle.body_forms.specs.WrittenLists.{block_view}
use Rattle.range_rows.specs.ShownBlocks.{shown_blocks}
use Rattle.range_rows.proofs.block_list_reply.named_blocks.Given as goal

-- what is listed and what is left make the whole list
abbrev pub invariant-loop-left : goal.invariant-loop-left
invariant-loop-left l =
    map block_view l.list.items ++ shown_blocks (map (block_value pieces_len) l.left) ≡ shown_blocks (map (block_value pieces_len) l.blocks)

abbrev pub decreases-loop-left : goal.decreases-loop-left
decreases-loop-left l = length l.left
