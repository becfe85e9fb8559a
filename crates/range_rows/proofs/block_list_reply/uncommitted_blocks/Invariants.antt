use Rattle.std.proofs.Common.{◌≡◌, ◌++◌, map}
use Rattle.std.specs.FinMap.{entries}
use Rattle.stamp_types.specs.Pieces.{pieces_len}
use Rattle.stamp_values.specs.Maps.{entry_value}
use Rattle.body_forms.specs.WrittenLists.{block_view}
use Rattle.range_rows.specs.ShownBlocks.{listed_entry}
use Rattle.range_rows.proofs.block_list_reply.uncommitted_blocks.Given as goal

-- what is listed and what is left make the whole list
abbrev pub invariant-loop-id : goal.invariant-loop-id
invariant-loop-id l =
    map block_view l.list.items ++ map listed_entry (map (entry_value pieces_len) l.id-iterator)
    ≡ map listed_entry (map (entry_value pieces_len) (entries l.blob.uncommitted))
