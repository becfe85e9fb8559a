use Rattle.std.proofs.Common.{◌≡◌, map, rules, sym, ◌∙◌}
use Rattle.std.specs.FinMap.{entries}
use Rattle.stamp_types.specs.Pieces.{pieces_len}
use Rattle.stamp_values.specs.Maps.{entry_value}
use Rattle.body_forms.specs.WrittenLists.{block_view}
use Rattle.range_rows.specs.ShownBlocks.{listed_entry}
use Rattle.range_rows.proofs.ListLemmas.{listed_uncommitted-sizes}
use Rattle.range_rows.proofs.block_list_reply.uncommitted_blocks.Goals as goal

pub returns : goal.returns
returns c =
    let blocks = c.args.blob.now.uncommitted in
    let made : map block_view c.loop-id.list.items ≡ map listed_entry (map (entry_value pieces_len) (entries blocks)) = search rules in
    made ∙ sym (listed_uncommitted-sizes blocks)
