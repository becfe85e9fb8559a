-- The blocks that Get Block List shows, by their sizes.
use Rattle.std.proofs.Common.{◌≡◌, List, ap, map}
use Rattle.std.specs.FinMap.{FinMap, entries}
use Rattle.stamp_values.specs.Maps.{entry_value, map_values}
use Rattle.stamp_values.specs.Order.{name_cmp, names_exact, names_total}
use Rattle.stamp_types.specs.declared.piece.Piece.{Piece}
use Rattle.stamp_types.specs.Pieces.{pieces_len}
use Rattle.stamp_types.proofs.MapEntries.{entries-map_values}
use Rattle.range_rows.specs.ShownBlocks.{listed_entry, listed_uncommitted}

-- the uncommitted blocks as they are listed are the entries, each with the size of its content
pub listed_uncommitted-sizes : (m : FinMap name_cmp (List Piece))
    → listed_uncommitted (map_values pieces_len m) ≡ map listed_entry (map (entry_value pieces_len) (entries m))
listed_uncommitted-sizes m = ap (map listed_entry) (entries-map_values names_total names_exact pieces_len m)
