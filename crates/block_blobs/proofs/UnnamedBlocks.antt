-- The blocks that are found for a list of wanted blocks.
use Rattle.std.proofs.Common.{◌≡◌, ◌++◌, List, [], ◌∷◌, Some, None, refl, ap, ◌∙◌}
use Rattle.std.specs.Option.{option_and_then, option_map, option_to_list}
use Rattle.stamp_values.specs.declared.block.Wanted.{Wanted}
use Rattle.stamp_types.specs.declared.piece.Piece.{Piece}
use Rattle.stamp_types.specs.Changes.{blocks_len}
use Rattle.stamp_types.specs.World.{Blob, content_from, whole_block}
use Rattle.block_blobs.specs.BlockLists.{found_blocks, found_entries, listed_len, source_of, taken_from, unnamed_blocks}
use Rattle.block_blobs.proofs.ListFaults.{unnamed_len}

-- the blocks that are found for wanted blocks are those of the entries that are found
pub found_unnamed : {C : Type 0} (b : Blob C) (ws : List Wanted) → found_blocks b ws ≡ unnamed_blocks b (found_entries b ws)
found_unnamed b [] = refl
found_unnamed b (w ∷ ws) =
    elim (source_of b w) as (λ o. option_to_list (option_map whole_block (option_and_then (λ s. content_from s w.id b) o)) ++ found_blocks b ws
    ≡ unnamed_blocks b (option_to_list (option_map (taken_from w) o) ++ found_entries b ws)) [
      | None ↦ found_unnamed b ws
      | Some s ↦ ap (λ bs. option_to_list (option_map whole_block (content_from s w.id b)) ++ bs) (found_unnamed b ws)
    ]

-- they have as many bytes as the blocks that these entries take
pub found_len : (b : Blob (List Piece)) (ws : List Wanted) → blocks_len (found_blocks b ws) ≡ listed_len b (found_entries b ws)
found_len b ws = ap blocks_len (found_unnamed b ws) ∙ unnamed_len b (found_entries b ws)
