-- The size of content, and what lists show of it.
use Rattle.std.proofs.Common.{◌≡◌, ℕ, ◌+◌, List, [], ◌∷◌, map, Option, refl, ap, ◌∙◌, sym}
use Rattle.std.proofs.lemmas.List.Sums.{sum_by-cons}
use Rattle.std.specs.Prelude.{sum_by}
use Rattle.std.specs.List.{cons_option}
use Rattle.std.specs.Option.{option_map}
use Rattle.std.specs.FinMap.{entries}
use Rattle.stamp_values.specs.Maps.{entry_value}
use Rattle.stamp_types.specs.Changes.{blocks_len}
use Rattle.stamp_types.specs.declared.args.Page.{Page}
use Rattle.stamp_types.specs.declared.committed.Block.{Block}
use Rattle.stamp_types.specs.declared.piece.Piece.{Piece}
use Rattle.stamp_types.specs.Pieces.{pieces_len}
use Rattle.stamp_types.specs.World.{Part, blob_value, block_value}
use Rattle.row_trees.specs.FoundParts.{sizes_found}
use Rattle.row_trees.proofs.BlockFits.{entries-map_values}
use Rattle.list_pages.specs.Lists.{given, page_of_blobs, shown_blob, shown_row}
use Rattle.list_pages.specs.Pages.{page, page_of_names, from_marker, listed, with_value}

-- blocks have as many bytes as their sizes say
pub sizes_of_blocks : (bs : List (Block (List Piece))) → blocks_len bs ≡ sum_by (λ block. block.content) (map (block_value pieces_len) bs)
sizes_of_blocks [] = refl
sizes_of_blocks (b ∷ bs) =
    sum_by-cons (λ (block : Block (List Piece)). pieces_len block.content) b bs
    ∙ ap (λ n. pieces_len b.content + n) (sizes_of_blocks bs)
    ∙ sym (sum_by-cons (λ (block : Block ℕ). block.content) (block_value pieces_len b) (map (block_value pieces_len) bs))

module _ {X Y Z : Type 0} (has : Y → Option Z) (f : X → Y) where
  -- what is shown of values that are read by a function
  with_value-map : (es : List (List ℕ × X)) → with_value has (map (entry_value f) es) ≡ with_value (λ x. has (f x)) es
  with_value-map [] = refl
  with_value-map (e ∷ es) = ap (λ t. cons_option (option_map (λ value. (e.0, value)) (has (f e.1))) t) (with_value-map es)

-- a page of blobs whose content is in pieces is the page of the blobs whose content is its size
pub page_of_sizes : (q : Page) (p : Part (List Piece)) → page_of_names shown_row (given q.prefix) (given q.delimiter) (given q.marker) q.max (entries p.blobs) ≡ page_of_blobs q (sizes_found p)
page_of_sizes q p =
    ap (λ names. page q.max (from_marker (given q.marker) (listed (given q.prefix) (given q.delimiter) names)))
    (sym (with_value-map shown_blob (blob_value pieces_len) (entries p.blobs)) ∙ ap (with_value shown_blob) (sym (entries-map_values (blob_value pieces_len) p.blobs)))
