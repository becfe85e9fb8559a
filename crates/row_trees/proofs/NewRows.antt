-- A blob of a name that was never used.
use Rattle.std.proofs.Common.{◌≡◌, ℕ, false, ◌&&◌, List, length, nat_lt, Some, None, ap}
use Rattle.std.specs.Prelude.{is_none, nat_le, not, if◌then◌else◌, ◌==◌}
use Rattle.std.specs.List.{list_any}
use Rattle.std.specs.FinMap.{get-empty}
use Rattle.stamp_values.specs.Order.{name_cmp}
use Rattle.stamp_types.specs.declared.piece.Piece.{Piece}
use Rattle.stamp_types.specs.World.{no_blob}
use Rattle.block_blobs.specs.UncommittedBlocks.{block_fault}
use Rattle.block_blobs.specs.declared.block_fault.BlockFault.TheVariants as fault
use Rattle.block_blobs.proofs.EntryLemmas.{no_entries}
use Rattle.row_trees.specs.FoundParts.{has_uncommitted}

-- it has no uncommitted block
pub has_no_block : has_uncommitted (no_blob {C = List Piece}) ≡ false
has_no_block = ap (λ (es : List (List ℕ × List Piece)). nat_lt 0 (length es)) no_entries

-- each block can be put
pub block_fits_empty : (id : List ℕ) → block_fault id (no_blob {C = List Piece}).uncommitted ≡ None
block_fits_empty id = λ i.
    if list_any (λ e. not (length e.0 == length id)) (no_entries i) then Some fault.Length
    else (if is_none (get-empty {X = List Piece} name_cmp id i) && nat_le 50000 (length (no_entries i)) then Some fault.TooMany else None)
