-- The uncommitted blocks of a blob by their ids ("Put Block" of the Blob service REST reference, 2012-02-12).
use Rattle.std.specs.Prelude.{ℕ, Bool, ◌&&◌, ◌==◌, not, if◌then◌else◌, nat_le, is_none, List, length, Option, Some, None}
use Rattle.std.specs.List.{list_all, list_any}
use Rattle.std.specs.FinMap as finite
use Rattle.std.specs.FinMap.{FinMap}
use Rattle.stamp_values.specs.Limits.{uncommitted_limit}
use Rattle.stamp_values.specs.Order.{name_cmp}
use Rattle.stamp_types.specs.declared.piece.Piece.{Piece}
use Rattle.stamp_types.specs.Changes.{is_in_one_piece}
use Rattle.block_blobs.specs.declared.block_fault.BlockFault.{BlockFault}
use Rattle.block_blobs.specs.declared.block_fault.BlockFault.TheVariants as fault

-- how many blocks there are
abbrev pub block_count : {C : Type 0} → FinMap name_cmp C → ℕ
block_count m = length (finite.entries m)

-- each block is in one piece
abbrev pub are_in_one_piece : FinMap name_cmp (List Piece) → Bool
are_in_one_piece m = list_all (λ e. is_in_one_piece e.1) (finite.entries m)

-- each id has n bytes
abbrev pub have_ids_of_length : {C : Type 0} → ℕ → FinMap name_cmp C → Bool
have_ids_of_length n m = list_all (λ e. length e.0 == n) (finite.entries m)

-- a block has an id of another length than this id
abbrev pub has_other_length : {C : Type 0} → List ℕ → FinMap name_cmp C → Bool
has_other_length id m = list_any (λ e. not (length e.0 == length id)) (finite.entries m)

-- the id is new, and there are already as many blocks as a blob may have
abbrev pub is_one_too_many : {C : Type 0} → List ℕ → FinMap name_cmp C → Bool
is_one_too_many id m = is_none (finite.get m id) && nat_le uncommitted_limit (block_count m)

-- the fault of a block that is put under this id: the first of the two faults whose cause exists
abbrev pub block_fault : {C : Type 0} → List ℕ → FinMap name_cmp C → Option BlockFault
block_fault id m =
    if has_other_length id m then Some fault.Length
    else (if is_one_too_many id m then Some fault.TooMany else None)
