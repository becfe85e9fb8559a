-- What rows find of a container and of a blob (SOSP 2011, section 5, object table).
use Rattle.std.specs.Prelude.{ℕ, Bool, List, Option, nat_lt, unwrap_or}
use Rattle.std.specs.Option.{option_map}
use Rattle.stamp_types.specs.declared.committed.Committed.{Committed}
use Rattle.stamp_types.specs.Pieces.{pieces_len}
use Rattle.stamp_types.specs.World.{Blob, Part, committed_value, no_blob, no_part, part_value}
use Rattle.stamp_types.specs.declared.piece.Piece.{Piece}
use Rattle.block_blobs.specs.UncommittedBlocks.{block_count}

-- what was found of a container, or else a container that never was
abbrev pub part_found : Option (Part (List Piece)) → Part (List Piece)
part_found o = unwrap_or o no_part

-- what was found of a blob, or else a blob of a name that was never used
abbrev pub blob_found : Option (Blob (List Piece)) → Blob (List Piece)
blob_found o = unwrap_or o no_blob

-- what was found, with the sizes of its content
abbrev pub sizes_found : Part (List Piece) → Part ℕ
sizes_found p = part_value pieces_len p

-- what readers see of a blob, with the sizes of its content
abbrev pub sized : Option (Committed (List Piece)) → Option (Committed ℕ)
sized c = option_map (committed_value pieces_len) c

-- the blob has an uncommitted block
abbrev pub has_uncommitted : {C : Type 0} → Blob C → Bool
has_uncommitted b = nat_lt 0 (block_count b.uncommitted)
