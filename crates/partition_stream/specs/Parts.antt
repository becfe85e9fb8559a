-- Parts of pieces that are read without the streams (SOSP 2011, section 4.1: a sealed extent never changes).
use Rattle.std.specs.Prelude.{◌≤◌, ◌<◌, ⊤, ℕ, Bool, true, false, not, nat_lt, List, [], length, get_or, slice_range}
use Rattle.stamp_values.specs.declared.place.Place.{Place}
use Rattle.stamp_types.specs.declared.piece.Piece.{Piece}
use Rattle.stamp_types.specs.declared.piece.Piece.TheVariants.{Bytes, At}
use Rattle.stream_manager.specs.Streams.{Streamed}
use Rattle.partition_stream.specs.declared.part.BlockSource.{BlockSource}
use Rattle.partition_stream.specs.declared.part.BlockSource.TheVariants as source

-- a part of a piece
pub record KeptPart : Type 0 where
  -- the bytes that it gives
  pub bytes : List ℕ
  -- whether they were read already
  pub is_read : Bool

-- the bytes that were read, or those of a block of a sealed extent
abbrev pub part_bytes : BlockSource → List ℕ
part_bytes (source.Read bytes) = bytes
part_bytes (source.Sealed handle index from to) = slice_range (get_or handle.blocks index []) from to

-- the bytes were read already
abbrev pub was_read : BlockSource → Bool
was_read (source.Read bytes) = true
was_read (source.Sealed handle index from to) = false

abbrev pub part_of : BlockSource → KeptPart
part_of s = record { bytes = part_bytes s; is_read = was_read s }

-- the extent has the block, and the block has the bytes
abbrev pub IsReadable : BlockSource → Type 0
IsReadable (source.Read bytes) = ⊤
IsReadable (source.Sealed handle index from to) = (index < length handle.blocks) × (from ≤ to) × (to ≤ length (get_or handle.blocks index []))

-- the place is not in a sealed extent
abbrev pub is_in_last : Streamed → Place → Bool
is_in_last s place = not (nat_lt place.extent (length s.sealed))

-- the piece is at a place that is not in a sealed extent
abbrev pub is_piece_in_last : Streamed → Piece → Bool
is_piece_in_last s (At place n) = is_in_last s place
is_piece_in_last s (Bytes bs) = false
