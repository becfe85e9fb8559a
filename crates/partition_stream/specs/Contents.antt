-- Content whose bytes are in blocks (SOSP 2011, section 4.1).
use Rattle.std.specs.Prelude.{◌≡◌, ◌≤◌, ◌+◌, ℕ, List, [], Some, All, length, map, unwrap_or}
use Rattle.std.specs.List.{flat_map}
use Rattle.stamp_values.specs.declared.place.Place.{Place}
use Rattle.extent_node.specs.Copies.{Block}
use Rattle.stamp_types.specs.Pieces.{piece_len, piece_bytes, held}
use Rattle.stamp_types.specs.declared.piece.Piece.{Piece}
use Rattle.stamp_types.specs.declared.piece.Piece.TheVariants.{Bytes, At}
use Rattle.stream_manager.specs.Places.{block_at}

-- the bytes of a piece: those that it holds, or those of the block at its place
abbrev pub bytes_at : List (List Block) → Piece → List ℕ
bytes_at es (Bytes bs) = bs
bytes_at es (At place n) = unwrap_or (block_at es place) []

-- the number of the extent that has the block of a piece
abbrev pub extent_of : Piece → ℕ
extent_of (Bytes bs) = 0
extent_of (At place n) = place.extent

-- the bytes of content: those of its pieces, joined
abbrev pub content_at : List (List Block) → List Piece → List ℕ
content_at es ps = flat_map (bytes_at es) ps

-- some block is in the last extent or in the one before it. A block that is excluded twice leaves two extents without a block at the end
pub record EndsWithBlock (es : List (List Block)) : Type 0 where
  pub place : Place
  pub block : Block
  pub here : block_at es place ≡ Some block
  pub near : length es ≤ place.extent + 2

-- the piece is a place at which there is a block of its length
abbrev pub IsStored : List (List Block) → Piece → Type 0
IsStored es (Bytes bs) = ⊥
IsStored es (At place n) = (block : Block) × ((block_at es place ≡ Some block) × (length block ≡ n))

-- each piece of the content is stored
abbrev pub AreStored : List (List Block) → List Piece → Type 0
AreStored es ps = All (IsStored es) ps

-- the piece has the length of the one that holds its bytes, and is stored where these bytes are read
pub record IsPlaced (es : List (List Block)) (piece p : Piece) : Type 0 where
  pub len : piece_len p ≡ piece_len piece
  pub stored : IsStored es p
  pub bytes : bytes_at es p ≡ piece_bytes piece

-- the pieces have the lengths of those of the content, and are stored where the bytes of the content are read
pub record ArePlaced (es : List (List Block)) (content ps : List Piece) : Type 0 where
  pub lengths : map piece_len ps ≡ map piece_len content
  pub stored : AreStored es ps
  pub bytes : content_at es ps ≡ held content
