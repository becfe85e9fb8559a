-- Pieces of content ("Put Blob", "Put Block": a blob of at most 64 MiB in one request, a block of at most 4 MiB).
use Rattle.std.specs.Prelude.{ℕ, zero, suc, Bool, true, false, ◌&&◌, nat_le, List, [], ◌∷◌, length, take, drop, sum_by}
use Rattle.std.specs.List.{list_all, flat_map}
use Rattle.stamp_types.specs.declared.piece.Piece.{Piece}
use Rattle.stamp_types.specs.declared.piece.Piece.TheVariants.{Bytes, At}
use Rattle.stamp_values.specs.Limits.{piece_limit, pieces_limit}

-- how many bytes a piece has
abbrev pub piece_len : Piece → ℕ
piece_len (Bytes bs) = length bs
piece_len (At _ n) = n

-- how many bytes pieces have together
abbrev pub pieces_len : List Piece → ℕ
pieces_len ps = sum_by piece_len ps

-- the piece has 1 to 4,194,304 bytes
abbrev pub is_piece : Piece → Bool
is_piece p = nat_le 1 (piece_len p) && nat_le (piece_len p) piece_limit

-- there are at most 16 pieces, and each piece has 1 to 4,194,304 bytes
abbrev pub is_pieces : List Piece → Bool
is_pieces ps = nat_le (length ps) pieces_limit && list_all is_piece ps

-- the bytes that a piece holds itself: a piece that is a place in a stream holds no bytes
abbrev pub piece_bytes : Piece → List ℕ
piece_bytes (Bytes bs) = bs
piece_bytes (At _ n) = []

-- the bytes that pieces hold themselves, joined
abbrev pub held : List Piece → List ℕ
held ps = flat_map piece_bytes ps

-- the piece holds its bytes
abbrev pub is_held_piece : Piece → Bool
is_held_piece (Bytes bs) = true
is_held_piece (At _ n) = false

-- the piece is a place in a stream
abbrev pub is_placed_piece : Piece → Bool
is_placed_piece (Bytes bs) = false
is_placed_piece (At _ n) = true

-- each piece holds its bytes
abbrev pub is_held : List Piece → Bool
is_held ps = list_all is_held_piece ps

-- each piece is a place in a stream
abbrev pub is_placed : List Piece → Bool
is_placed ps = list_all is_placed_piece ps

-- the bytes cut into at most `n` pieces: first a piece of 4,194,304 bytes from the front, then the rest in the same way
abbrev pub cut_at_most : ℕ → List ℕ → List Piece
cut_at_most zero bs = []
cut_at_most (suc n) [] = []
cut_at_most (suc n) (b ∷ bs) = Bytes (take piece_limit (b ∷ bs)) ∷ cut_at_most n (drop piece_limit (b ∷ bs))

-- the bytes cut into pieces of 4,194,304 bytes and the rest; there are never more pieces than bytes, and an empty list gives no pieces
abbrev pub cut : List ℕ → List Piece
cut bs = cut_at_most (length bs) bs
