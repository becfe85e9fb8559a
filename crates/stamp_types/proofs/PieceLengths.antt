-- How many bytes pieces may have.
use Rattle.std.proofs.Common.{◌≡◌, ◌*◌, ◌≤◌, true, List, [], ◌∷◌, length, arith, nat_le, leb-true}
use Rattle.std.proofs.lemmas.Bool.{and_parts}
use Rattle.std.proofs.lemmas.List.Sums.{sum_by-cons}
use Rattle.std.specs.List.{list_all}
use Rattle.stamp_types.specs.declared.piece.Piece.{Piece}
use Rattle.stamp_types.specs.Pieces.{is_piece, is_pieces, piece_len, pieces_len}

pieces_len-all : (ps : List Piece) → list_all is_piece ps ≡ true → pieces_len ps ≤ length ps * 4194304
pieces_len-all [] all = omega arith
pieces_len-all (p ∷ ps) all =
    let both = and_parts (is_piece p) (list_all is_piece ps) all in
    let ends = and_parts (nat_le 1 (piece_len p)) (nat_le (piece_len p) 4194304) both.0 in
    omega (arith, sum_by-cons piece_len p ps, leb-true (piece_len p) 4194304 ends.1, pieces_len-all ps both.1)

-- 16 pieces have 67,108,864 bytes at most
pub pieces_len-is_pieces : (ps : List Piece) → is_pieces ps ≡ true → pieces_len ps ≤ 67108864
pieces_len-is_pieces ps are =
    let both = and_parts (nat_le (length ps) 16) (list_all is_piece ps) are in
    omega (arith, leb-true (length ps) 16 both.0, pieces_len-all ps both.1)
