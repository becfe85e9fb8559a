-- The blocks of a blob.
use Rattle.std.proofs.Common.{◌≡◌, ◌≤◌, ◌&&◌, true, List, [], ◌∷◌, arith, le-leb, leb-true, length, nat_le}
use Rattle.std.specs.List.{list_all}
use Rattle.std.proofs.lemmas.Bool.{and_parts}
use Rattle.std.proofs.lemmas.List.Sums.{sum_by-cons}
use Rattle.stamp_types.specs.declared.committed.Block.{Block}
use Rattle.stamp_types.specs.declared.piece.Piece.{Piece}
use Rattle.stamp_types.specs.Pieces.{is_pieces, pieces_len}
use Rattle.stamp_types.specs.Changes.{are_blocks, blocks_len, has_ids_or_one, is_block}
use Rattle.stamp_types.specs.World.{whole_block}
use Rattle.stamp_types.proofs.PieceLengths.{pieces_len-is_pieces}

-- the one block that Put Blob makes of its content is a good list of blocks
pub are_blocks_whole : (content : List Piece) → is_pieces content ≡ true → are_blocks (whole_block content ∷ []) ≡ true
are_blocks_whole content are =
    let most = pieces_len-is_pieces content are in
    let all : blocks_len (whole_block content ∷ []) ≤ 268435456 = omega (arith, most, sum_by-cons (λ b. pieces_len b.content) (whole_block content) []) in
    le-leb (blocks_len (whole_block content ∷ [])) 268435456 all

-- the blocks of a blob have at most 268,435,456 bytes together
pub within_blob : (bs : List (Block (List Piece))) → are_blocks bs ≡ true → blocks_len bs ≤ 268435456
within_blob bs are =
    leb-true (blocks_len bs) 268435456 (and_parts (nat_le (length bs) 50000 && list_all is_block bs && has_ids_or_one bs) (nat_le (blocks_len bs) 268435456) are).1
