use Rattle.std.proofs.Common.{ap, arith}
use Rattle.std.proofs.lemmas.List.Sums.{sum_by_more_le}
use Rattle.stamp_types.specs.Pieces.{piece_len}
use Rattle.stamp_types.proofs.PieceLengths.{pieces_len-is_pieces}
use Rattle.stamp_types.proofs.pieces.total_len.Goals as goal

pub overflow_add-total : goal.overflow_add-total
overflow_add-total c =
    let ps = c.args.pieces.now in
    omega (
      arith,
      c.loop-piece.invariant,
      c.len-total.ensures,
      ap piece_len c.piece-item.is,
      sum_by_more_le piece_len ps c.loop-piece.piece-index c.piece-item.result c.loop-piece-test.true,
      pieces_len-is_pieces ps c.requires,
    )
