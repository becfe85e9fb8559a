use Rattle.std.proofs.Common.{sym, ap, ◌∙◌}
use Rattle.stamp_types.specs.Pieces.{is_pieces, pieces_len}
use Rattle.stamp_types.proofs.Cuts.{is_pieces-cut, pieces_len-cut}
use Rattle.stamp_types.proofs.pieces.Pieces.cut.Goals as goal

pub invariant_of-result : goal.invariant_of-result
invariant_of-result c =
    let are = c.new.ensures ∙ c.in_ok-pieces.ensures in (
      ap is_pieces are ∙ is_pieces-cut c.args.share.now c.requires,
      c.len.ensures ∙ sym (ap pieces_len are ∙ pieces_len-cut c.args.share.now),
    )
