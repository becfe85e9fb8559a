use Rattle.stamp_types.proofs.Cuts.{held-cut}
use Rattle.stamp_types.proofs.cut.cut_pieces_hold_the_bytes.Goals as goal

pub returns : goal.returns
returns c = held-cut
