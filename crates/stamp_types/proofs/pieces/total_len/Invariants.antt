use Rattle.std.proofs.Common.{◌≡◌, take}
use Rattle.stamp_types.specs.Pieces.{pieces_len}
use Rattle.stamp_types.proofs.pieces.total_len.Given as goal

-- the pieces so far have so many bytes
abbrev pub invariant-loop-piece : goal.invariant-loop-piece
invariant-loop-piece l = l.total ≡ pieces_len (take l.piece-index l.pieces)
