use Rattle.std.proofs.Common.{◌≡◌, ◌≤◌, length, All}
use Rattle.std.specs.Prelude.{vec_capacity}
use Rattle.served_slots.proofs.reserve.Pieces.make.Given as goal

-- the pieces that were made so far
abbrev pub invariant-loop-made : goal.invariant-loop-made
invariant-loop-made l = record {
  count : length l.pieces.items ≡ l._made;
  rooms : All (λ piece. 65_536 ≤ vec_capacity piece) l.pieces.items;
}
