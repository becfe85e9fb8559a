use Rattle.std.proofs.Common.{◌≡◌, None, length}
use Rattle.extent_seal.specs.Counting.{Grows}
use Rattle.extent_seal.specs.Heard.{AsksAreHeard}
use Rattle.stream_manager.specs.Streams.{Streamed}
use Rattle.checkpoint_rows.specs.Writing.{AreReadyParts, HasRows, all_records}
use Rattle.checkpoint_rows.proofs.writing.add_containers.Given as goal

-- what has the rows of the containers that are left after those so far has all rows
abbrev pub invariant-loop-key : goal.invariant-loop-key
invariant-loop-key g l = record {
  can : (goal.iterator-loop-key g).can_next l.left;
  ends : (goal.iterator-loop-key g).is_finite l.left;
  whole : l.new.last.tried ≡ None;
  ready : AreReadyParts l.left;
  written : (t : Streamed) → HasRows l.new (all_records l.left) t → HasRows l.initial.new (all_records l.initial.left) t;
  limit : l.new.limit ≡ l.initial.new.limit;
  counted : Grows (g.W.Wire.faults l.initial.wire) (g.W.Wire.faults l.wire);
  heard : AsksAreHeard (g.W.Wire.calls l.initial.wire) (g.W.Wire.calls l.wire) (g.W.Wire.faults l.initial.wire) (g.W.Wire.faults l.wire);
}

abbrev pub decreases-loop-key : goal.decreases-loop-key
decreases-loop-key g l = length l.left
