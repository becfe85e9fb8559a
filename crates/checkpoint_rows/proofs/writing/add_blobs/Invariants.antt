use Rattle.std.proofs.Common.{◌≡◌, None, length, map}
use Rattle.extent_seal.specs.Counting.{Grows}
use Rattle.extent_seal.specs.Heard.{AsksAreHeard}
use Rattle.row_trees.specs.RowRecords.{blob_row_of}
use Rattle.stream_manager.specs.Streams.{Streamed}
use Rattle.checkpoint_rows.specs.Writing.{AreReady, HasRows, recorded}
use Rattle.checkpoint_rows.proofs.writing.add_blobs.Given as goal

-- what has the rows that are left after those so far has all rows
abbrev pub invariant-loop-name : goal.invariant-loop-name
invariant-loop-name g l = record {
  can : (goal.iterator-loop-name g).can_next l.left;
  ends : (goal.iterator-loop-name g).is_finite l.left;
  whole : l.new.last.tried ≡ None;
  ready : AreReady l.key l.left;
  written : (t : Streamed) → HasRows l.new (map (recorded l.key) (map blob_row_of l.left)) t → HasRows l.initial.new (map (recorded l.key) (map blob_row_of l.initial.left)) t;
  limit : l.new.limit ≡ l.initial.new.limit;
  counted : Grows (g.W.Wire.faults l.initial.wire) (g.W.Wire.faults l.wire);
  heard : AsksAreHeard (g.W.Wire.calls l.initial.wire) (g.W.Wire.calls l.wire) (g.W.Wire.faults l.initial.wire) (g.W.Wire.faults l.wire);
}

abbrev pub decreases-loop-name : goal.decreases-loop-name
decreases-loop-name g l = length l.left
