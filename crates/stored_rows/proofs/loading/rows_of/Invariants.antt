use Rattle.extent_seal.specs.Counting.{Grows}
use Rattle.extent_seal.specs.Heard.{AsksAreHeard}
use Rattle.stored_rows.specs.Loaded.{HaveRead, changes_left}
use Rattle.stored_rows.proofs.loading.rows_of.Given as goal

-- the rows have the changes that were read
abbrev pub invariant-changes : goal.invariant-changes
invariant-changes g l = record {
  read : HaveRead l.range l.streams l.position l.rows;
  grown : Grows (g.W.Wire.faults l.initial.wire) (g.W.Wire.faults l.wire);
  heard : AsksAreHeard (g.W.Wire.calls l.initial.wire) (g.W.Wire.calls l.wire) (g.W.Wire.faults l.initial.wire) (g.W.Wire.faults l.wire);
}

-- the changes that are left
abbrev pub decreases-changes : goal.decreases-changes
decreases-changes g l = changes_left l.streams l.position
