use Rattle.std.proofs.Common.{◌≡◌, None}
use Rattle.extent_seal.specs.Counting.{Grows}
use Rattle.extent_seal.specs.Heard.{AsksAreHeard}
use Rattle.stored_rows.specs.Compactions.{KeepsTheRange}
use Rattle.stored_rows.specs.States.{doubt_of}
use Rattle.stored_rows.proofs.stored_rows.StoredRows.sweep_step.Given as goal

-- the range is kept, and no row is in doubt
abbrev pub invariant-rows : goal.invariant-rows
invariant-rows g l = record {
  kept : KeepsTheRange l.initial.self l.self;
  loaded : l.self.is_loaded ≡ l.initial.self.is_loaded;
  sure : doubt_of l.self ≡ None;
  grown : Grows (g.W.Wire.faults l.initial.wire) (g.W.Wire.faults l.wire);
  heard : AsksAreHeard (g.W.Wire.calls l.initial.wire) (g.W.Wire.calls l.wire) (g.W.Wire.faults l.initial.wire) (g.W.Wire.faults l.wire);
}
