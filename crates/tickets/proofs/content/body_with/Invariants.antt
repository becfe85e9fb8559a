use Rattle.std.proofs.Common.{◌≡◌, ◌++◌, take}
use Rattle.extent_seal.specs.Counting.{Grows}
use Rattle.extent_seal.specs.Heard.{AsksAreHeard}
use Rattle.tickets.specs.Tickets.{parts_bytes}
use Rattle.tickets.proofs.content.body_with.Given as goal

-- the bytes are those of the body and of the parts so far
abbrev pub invariant-loop-part : goal.invariant-loop-part
invariant-loop-part g l = record {
  bytes : l.whole ≡ l.body ++ parts_bytes (take l.part-index l.parts);
  heard : AsksAreHeard (g.W.Wire.calls l.initial.wire) (g.W.Wire.calls l.wire) (g.W.Wire.faults l.initial.wire) (g.W.Wire.faults l.wire);
  grown : Grows (g.W.Wire.faults l.initial.wire) (g.W.Wire.faults l.wire);
}
