use Rattle.std.proofs.Common.{◌≡◌, map, take}
use Rattle.extent_seal.specs.Counting.{Grows}
use Rattle.extent_seal.specs.Heard.{AsksAreHeard}
use Rattle.tickets.specs.Answers.{kept_span}
use Rattle.tickets.proofs.answer.parts_of.Given as goal

-- the parts are those of the spans so far
abbrev pub invariant-loop-span : goal.invariant-loop-span
invariant-loop-span g l = record {
  same : l.streams ≡ l.initial.streams;
  parts : l.parts.items ≡ map (kept_span l.initial.streams.blobs) (take l.span-index l.spans);
  heard : AsksAreHeard (g.W.Wire.calls l.initial.wire) (g.W.Wire.calls l.wire) (g.W.Wire.faults l.initial.wire) (g.W.Wire.faults l.wire);
  grown : Grows (g.W.Wire.faults l.initial.wire) (g.W.Wire.faults l.wire);
}
