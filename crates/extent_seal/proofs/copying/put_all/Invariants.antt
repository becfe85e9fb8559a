use Rattle.extent_node.specs.Faults.{CountsNone}
use Rattle.extent_seal.specs.Repairs.{CountsCalls}
use Rattle.extent_seal.proofs.copying.put_all.Given as goal

abbrev pub invariant-loop-i : goal.invariant-loop-i
invariant-loop-i g l = record {
  called : CountsCalls l.node l._i (g.W.Wire.calls l.initial.wire).puts (g.W.Wire.calls l.wire).puts;
  counted : CountsNone (g.W.Wire.faults l.initial.wire).puts (g.W.Wire.faults l.wire).puts;
  unasked : CountsNone (g.W.Wire.calls l.initial.wire).asks (g.W.Wire.calls l.wire).asks;
  unfailed : CountsNone (g.W.Wire.faults l.initial.wire).asks (g.W.Wire.faults l.wire).asks;
}
