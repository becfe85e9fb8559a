use Rattle.std.proofs.Common.{arith}
use Rattle.stored_slot.specs.Served.{Faulted}
use Rattle.stamp_core.proofs.SweepLemmas.{sweeps_there, spans_swept}
use Rattle.stamp_core.proofs.sweeping.sweep_at.Goals as goal

pub returns-clause-after : goal.returns-clause-after
returns-clause-after g c =
    spans_swept c.args.slots.now.items c.args.spans.now c.args.at (Faulted (g.W.Wire.faults c.args.wire.now) (g.W.Wire.faults c.sweep_slot.new.wire))
    c.index_mut.result.now c.sweep_slot.new.slot _ (omega (arith, c.if-at-len.false, c.len.ensures)) c.index_mut.ensures.value c.sweep_slot.result c.sweep_slot.ensures.swept c.requires.before

pub returns-clause-swept : goal.returns-clause-swept
returns-clause-swept g c =
    sweeps_there c.args.slots.now.items c.args.spans.now c.args.at (Faulted (g.W.Wire.faults c.args.wire.now) (g.W.Wire.faults c.sweep_slot.new.wire))
    c.index_mut.result.now c.sweep_slot.new.slot _ (omega (arith, c.if-at-len.false, c.len.ensures)) c.index_mut.ensures.value c.sweep_slot.result c.sweep_slot.ensures.swept
