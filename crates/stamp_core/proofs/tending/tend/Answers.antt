use Rattle.std.proofs.Common.{arith}
use Rattle.stored_slot.specs.Served.{Faulted}
use Rattle.stamp_core.specs.Tending.{care_answer}
use Rattle.stamp_core.proofs.TendLemmas.{spans_tended, tended_there}
use Rattle.stamp_core.proofs.tending.tend.Goals as goal

pub returns-clause-after : goal.returns-clause-after
returns-clause-after g c =
    spans_tended c.args.slots.now.items c.args.spans.now c.args.at c.args.care (Faulted (g.W.Wire.faults c.args.wire.now) (g.W.Wire.faults c.tend_slot.new.wire)) (care_answer c.tend_slot.result)
    c.index_mut.result.now c.tend_slot.new.slot _ (omega (arith, c.if-at-len.false, c.len.ensures)) c.index_mut.ensures.value c.tend_slot.ensures.tended c.requires.before

pub returns-clause-tended : goal.returns-clause-tended
returns-clause-tended g c =
    tended_there c.args.slots.now.items c.args.spans.now c.args.at c.args.care (Faulted (g.W.Wire.faults c.args.wire.now) (g.W.Wire.faults c.tend_slot.new.wire)) (care_answer c.tend_slot.result)
    c.index_mut.result.now c.tend_slot.new.slot _ (omega (arith, c.if-at-len.false, c.len.ensures)) c.index_mut.ensures.value c.tend_slot.ensures.tended
