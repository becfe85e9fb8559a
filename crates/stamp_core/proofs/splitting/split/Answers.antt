use Rattle.std.proofs.Common.{subst, sym}
use Rattle.stream_manager.specs.declared.faults.StoredFault.{StoredFault}
use Rattle.stamp_core.specs.Ranges.{HaveSpans}
use Rattle.stamp_core.proofs.RangeLemmas.{inside, within}
use Rattle.stamp_core.proofs.SplitLemmas.{one_point_more, spans_back, spans_made, split_failed}
use Rattle.stamp_core.proofs.splitting.split.Goals as goal

pub halve_or_join-requires-clause-within : goal.halve_or_join-requires-clause-within
halve_or_join-requires-clause-within g c = within c.args.slots.now.items c.args.spans.now c.requires.before c.args.at c.args.middle.now c.in_default.ensures.allowed

pub halve_or_join-requires-clause-inside : goal.halve_or_join-requires-clause-inside
halve_or_join-requires-clause-inside g c = inside c.args.slots.now.items c.args.spans.now c.requires.before c.args.at c.args.middle.now c.in_default.ensures.allowed

pub halve_or_join-requires-clause-split : goal.halve_or_join-requires-clause-split
halve_or_join-requires-clause-split g c = one_point_more c.args.spans.now c.split.new.self c.args.at c.args.middle.now c.in_default.ensures.allowed c.in_default.ensures.split

pub returns-in-Err-clause-after : goal.returns-in-Err-clause-after
returns-in-Err-clause-after g c = subst (HaveSpans c.args.slots.now.items) (sym c.in-Err.ensures.unchanged) c.requires.before

pub returns-in-Ok-clause-after : goal.returns-in-Ok-clause-after
returns-in-Ok-clause-after g c =
    spans_made c.args.slots.now.items c.halve_or_join.new.slots.items c.args.spans.now c.split.new.self c.halve_or_join.new.spans c.args.at c.args.middle.now c.requires.before c.in_default.ensures.allowed c.in_default.ensures.split
    StoredFault tt c.in-Ok.ensures.halved c.in-Ok.ensures.same_spans

pub returns-in-Err-halve_or_join-clause-after : goal.returns-in-Err-halve_or_join-clause-after
returns-in-Err-halve_or_join-clause-after g c =
    spans_back c.args.slots.now.items c.halve_or_join.new.slots.items c.args.spans.now c.split.new.self c.halve_or_join.new.spans c.args.at c.args.middle.now c.requires.before c.in_default.ensures.allowed c.in_default.ensures.split
    c.in-Err-halve_or_join.ensures.halved c.in-Err-halve_or_join.ensures.joined

pub returns-in-Err-halve_or_join-clause-split : goal.returns-in-Err-halve_or_join-clause-split
returns-in-Err-halve_or_join-clause-split g c =
    split_failed c.args.slots.now.items c.halve_or_join.new.slots.items c.args.spans.now c.split.new.self c.halve_or_join.new.spans c.args.at c.args.middle.now c.requires.before c.in_default.ensures.allowed c.in_default.ensures.split
    c.in-Err-halve_or_join.fault (g.W.Wire.faults c.args.wire.now) (g.W.Wire.faults c.halve_or_join.new.wire) c.in-Err-halve_or_join.ensures.counted c.in-Err-halve_or_join.ensures.halved c.in-Err-halve_or_join.ensures.joined
    c.fault_of_slot.result c.fault_of_slot.ensures
