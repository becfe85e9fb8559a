use Rattle.stamp_locks.proofs.NumberLemmas.{spans_back, spans_more}
use Rattle.stamp_locks.proofs.table.Table.split.Goals as goal

pub invariant_of-self-then-is_err-clause-rise : goal.invariant_of-self-then-is_err-clause-rise
invariant_of-self-then-is_err-clause-rise g c =
    spans_back c.split.new.self c.join.new.self c.args.slot
    (spans_more c.args.self.now.spans c.split.new.self c.args.slot c.args.middle.now c.args.self.now.rise c.in_default.ensures.allowed c.in_default.ensures.split) c.join.ensures

pub invariant_of-self-else-is_err-clause-rise : goal.invariant_of-self-else-is_err-clause-rise
invariant_of-self-else-is_err-clause-rise g c =
    spans_more c.args.self.now.spans c.split.new.self c.args.slot c.args.middle.now c.args.self.now.rise c.in_default.ensures.allowed c.in_default.ensures.split

pub halve-halved-requires-clause-rise : goal.halve-halved-requires-clause-rise
halve-halved-requires-clause-rise g c =
    spans_more c.args.self.now.spans c.split.new.self c.args.slot c.args.middle.now c.args.self.now.rise c.in_default.ensures.allowed c.in_default.ensures.split
