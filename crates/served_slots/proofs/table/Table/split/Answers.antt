use Rattle.served_slots.proofs.SpanLemmas.{joined}
use Rattle.served_slots.proofs.table.Table.split.Goals as goal

-- src/table.rt:193:13
pub returns-then-is_err-clause-unchanged : goal.returns-then-is_err-clause-unchanged
returns-then-is_err-clause-unchanged g c = joined c.args.self.now.spans c.split_span.new.spans c.join.new.self c.find-slot.result c.args.middle.now c.find-slot.ensures.within c.in_ok-split_span.ensures.split c.join.ensures
