use Rattle.std.proofs.Common.{Ok}
use Rattle.extent_seal.specs.Counting.{all_faults}
use Rattle.stored_slot.specs.SteadyCounts.{no_faults}
use Rattle.served_slots.proofs.EnterLemmas.{never_less}
use Rattle.served_slots.proofs.SteadyLemmas.{audited_steadily, entry_steadily}
use Rattle.served_slots.proofs.steadily.tell_steadily.Goals as goal

pub returns-clause-served : goal.returns-clause-served
returns-clause-served c =
    (audited_steadily _ (never_less (all_faults no_faults)) c.args.slot.now c.audit_if-answer.new.slot c.args.ready.now.request.now c.args.ready.now.moment c.requires.sure c.audit_if-answer.result.answer
    c.audit_if-answer.result.entry (Ok c.in-Ok.replied) c.audit_if-answer.ensures.served c.in-Ok.ensures).0

pub returns-clause-audited : goal.returns-clause-audited
returns-clause-audited c =
    entry_steadily _ (never_less (all_faults no_faults)) c.args.slot.now c.audit_if-answer.new.slot c.args.ready.now.request.now c.args.ready.now.moment c.requires.sure c.audit_if-answer.result.answer
    c.audit_if-answer.result.entry c.audit_if-answer.ensures.served
