use Rattle.stamp_locks.proofs.LentLemmas.{slot_for, told_after, told_back}
use Rattle.stamp_locks.proofs.locked.Locked.handle_shown_found.Goals as goal

pub returns-in-Ok-clause-handled : goal.returns-in-Ok-clause-handled
returns-in-Ok-clause-handled g c =
    told_after g.W.Wire.faults c.args.pairs.now c.args.spans.now c.args.self.now.slot c.serve_after.new.self.slot c.args.ready.now.request.now c.args.ready.now.moment c.args.self.now.wire c.serve_after.new.self.wire
    c.args.pass c.in-Ok.pass c.in-Ok.audited.answer c.in-Ok.audited.entry
    (slot_for c.args.spans.now c.args.ready.now.first c.args.ready.now.request.now c.args.self.now.slot c.requires.first c.requires.begins c.requires.covered) c.requires.current c.in-Ok.ensures.answered
    c.in-Ok.ensures.audited

pub returns-in-Err-clause-back : goal.returns-in-Err-clause-back
returns-in-Err-clause-back g c =
    told_back c.args.spans.now c.args.self.now.slot c.args.ready.now.request.now c.args.pass c.in-Err.pass c.in-Err.fault
    (slot_for c.args.spans.now c.args.ready.now.first c.args.ready.now.request.now c.args.self.now.slot c.requires.first c.requires.begins c.requires.covered) c.in-Err.ensures.back c.in-Err.ensures.fault
