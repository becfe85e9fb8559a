use Rattle.stamp_locks.proofs.LentLemmas.{met, slot_for}
use Rattle.stamp_locks.proofs.locked.Locked.handle_found.Goals as goal

pub returns-clause-handled : goal.returns-clause-handled
returns-clause-handled g c =
    met g.W.Wire.faults c.args.pairs.now c.args.spans.now c.args.self.now.slot c.serve.new.self.slot c.args.ready.now.request.now c.args.ready.now.moment c.args.self.now.wire c.serve.new.self.wire c.ask.result.now c.serve.result.answer
    c.serve.result.entry c.ask.ensures.value
    (slot_for c.args.spans.now c.args.ready.now.first c.args.ready.now.request.now c.args.self.now.slot c.requires.first c.requires.begins c.requires.covered) c.requires.current c.show.ensures c.serve.ensures.served
    c.serve.ensures.audited
