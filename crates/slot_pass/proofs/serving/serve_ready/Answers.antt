use Rattle.std.proofs.Common.{ap, length, List}
use Rattle.stamp_types.specs.declared.past.Past.{Past}
use Rattle.slot_pass.proofs.AfterLemmas.{can_become}
use Rattle.slot_pass.proofs.serving.serve_ready.Goals as goal

pub follow-requires : goal.follow-requires
follow-requires g c =
    can_become c.args.slot.now c.serve-audited.new.slot c.args.key.now c.args.call.now.request.now c.args.call.now.moment _ c.serve-audited.result.answer (length c.history-known.result.now) c.args.front.now
    c.requires.names (ap (λ (l : List Past). length l) c.history-known.ensures.history) c.requires.ready c.serve-audited.ensures.answered
