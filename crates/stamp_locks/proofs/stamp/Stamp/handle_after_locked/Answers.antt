use Rattle.std.specs.Prelude.{is_some, false}
use Rattle.std.specs.Arc.{arc_value}
use Rattle.std.proofs.Common.{◌≡◌, None, ap, ◌∙◌}
use Rattle.stamp_locks.specs.Shown.{HandlesAfterBy, IsHandledAfterWith}
use Rattle.stamp_locks.proofs.TellLemmas.{if_ok}
use Rattle.stamp_locks.proofs.stamp.Stamp.handle_after_locked.Goals as goal

pub returns-clause-handled : goal.returns-clause-handled
returns-clause-handled g c =
    if_ok c.handle_after.result (λ r. HandlesAfterBy g.W.Wire.faults (arc_value c.deref.result.now.pairs) c.args.pass c.args.request.now c.args.moment r.0.answer r.0.entry r.1)
    (λ r. IsHandledAfterWith g.W.Wire.faults c.args.pass c.args.request.now c.args.moment r.0.answer r.0.entry r.1) (λ r answers. (arc_value c.deref.result.now.pairs, answers)) c.handle_after.ensures.handled

pub returns-clause-unasked : goal.returns-clause-unasked
returns-clause-unasked g c =
    if_ok c.handle_after.result (λ r. c.is_some.result ≡ false → r.0.entry ≡ None) (λ r. c.args.self.now.book ≡ None → r.0.entry ≡ None)
    (λ r unasked none. unasked (c.is_some.ensures ∙ ap is_some none)) c.handle_after.ensures.unasked
