use Rattle.std.specs.Prelude.{false}
use Rattle.std.proofs.Common.{◌≡◌, ℕ, IfOk, None, subst, ◌∙◌}
use Rattle.stamp_types.specs.Requests.{Asked}
use Rattle.slot_state.specs.Pairs.{Pairs}
use Rattle.stamp_locks.specs.Shown.{HandlesAfterBy}
use Rattle.stamp_locks.proofs.TellLemmas.{if_ok}
use Rattle.stamp_locks.proofs.table.Table.handle_after.Goals as goal

pub returns-clause-handled : goal.returns-clause-handled
returns-clause-handled g c =
    subst (λ (ps : Pairs). IfOk c.handle_after.result (λ r. HandlesAfterBy g.W.Wire.faults ps c.args.pass c.args.request.now c.args.moment r.0.answer r.0.entry r.1)) c.deref-2.ensures
    (subst (λ (q : Asked). IfOk c.handle_after.result (λ r. HandlesAfterBy g.W.Wire.faults c.deref-2.result.now c.args.pass q c.args.moment r.0.answer r.0.entry r.1)) c.in-Ok.ensures.request
    (subst (λ (t : ℕ). IfOk c.handle_after.result (λ r. HandlesAfterBy g.W.Wire.faults c.deref-2.result.now c.args.pass c.in-Ok.ready.request.now t r.0.answer r.0.entry r.1)) c.in-Ok.ensures.moment
    c.handle_after.ensures.handled))

pub returns-clause-unasked : goal.returns-clause-unasked
returns-clause-unasked g c =
    if_ok c.handle_after.result (λ r. c.in-Ok.ready.is_audited ≡ false → r.0.entry ≡ None) (λ r. c.args.is_audited ≡ false → r.0.entry ≡ None)
    (λ r unasked asked. unasked (c.in-Ok.ensures.audited ∙ asked)) c.handle_after.ensures.unasked
