use Rattle.std.proofs.Common.{◌≡◌, ◌∙◌, ◌||◌, Ok, ap, subst, sym, true}
use Rattle.stamp_types.specs.World.{part_at}
use Rattle.stored_rows.specs.Noting.{taken_by}
use Rattle.stored_rows.specs.Rewriting.{IsStepped}
use Rattle.stored_rows.specs.Swept.{is_unseen, knows_row}
use Rattle.stored_rows.specs.declared.sweep.Sweep.{Sweep}
use Rattle.stored_rows.proofs.SteppedLemmas.{held_in_rows, not_unseen, own_not_noted, own_noted}
use Rattle.stored_rows.proofs.TouchLemmas.{container_known}
use Rattle.stored_rows.specs.declared.step.Rewritten.{Rewritten}
use Rattle.stored_rows.proofs.HeardLemmas.{hears_not_written, hears_written}
use Rattle.stored_rows.proofs.sweep_steps.touch_container.Goals as goal

pub write_container-logged-requires-clause-seen : goal.write_container-logged-requires-clause-seen
write_container-logged-requires-clause-seen g c =
    not_unseen c.args.streams.now c.args.key.now (part_at c.args.rows.now c.args.key.now) (knows_row c.args.sweep.now.cursor c.args.sweep.now.touched c.args.key.now) c.kept.ensures
    (held_in_rows c.args.streams.now c.args.range.now c.args.rows.now c.args.doubt.now c.requires.loaded c.args.key.now c.requires.covered)
    (ap (λ p. knows_row c.args.sweep.now.cursor c.args.sweep.now.touched c.args.key.now || is_unseen p) (sym c.find.ensures) ∙ sym c.needs_no_row.ensures ∙ c.if-needs_no_row.false)

pub returns-in-Ok-note_container-clause-stepped : goal.returns-in-Ok-note_container-clause-stepped
returns-in-Ok-note_container-clause-stepped g c =
    let ok : taken_by c.write_container-logged.result ≡ Ok tt = sym c.note_row.ensures.answer ∙ c.in-Ok.is in
    subst (λ (w : Sweep). IsStepped c.args.range.now c.args.streams.now c.write_container-logged.new.streams c.args.rows.now c.note_row.new.doubt c.args.spare.now w) (sym c.in-Ok-note_container.ensures.noted)
    (own_noted c.args.streams.now c.write_container-logged.new.streams c.args.range.now c.args.sweep.now c.args.rows.now c.args.doubt.now c.note_row.new.doubt c.requires.loaded c.requires.swept
    c.requires.sure c.write_container-logged.ensures.whole c.write_container-logged.ensures.follows c.args.key.now c.requires.covered c.write_container-logged.result
    c.write_container-logged.ensures.logged c.write_container-logged.ensures.row c.note_row.ensures.kept c.args.spare.now ok)

pub returns-in-Ok-note_container-clause-begun : goal.returns-in-Ok-note_container-clause-begun
returns-in-Ok-note_container-clause-begun g c = λ done.
    subst (λ (w : Sweep). (knows_row w.cursor w.touched c.args.key.now || is_unseen (part_at c.args.rows.now c.args.key.now)) ≡ true) (sym c.in-Ok-note_container.ensures.noted)
    (ap (λ b. b || is_unseen (part_at c.args.rows.now c.args.key.now)) (container_known c.args.sweep.now c.args.key.now))

pub returns-in-Err-note_container-clause-stepped : goal.returns-in-Err-note_container-clause-stepped
returns-in-Err-note_container-clause-stepped g c =
    subst (λ (w : Sweep). IsStepped c.args.range.now c.args.streams.now c.write_container-logged.new.streams c.args.rows.now c.note_row.new.doubt c.args.spare.now w) (sym c.in-Err-note_container.ensures.refused)
    (own_not_noted c.args.streams.now c.write_container-logged.new.streams c.args.range.now c.args.sweep.now c.args.rows.now c.args.doubt.now c.note_row.new.doubt c.requires.loaded c.requires.swept
    c.requires.sure c.write_container-logged.ensures.whole c.write_container-logged.ensures.follows c.args.key.now c.requires.covered c.write_container-logged.result
    c.write_container-logged.ensures.logged c.write_container-logged.ensures.row c.note_row.ensures.kept c.args.spare.now)

pub returns-in-Err-clause-stepped : goal.returns-in-Err-clause-stepped
returns-in-Err-clause-stepped g c = own_not_noted c.args.streams.now c.write_container-logged.new.streams c.args.range.now c.args.sweep.now c.args.rows.now c.args.doubt.now c.note_row.new.doubt c.requires.loaded c.requires.swept
    c.requires.sure c.write_container-logged.ensures.whole c.write_container-logged.ensures.follows c.args.key.now c.requires.covered c.write_container-logged.result
    c.write_container-logged.ensures.logged c.write_container-logged.ensures.row c.note_row.ensures.kept c.args.spare.now

pub returns-in-Ok-note_container-clause-heard : goal.returns-in-Ok-note_container-clause-heard
returns-in-Ok-note_container-clause-heard g c = hears_written c.write_container-logged.result c.note_row.result (g.W.Wire.calls c.args.wire.now) (g.W.Wire.calls c.write_container-logged.new.wire) (g.W.Wire.faults c.args.wire.now) (g.W.Wire.faults c.write_container-logged.new.wire) c.note_row.ensures.answer c.in-Ok.is c.write_container-logged.ensures.heard

pub returns-in-Err-note_container-clause-heard : goal.returns-in-Err-note_container-clause-heard
returns-in-Err-note_container-clause-heard g c = hears_written c.write_container-logged.result c.note_row.result (g.W.Wire.calls c.args.wire.now) (g.W.Wire.calls c.write_container-logged.new.wire) (g.W.Wire.faults c.args.wire.now) (g.W.Wire.faults c.write_container-logged.new.wire) c.note_row.ensures.answer c.in-Ok.is c.write_container-logged.ensures.heard

pub returns-in-Err-clause-heard : goal.returns-in-Err-clause-heard
returns-in-Err-clause-heard g c = hears_not_written Rewritten c.write_container-logged.result c.note_row.result c.in-Err.fault (g.W.Wire.calls c.args.wire.now) (g.W.Wire.calls c.write_container-logged.new.wire) (g.W.Wire.faults c.args.wire.now) (g.W.Wire.faults c.write_container-logged.new.wire) c.note_row.ensures.answer c.in-Err.is c.write_container-logged.ensures.heard
