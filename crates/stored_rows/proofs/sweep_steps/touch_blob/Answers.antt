use Rattle.std.proofs.Common.{◌≡◌, ◌∙◌, Ok, Some, ap, refl, subst, sym}
use Rattle.std.specs.FinMap as finite
use Rattle.stamp_types.specs.World.{blob_in, part_at}
use Rattle.stored_rows.specs.Noting.{taken_by}
use Rattle.stored_rows.specs.Rewriting.{IsBlobRow, IsStepped}
use Rattle.stored_rows.specs.Swept.{knows_blob, knows_name, with_blob_row}
use Rattle.stored_rows.specs.declared.sweep.Sweep.{Sweep}
use Rattle.stored_rows.proofs.SteppedLemmas.{at_key, blob_not_noted, blob_row_noted, blob_there, blob_writable, row_touched}
use Rattle.stored_rows.specs.declared.step.Rewritten.{Rewritten}
use Rattle.stored_rows.proofs.HeardLemmas.{hears_not_written, hears_written}
use Rattle.stored_rows.proofs.sweep_steps.touch_blob.Goals as goal

pub row_now-requires : goal.row_now-requires
row_now-requires g c =
    let there : finite.get (part_at c.args.rows.now c.args.key.now).blobs c.args.name.now ≡ Some (blob_in (part_at c.args.rows.now c.args.key.now) c.args.name.now) =
    blob_there (part_at c.args.rows.now c.args.key.now) c.args.name.now (knows_blob c.args.sweep.now.cursor c.args.sweep.now.touched c.args.key.now c.args.name.now)
    (ap (λ p. knows_name c.args.sweep.now.cursor c.args.sweep.now.touched c.args.key.now p c.args.name.now) (sym c.find.ensures) ∙ sym c.knows_name.ensures ∙ c.if-knows_name.false) in
    blob_writable c.args.streams.now c.args.range.now c.args.rows.now c.args.doubt.now c.requires.loaded c.args.key.now c.args.name.now c.kept.ensures there

pub write_blob-logged-requires-clause-row : goal.write_blob-logged-requires-clause-row
write_blob-logged-requires-clause-row g c =
    let there : finite.get (part_at c.args.rows.now c.args.key.now).blobs c.args.name.now ≡ Some (blob_in (part_at c.args.rows.now c.args.key.now) c.args.name.now) =
    blob_there (part_at c.args.rows.now c.args.key.now) c.args.name.now (knows_blob c.args.sweep.now.cursor c.args.sweep.now.touched c.args.key.now c.args.name.now)
    (ap (λ p. knows_name c.args.sweep.now.cursor c.args.sweep.now.touched c.args.key.now p c.args.name.now) (sym c.find.ensures) ∙ sym c.knows_name.ensures ∙ c.if-knows_name.false) in
    subst (IsBlobRow c.args.rows.now) (sym c.in-Ok.ensures) (record { name = c.args.name.now; blob = blob_in (part_at c.args.rows.now c.args.key.now) c.args.name.now; there = there; row = refl })

pub returns-in-Ok-note_blob-clause-stepped : goal.returns-in-Ok-note_blob-clause-stepped
returns-in-Ok-note_blob-clause-stepped g c =
    let at =
    row_touched c.args.streams.now c.args.range.now c.args.rows.now c.args.doubt.now c.requires.loaded c.args.sweep.now c.requires.swept c.args.key.now c.args.name.now
    (blob_in (part_at c.args.rows.now c.args.key.now) c.args.name.now) c.in-Ok.row c.requires.covered c.requires.begun c.in-Ok.ensures in
    let ok : taken_by c.write_blob-logged.result ≡ Ok tt = sym c.note_row.ensures.answer ∙ c.in-Ok-note_row.is in
    subst (λ (w : Sweep). IsStepped c.args.range.now c.args.streams.now c.write_blob-logged.new.streams c.write_blob-logged.new.rows c.note_row.new.doubt c.write_blob-logged.new.spare w) (sym c.in-Ok-note_blob.ensures.noted)
    (at_key c.in-Ok.row.key c.args.key.now
    (λ k. IsStepped c.args.range.now c.args.streams.now c.write_blob-logged.new.streams c.write_blob-logged.new.rows c.note_row.new.doubt c.write_blob-logged.new.spare (with_blob_row c.args.sweep.now k c.args.name.now)) at.own
    (blob_row_noted c.args.streams.now c.write_blob-logged.new.streams c.args.range.now c.args.sweep.now c.args.rows.now c.write_blob-logged.new.rows c.args.doubt.now c.note_row.new.doubt
    c.requires.loaded c.requires.swept c.requires.sure c.write_blob-logged.ensures.whole c.write_blob-logged.ensures.follows c.in-Ok.row at.covered at.ready
    c.write_blob-logged.result c.write_blob-logged.ensures.logged c.write_blob-logged.ensures.again c.write_blob-logged.ensures.rows c.note_row.ensures.kept c.write_blob-logged.new.spare c.write_blob-logged.ensures.spare c.args.name.now (blob_in (part_at c.args.rows.now c.args.key.now) c.args.name.now) at.row ok))

pub returns-in-Err-note_blob-clause-stepped : goal.returns-in-Err-note_blob-clause-stepped
returns-in-Err-note_blob-clause-stepped g c =
    let at =
    row_touched c.args.streams.now c.args.range.now c.args.rows.now c.args.doubt.now c.requires.loaded c.args.sweep.now c.requires.swept c.args.key.now c.args.name.now
    (blob_in (part_at c.args.rows.now c.args.key.now) c.args.name.now) c.in-Ok.row c.requires.covered c.requires.begun c.in-Ok.ensures in
    subst (λ (w : Sweep). IsStepped c.args.range.now c.args.streams.now c.write_blob-logged.new.streams c.write_blob-logged.new.rows c.note_row.new.doubt c.write_blob-logged.new.spare w) (sym c.in-Err-note_blob.ensures.refused)
    (blob_not_noted c.args.streams.now c.write_blob-logged.new.streams c.args.range.now c.args.sweep.now c.args.rows.now c.write_blob-logged.new.rows c.args.doubt.now c.note_row.new.doubt
    c.requires.loaded c.requires.swept c.requires.sure c.write_blob-logged.ensures.whole c.write_blob-logged.ensures.follows c.in-Ok.row at.covered at.ready
    c.write_blob-logged.result c.write_blob-logged.ensures.logged c.write_blob-logged.ensures.again c.write_blob-logged.ensures.rows c.note_row.ensures.kept c.write_blob-logged.new.spare c.write_blob-logged.ensures.spare)

pub returns-in-Err-clause-stepped : goal.returns-in-Err-clause-stepped
returns-in-Err-clause-stepped g c =
    let at =
    row_touched c.args.streams.now c.args.range.now c.args.rows.now c.args.doubt.now c.requires.loaded c.args.sweep.now c.requires.swept c.args.key.now c.args.name.now
    (blob_in (part_at c.args.rows.now c.args.key.now) c.args.name.now) c.in-Ok.row c.requires.covered c.requires.begun c.in-Ok.ensures in
    blob_not_noted c.args.streams.now c.write_blob-logged.new.streams c.args.range.now c.args.sweep.now c.args.rows.now c.write_blob-logged.new.rows c.args.doubt.now c.note_row.new.doubt
    c.requires.loaded c.requires.swept c.requires.sure c.write_blob-logged.ensures.whole c.write_blob-logged.ensures.follows c.in-Ok.row at.covered at.ready
    c.write_blob-logged.result c.write_blob-logged.ensures.logged c.write_blob-logged.ensures.again c.write_blob-logged.ensures.rows c.note_row.ensures.kept c.write_blob-logged.new.spare c.write_blob-logged.ensures.spare

pub returns-in-Ok-note_blob-clause-heard : goal.returns-in-Ok-note_blob-clause-heard
returns-in-Ok-note_blob-clause-heard g c = hears_written c.write_blob-logged.result c.note_row.result (g.W.Wire.calls c.args.wire.now) (g.W.Wire.calls c.write_blob-logged.new.wire) (g.W.Wire.faults c.args.wire.now) (g.W.Wire.faults c.write_blob-logged.new.wire) c.note_row.ensures.answer c.in-Ok-note_row.is c.write_blob-logged.ensures.heard

pub returns-in-Err-note_blob-clause-heard : goal.returns-in-Err-note_blob-clause-heard
returns-in-Err-note_blob-clause-heard g c = hears_written c.write_blob-logged.result c.note_row.result (g.W.Wire.calls c.args.wire.now) (g.W.Wire.calls c.write_blob-logged.new.wire) (g.W.Wire.faults c.args.wire.now) (g.W.Wire.faults c.write_blob-logged.new.wire) c.note_row.ensures.answer c.in-Ok-note_row.is c.write_blob-logged.ensures.heard

pub returns-in-Err-clause-heard : goal.returns-in-Err-clause-heard
returns-in-Err-clause-heard g c = hears_not_written Rewritten c.write_blob-logged.result c.note_row.result c.in-Err.fault (g.W.Wire.calls c.args.wire.now) (g.W.Wire.calls c.write_blob-logged.new.wire) (g.W.Wire.faults c.args.wire.now) (g.W.Wire.faults c.write_blob-logged.new.wire) c.note_row.ensures.answer c.in-Err.is c.write_blob-logged.ensures.heard
