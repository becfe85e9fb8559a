use Rattle.std.proofs.Common.{◌≡◌, ◌∙◌, Ok, Result, Some, ap, inl, refl, subst, sym, true}
use Rattle.stamp_types.specs.Changes.{KeyedAct}
use Rattle.stamp_types.specs.World.{part_at}
use Rattle.partition_stream.specs.Meanings.{held_of}
use Rattle.partition_stream.specs.Streams.{logged}
use Rattle.stored_rows.specs.Noting.{taken_by}
use Rattle.stored_rows.specs.Ranges.{covers}
use Rattle.partition_stream.specs.declared.faults.TakeFault.{TakeFault}
use Rattle.stored_rows.specs.Rewriting.{IsBlobRow, IsStepped, LeavesRowDoubt}
use Rattle.stored_rows.specs.declared.cursor.Cursor.TheVariants as cursor
use Rattle.stored_rows.specs.declared.sweep_steps.Went.{Went}
use Rattle.stored_rows.proofs.StepLemmas.{other_doubt}
use Rattle.stored_rows.proofs.SteppedLemmas.{at_key, blob_covered, blob_doubt, blob_not_noted, blob_passed, held_in_rows, row_inside}
use Rattle.stored_rows.proofs.HeardLemmas.{hears_not_written, hears_written}
use Rattle.stored_rows.proofs.sweep_steps.step_blob.Goals as goal

pub write_blob-logged-requires-clause-own : goal.write_blob-logged-requires-clause-own
write_blob-logged-requires-clause-own g c =
    let covered : covers c.args.range.now c.args.key ≡ true =
    blob_covered c.args.streams.now c.args.range.now c.args.rows.now c.args.doubt.now c.requires.loaded c.args.key c.args.name.items c.requires.next.blob c.requires.next.there in
    subst (λ k. part_at c.args.rows.now k ≡ held_of (logged c.args.streams.now) k) (sym (ap (λ (x : KeyedAct). x.key) c.requires.next.row))
    (held_in_rows c.args.streams.now c.args.range.now c.args.rows.now c.args.doubt.now c.requires.loaded c.args.key covered)

pub write_blob-logged-requires-clause-row : goal.write_blob-logged-requires-clause-row
write_blob-logged-requires-clause-row g c =
    subst (IsBlobRow c.args.rows.now) (sym c.requires.next.row) (record { name = c.args.name.items; blob = c.requires.next.blob; there = c.requires.next.there; row = refl })

pub returns-in-Ok-clause-stepped : goal.returns-in-Ok-clause-stepped
returns-in-Ok-clause-stepped g c =
    let at = row_inside c.args.streams.now c.args.range.now c.args.rows.now c.args.doubt.now c.requires.loaded c.args.sweep.now c.requires.swept c.args.key c.args.name c.args.row c.requires.next in
    let ok : taken_by c.write_blob-logged.result ≡ Ok tt = sym c.note_row.ensures.answer ∙ c.in-Ok.is in
    at_key c.args.row.key c.args.key (λ k. IsStepped c.args.range.now c.args.streams.now c.write_blob-logged.new.streams c.write_blob-logged.new.rows c.note_row.new.doubt c.write_blob-logged.new.spare
    (record c.args.sweep.now { cursor = cursor.In k (Some c.args.name) })) at.own
    (blob_passed c.args.streams.now c.write_blob-logged.new.streams c.args.range.now c.args.sweep.now c.args.rows.now c.write_blob-logged.new.rows c.args.doubt.now c.note_row.new.doubt
    c.requires.loaded c.requires.swept c.requires.sure c.write_blob-logged.ensures.whole c.write_blob-logged.ensures.follows c.args.row (at.covered) (inl at.begun)
    c.write_blob-logged.result c.write_blob-logged.ensures.logged c.write_blob-logged.ensures.again c.write_blob-logged.ensures.rows c.note_row.ensures.kept c.write_blob-logged.new.spare c.write_blob-logged.ensures.spare c.args.name.items c.requires.next.blob at.row c.requires.next.last c.args.name refl at.at at.first at.begun ok)

pub returns-in-Err-clause-stepped : goal.returns-in-Err-clause-stepped
returns-in-Err-clause-stepped g c =
    let at = row_inside c.args.streams.now c.args.range.now c.args.rows.now c.args.doubt.now c.requires.loaded c.args.sweep.now c.requires.swept c.args.key c.args.name c.args.row c.requires.next in
    blob_not_noted c.args.streams.now c.write_blob-logged.new.streams c.args.range.now c.args.sweep.now c.args.rows.now c.write_blob-logged.new.rows c.args.doubt.now c.note_row.new.doubt
    c.requires.loaded c.requires.swept c.requires.sure c.write_blob-logged.ensures.whole c.write_blob-logged.ensures.follows c.args.row (at.covered) (inl at.begun)
    c.write_blob-logged.result c.write_blob-logged.ensures.logged c.write_blob-logged.ensures.again c.write_blob-logged.ensures.rows c.note_row.ensures.kept c.write_blob-logged.new.spare c.write_blob-logged.ensures.spare

pub returns-in-Err-clause-doubt : goal.returns-in-Err-clause-doubt
returns-in-Err-clause-doubt g c =
    let at = row_inside c.args.streams.now c.args.range.now c.args.rows.now c.args.doubt.now c.requires.loaded c.args.sweep.now c.requires.swept c.args.key c.args.name c.args.row c.requires.next in
    other_doubt (Unit {0}) Went c.in-Err.fault c.write_blob-logged.new.streams
    (subst (λ (r : Result (Unit {0}) TakeFault). LeavesRowDoubt r c.write_blob-logged.new.streams) (sym c.note_row.ensures.answer ∙ c.in-Err.is) (blob_doubt c.args.streams.now c.write_blob-logged.new.streams c.args.range.now c.args.sweep.now c.args.rows.now c.write_blob-logged.new.rows c.args.doubt.now c.note_row.new.doubt
    c.requires.loaded c.requires.swept c.requires.sure c.write_blob-logged.ensures.whole c.write_blob-logged.ensures.follows c.args.row (at.covered) (inl at.begun)
    c.write_blob-logged.result c.write_blob-logged.ensures.logged c.write_blob-logged.ensures.again c.write_blob-logged.ensures.rows c.note_row.ensures.kept c.write_blob-logged.new.spare c.write_blob-logged.ensures.spare))

pub returns-in-Ok-clause-heard : goal.returns-in-Ok-clause-heard
returns-in-Ok-clause-heard g c = hears_written c.write_blob-logged.result c.note_row.result (g.W.Wire.calls c.args.wire.now) (g.W.Wire.calls c.write_blob-logged.new.wire) (g.W.Wire.faults c.args.wire.now) (g.W.Wire.faults c.write_blob-logged.new.wire) c.note_row.ensures.answer c.in-Ok.is c.write_blob-logged.ensures.heard

pub returns-in-Err-clause-heard : goal.returns-in-Err-clause-heard
returns-in-Err-clause-heard g c = hears_not_written Went c.write_blob-logged.result c.note_row.result c.in-Err.fault (g.W.Wire.calls c.args.wire.now) (g.W.Wire.calls c.write_blob-logged.new.wire) (g.W.Wire.faults c.args.wire.now) (g.W.Wire.faults c.write_blob-logged.new.wire) c.note_row.ensures.answer c.in-Err.is c.write_blob-logged.ensures.heard
