use Rattle.std.proofs.Common.{rules}
use Rattle.stored_rows.specs.NextRows.{IsNextOfSweep}
use Rattle.stored_rows.specs.declared.cursor.Cursor.TheVariants as cursor
use Rattle.stored_rows.specs.declared.next_row.NextRow.TheVariants as next
use Rattle.stored_rows.proofs.CheckpointLemmas.{rows_writable}
use Rattle.stored_rows.proofs.CursorMoves.{past_all, past_blobs}
use Rattle.stored_rows.proofs.SteppedLemmas.{only_cursor}
use Rattle.stored_rows.proofs.sweep_steps.step_row.Goals as goal

pub next_row-requires : goal.next_row-requires
next_row-requires g c = rows_writable c.args.streams.now c.kept.ensures c.args.range.now c.args.rows.now c.requires.loaded.rows

pub returns-in-Ok-NoBlob-clause-stepped : goal.returns-in-Ok-NoBlob-clause-stepped
returns-in-Ok-NoBlob-clause-stepped g c =
    let own : IsNextOfSweep c.args.sweep.now.cursor c.args.rows.now (next.NoBlob c.in-Ok-NoBlob.key) = search rules in
    only_cursor c.args.range.now c.args.streams.now c.args.rows.now c.args.doubt.now c.args.spare.now (record c.args.sweep.now { cursor = cursor.After c.in-Ok-NoBlob.key }) c.requires.loaded
    (past_blobs c.args.sweep.now c.args.range.now c.args.streams.now c.requires.swept c.args.rows.now c.requires.loaded.rows c.in-Ok-NoBlob.key own.0
    own.1.0 own.1.1) c.requires.sure

pub returns-in-Ok-NoContainer-clause-stepped : goal.returns-in-Ok-NoContainer-clause-stepped
returns-in-Ok-NoContainer-clause-stepped g c =
    let own : IsNextOfSweep c.args.sweep.now.cursor c.args.rows.now next.NoContainer = search rules in
    only_cursor c.args.range.now c.args.streams.now c.args.rows.now c.args.doubt.now c.args.spare.now (record c.args.sweep.now { cursor = cursor.End }) c.requires.loaded
    (past_all c.args.sweep.now c.args.range.now c.args.streams.now c.requires.swept c.args.rows.now c.requires.loaded.rows own.0 own.1) c.requires.sure
