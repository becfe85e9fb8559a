use Rattle.std.proofs.Common.{◌≡◌, ◌∙◌, Err, ap, subst, sym}
use Rattle.stamp_types.specs.Changes.{KeyedAct}
use Rattle.stream_manager.specs.Streams.{laid}
use Rattle.partition_stream.proofs.MovedRowLemmas.{act_stored}
use Rattle.stored_rows.specs.Rewriting.{IsRewritten}
use Rattle.stored_rows.proofs.RowWriteLemmas.{logged_then, rewritten_same, row_after_put, row_rewritten, row_stored}
use Rattle.stored_rows.specs.Faults.{unlogged_of_put}
use Rattle.stored_rows.specs.Heard.{HearsLogged}
use Rattle.stored_rows.proofs.HeardLemmas.{hears_logged_later, hears_put_again}
use Rattle.stored_rows.proofs.rewriting.write_blob.Goals as goal

pub put_again-requires-clause-stored : goal.put_again-requires-clause-stored
put_again-requires-clause-stored g c =
    row_stored c.args.streams.now c.args.streams.now c.args.rows.now c.args.row.now c.args.row.now c.requires.row c.requires.own c.kept.ensures

pub log_blob-requires-clause-stored : goal.log_blob-requires-clause-stored
log_blob-requires-clause-stored g c = act_stored (laid c.args.streams.now.blobs) (laid c.put_again.new.streams.blobs) c.args.row.now.act c.in-Ok.moved.act c.in-Ok.ensures.moved.act

pub returns-in-Ok-clause-logged : goal.returns-in-Ok-clause-logged
returns-in-Ok-clause-logged g c =
    row_after_put c.args.streams.now c.put_again.new.streams c.log_blob.new.streams c.put_again.ensures.log c.put_again.ensures.rows c.put_again.ensures.places c.log_blob.result
    c.log_blob.ensures.logged

pub returns-in-Ok-clause-again : goal.returns-in-Ok-clause-again
returns-in-Ok-clause-again g c =
    let re : IsRewritten c.args.streams.now c.args.row.now c.log_blob.new.streams c.in-Ok.moved =
    rewritten_same c.args.streams.now c.put_again.new.streams c.log_blob.new.streams c.args.row.now c.in-Ok.moved c.log_blob.ensures.blobs
    (row_rewritten c.args.streams.now c.put_again.new.streams c.args.rows.now c.args.row.now c.in-Ok.moved c.requires.row c.requires.own c.kept.ensures c.put_again.ensures.places
    c.in-Ok.ensures.moved c.in-Ok.ensures.after) in
    logged_then (λ (d : KeyedAct). d ≡ c.in-Ok.moved) (IsRewritten c.args.streams.now c.args.row.now c.log_blob.new.streams)
    (λ d is. subst (IsRewritten c.args.streams.now c.args.row.now c.log_blob.new.streams) (sym is) re) c.log_blob.result c.log_blob.ensures.row

pub returns-in-Ok-clause-heard : goal.returns-in-Ok-clause-heard
returns-in-Ok-clause-heard g c =
    hears_logged_later c.log_blob.result (g.W.Wire.calls c.args.wire.now) (g.W.Wire.calls c.put_again.new.wire) (g.W.Wire.calls c.log_blob.new.wire)
    (g.W.Wire.faults c.args.wire.now) (g.W.Wire.faults c.put_again.new.wire) (g.W.Wire.faults c.log_blob.new.wire) c.in-Ok.ensures.heard c.log_blob.ensures.heard

pub returns-in-Err-clause-heard : goal.returns-in-Err-clause-heard
returns-in-Err-clause-heard g c =
    subst (λ e. HearsLogged (Err e) (g.W.Wire.calls c.args.wire.now) (g.W.Wire.calls c.put_again.new.wire) (g.W.Wire.faults c.args.wire.now) (g.W.Wire.faults c.put_again.new.wire)) (sym (c.from.ensures ∙ ap unlogged_of_put c.stored_fault_of_compaction.ensures))
    (hears_put_again c.in-Err.fault (g.W.Wire.calls c.args.wire.now) (g.W.Wire.calls c.put_again.new.wire) (g.W.Wire.faults c.args.wire.now) (g.W.Wire.faults c.put_again.new.wire) c.in-Err.ensures.heard)
