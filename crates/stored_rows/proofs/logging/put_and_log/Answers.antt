use Rattle.std.proofs.Common.{◌≡◌, Err, ap, false, length, refl, sym, subst}
use Rattle.extent_seal.proofs.HeardLemmas.{heard_then}
use Rattle.stamp_types.specs.ActKinds.{is_row}
use Rattle.stamp_types.specs.Changes.{KeyedAct, content_of}
use Rattle.stream_manager.specs.Streams.{laid}
use Rattle.stored_rows.specs.Heard.{HearsLogged}
use Rattle.stored_rows.specs.Logging.{IsKeptFrom, IsLoggedFrom, IsPutAndLogged, KeepsFound}
use Rattle.stored_rows.specs.States.{IsKeptAs}
use Rattle.stored_rows.specs.Counting.{FailsLogged}
use Rattle.stored_rows.proofs.CountLemmas.{grows_twice, log_fails}
use Rattle.stored_rows.proofs.HeardLemmas.{hears_log, hears_put}
use Rattle.stored_rows.proofs.KeptAsLemmas.{kept_as_put, placed_found}
use Rattle.stored_rows.proofs.LoggingLemmas.{logged_more, logged_refused}
use Rattle.stored_rows.specs.Rewriting.{IfLogged}
use Rattle.stored_rows.proofs.RowDoubtLemmas.{placed_plain, unlogged_plain}
use Rattle.stored_rows.proofs.SweepCallLemmas.{kept_from, refused_from, same_on}
use Rattle.stored_rows.proofs.logging.put_and_log.Goals as goal

pub log_change-requires : goal.log_change-requires
log_change-requires g c =
    let same : IsKeptAs (laid c.put_pieces.new.streams.blobs) c.args.change c.with_pieces-kept.result =
    subst (IsKeptAs (laid c.put_pieces.new.streams.blobs) c.args.change) (sym c.with_pieces-kept.ensures)
    (kept_as_put (laid c.put_pieces.new.streams.blobs) c.args.change (content_of c.args.change.act) c.in-Ok.pieces c.requires.plain refl c.in-Ok.ensures.put) in
    record { stored = same.stored }

pub returns-in-Ok-log_change-clause-logged : goal.returns-in-Ok-log_change-clause-logged
returns-in-Ok-log_change-clause-logged g c =
    let same : IsKeptAs (laid c.put_pieces.new.streams.blobs) c.args.change c.with_pieces-kept.result =
    subst (IsKeptAs (laid c.put_pieces.new.streams.blobs) c.args.change) (sym c.with_pieces-kept.ensures)
    (kept_as_put (laid c.put_pieces.new.streams.blobs) c.args.change (content_of c.args.change.act) c.in-Ok.pieces c.requires.plain refl c.in-Ok.ensures.put) in
    logged_more c.args.streams.now c.put_pieces.new.streams c.log_change.new.self (c.args.change, c.args.epoch) c.with_pieces-kept.result c.requires.sure
    c.put_pieces.ensures.log c.put_pieces.ensures.rows c.put_pieces.ensures.places same c.log_change.ensures.blobs c.log_change.ensures.rows
    c.in-Ok-log_change.ensures.logged

pub returns-in-Err-log_change-clause-logged : goal.returns-in-Err-log_change-clause-logged
returns-in-Err-log_change-clause-logged g c =
    let same : IsKeptAs (laid c.put_pieces.new.streams.blobs) c.args.change c.with_pieces-kept.result =
    subst (IsKeptAs (laid c.put_pieces.new.streams.blobs) c.args.change) (sym c.with_pieces-kept.ensures)
    (kept_as_put (laid c.put_pieces.new.streams.blobs) c.args.change (content_of c.args.change.act) c.in-Ok.pieces c.requires.plain refl c.in-Ok.ensures.put) in
    subst (λ e. IsPutAndLogged (Err e) c.args.streams.now (c.args.change, c.args.epoch) c.log_change.new.self) (sym c.not_logged.ensures)
    (logged_refused c.args.streams.now c.put_pieces.new.streams c.log_change.new.self (c.args.change, c.args.epoch) c.with_pieces-kept.result c.requires.sure
    c.put_pieces.ensures.log c.put_pieces.ensures.rows c.put_pieces.ensures.places same c.log_change.ensures.blobs c.log_change.ensures.rows
    c.in-Err-log_change.fault c.in-Err-log_change.ensures.logged)

pub returns-in-Ok-log_change-clause-from : goal.returns-in-Ok-log_change-clause-from
returns-in-Ok-log_change-clause-from g c =
    subst (IsKeptFrom (length c.args.streams.now.blobs.sealed) c.args.change) (sym c.with_pieces-kept.ensures)
    (kept_from (laid c.put_pieces.new.streams.blobs) (length c.args.streams.now.blobs.sealed) c.args.change (content_of c.args.change.act) c.in-Ok.pieces c.requires.plain refl c.in-Ok.ensures.put c.in-Ok.ensures.after)

pub returns-in-Err-log_change-clause-from : goal.returns-in-Err-log_change-clause-from
returns-in-Err-log_change-clause-from g c =
    subst (λ e. IsLoggedFrom (length c.args.streams.now.blobs.sealed) c.args.change (Err e)) (sym c.not_logged.ensures)
    (refused_from (length c.args.streams.now.blobs.sealed) c.args.change c.with_pieces-kept.result c.in-Err-log_change.fault
    (subst (IsKeptFrom (length c.args.streams.now.blobs.sealed) c.args.change) (sym c.with_pieces-kept.ensures)
    (kept_from (laid c.put_pieces.new.streams.blobs) (length c.args.streams.now.blobs.sealed) c.args.change (content_of c.args.change.act) c.in-Ok.pieces c.requires.plain refl c.in-Ok.ensures.put c.in-Ok.ensures.after)))

pub returns-in-Ok-log_change-clause-found : goal.returns-in-Ok-log_change-clause-found
returns-in-Ok-log_change-clause-found g c = subst (KeepsFound c.args.change) (sym c.with_pieces-kept.ensures) (placed_found c.args.change c.in-Ok.pieces)

pub returns-in-Ok-log_change-clause-counted : goal.returns-in-Ok-log_change-clause-counted
returns-in-Ok-log_change-clause-counted g c = grows_twice _ _ _ c.in-Ok.ensures.counted c.in-Ok-log_change.ensures.counted

pub returns-in-Err-log_change-clause-counted : goal.returns-in-Err-log_change-clause-counted
returns-in-Err-log_change-clause-counted g c =
    subst (λ e. FailsLogged (Err e) (g.W.Wire.faults c.args.wire.now) (g.W.Wire.faults c.log_change.new.wire)) (sym c.not_logged.ensures)
    (log_fails c.in-Err-log_change.fault c.with_pieces-kept.result _ _ _ _ _ c.in-Ok.ensures.counted c.in-Err-log_change.ensures.counted)

pub returns-in-Err-clause-log_follows : goal.returns-in-Err-clause-log_follows
returns-in-Err-clause-log_follows g c = same_on c.args.streams.now.log c.put_pieces.new.streams.log (ap laid c.put_pieces.ensures.log)

pub returns-in-Ok-log_change-clause-plain_kept : goal.returns-in-Ok-log_change-clause-plain_kept
returns-in-Ok-log_change-clause-plain_kept g c =
    subst (λ (d : KeyedAct). is_row d.act ≡ false) (sym c.with_pieces-kept.ensures) (placed_plain c.args.change c.in-Ok.pieces c.requires.plain)

pub returns-in-Err-log_change-clause-plain_kept : goal.returns-in-Err-log_change-clause-plain_kept
returns-in-Err-log_change-clause-plain_kept g c =
    subst (λ e. IfLogged (Err e) (λ d. is_row d.act ≡ false)) (sym c.not_logged.ensures)
    (unlogged_plain c.in-Err-log_change.fault c.with_pieces-kept.result
    (subst (λ (d : KeyedAct). is_row d.act ≡ false) (sym c.with_pieces-kept.ensures) (placed_plain c.args.change c.in-Ok.pieces c.requires.plain)))

pub returns-in-Err-clause-heard : goal.returns-in-Err-clause-heard
returns-in-Err-clause-heard g c =
    subst (λ e. HearsLogged (Err e) (g.W.Wire.calls c.args.wire.now) (g.W.Wire.calls c.put_pieces.new.wire) (g.W.Wire.faults c.args.wire.now) (g.W.Wire.faults c.put_pieces.new.wire)) (sym c.from.ensures)
    (hears_put c.in-Err.fault (g.W.Wire.calls c.args.wire.now) (g.W.Wire.calls c.put_pieces.new.wire) (g.W.Wire.faults c.args.wire.now) (g.W.Wire.faults c.put_pieces.new.wire)
    (λ other. c.in-Err.ensures.heard (λ e. other (cc))))

pub returns-in-Ok-log_change-clause-heard : goal.returns-in-Ok-log_change-clause-heard
returns-in-Ok-log_change-clause-heard g c =
    heard_then (g.W.Wire.calls c.args.wire.now) (g.W.Wire.calls c.put_pieces.new.wire) (g.W.Wire.calls c.log_change.new.wire)
    (g.W.Wire.faults c.args.wire.now) (g.W.Wire.faults c.put_pieces.new.wire) (g.W.Wire.faults c.log_change.new.wire)
    (c.in-Ok.ensures.heard (λ e. absurd (cc))) (c.in-Ok-log_change.ensures.heard (λ e. absurd (cc)) (λ e. absurd (cc)))

pub returns-in-Err-log_change-clause-heard : goal.returns-in-Err-log_change-clause-heard
returns-in-Err-log_change-clause-heard g c =
    subst (λ e. HearsLogged (Err e) (g.W.Wire.calls c.args.wire.now) (g.W.Wire.calls c.log_change.new.wire) (g.W.Wire.faults c.args.wire.now) (g.W.Wire.faults c.log_change.new.wire)) (sym c.not_logged.ensures)
    (hears_log c.in-Err-log_change.fault c.with_pieces-kept.result (g.W.Wire.calls c.args.wire.now) (g.W.Wire.calls c.put_pieces.new.wire) (g.W.Wire.calls c.log_change.new.wire)
    (g.W.Wire.faults c.args.wire.now) (g.W.Wire.faults c.put_pieces.new.wire) (g.W.Wire.faults c.log_change.new.wire)
    (c.in-Ok.ensures.heard (λ e. absurd (cc))) (λ d b. c.in-Err-log_change.ensures.heard (λ e. d (cc)) (λ e. b (cc))))
