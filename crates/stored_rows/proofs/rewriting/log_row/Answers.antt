use Rattle.std.proofs.Common.{Err, subst, sym}
use Rattle.stored_rows.proofs.RowWriteLemmas.{on_logged}
use Rattle.stored_rows.specs.Heard.{HearsLogged}
use Rattle.stored_rows.proofs.HeardLemmas.{hears_row}
use Rattle.stored_rows.proofs.rewriting.log_row.Goals as goal

pub returns-in-Ok-clause-follows : goal.returns-in-Ok-clause-follows
returns-in-Ok-clause-follows g c =
    on_logged c.args.streams.now c.log_change.new.self c.log_change.ensures.follows c.log_change.ensures.blobs c.log_change.ensures.rows c.log_change.ensures.limit

pub returns-in-Err-clause-follows : goal.returns-in-Err-clause-follows
returns-in-Err-clause-follows g c =
    on_logged c.args.streams.now c.log_change.new.self c.log_change.ensures.follows c.log_change.ensures.blobs c.log_change.ensures.rows c.log_change.ensures.limit

pub returns-in-Ok-clause-heard : goal.returns-in-Ok-clause-heard
returns-in-Ok-clause-heard g c = c.in-Ok.ensures.heard (λ e. absurd (cc)) (λ e. absurd (cc))

pub returns-in-Err-clause-heard : goal.returns-in-Err-clause-heard
returns-in-Err-clause-heard g c =
    subst (λ e. HearsLogged (Err e) (g.W.Wire.calls c.args.wire.now) (g.W.Wire.calls c.log_change.new.wire) (g.W.Wire.faults c.args.wire.now) (g.W.Wire.faults c.log_change.new.wire)) (sym c.not_logged.ensures)
    (hears_row c.in-Err.fault c.args.row (g.W.Wire.calls c.args.wire.now) (g.W.Wire.calls c.log_change.new.wire) (g.W.Wire.faults c.args.wire.now) (g.W.Wire.faults c.log_change.new.wire) (λ d b. c.in-Err.ensures.heard (λ e. d (cc)) (λ e. b (cc))))
