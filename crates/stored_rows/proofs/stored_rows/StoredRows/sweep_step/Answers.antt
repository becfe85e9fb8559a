use Rattle.stored_rows.proofs.HeardLemmas.{hears_take_later}
use Rattle.stored_rows.proofs.stored_rows.StoredRows.sweep_step.Goals as goal

pub returns-in-Err-clause-heard : goal.returns-in-Err-clause-heard
returns-in-Err-clause-heard g c =
    hears_take_later c.in-Err.fault (g.W.Wire.calls c.args.wire.now) (g.W.Wire.calls c.rows.wire) (g.W.Wire.calls c.write_next.new.wire)
    (g.W.Wire.faults c.args.wire.now) (g.W.Wire.faults c.rows.wire) (g.W.Wire.faults c.write_next.new.wire)
    c.rows.invariant.heard c.in-Err.ensures.heard
