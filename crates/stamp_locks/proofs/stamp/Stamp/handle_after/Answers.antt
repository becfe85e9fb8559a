use Rattle.stamp_locks.proofs.stamp.Stamp.handle_after.Goals as goal

pub returns-in-Ok-clause-handled : goal.returns-in-Ok-clause-handled
returns-in-Ok-clause-handled g c = (c.in-Ok.audited.entry, c.in-Ok.ensures.handled)
