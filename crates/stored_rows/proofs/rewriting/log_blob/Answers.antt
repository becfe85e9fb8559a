use Rattle.stored_rows.proofs.RowWriteLemmas.{on_not}
use Rattle.stored_rows.proofs.rewriting.log_blob.Goals as goal

pub returns-in_default-clause-follows : goal.returns-in_default-clause-follows
returns-in_default-clause-follows g c = on_not c.args.streams.now
