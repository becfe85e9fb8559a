use Rattle.stored_rows.proofs.RowWriteLemmas.{on_put}
use Rattle.stored_rows.proofs.rewriting.put_again.Goals as goal

pub returns-clause-follows : goal.returns-clause-follows
returns-clause-follows g c =
    on_put c.args.streams.now c.put_row_again.new.self c.put_row_again.ensures.follows c.put_row_again.ensures.log c.put_row_again.ensures.rows c.put_row_again.ensures.limit
