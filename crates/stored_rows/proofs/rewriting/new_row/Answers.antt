use Rattle.stored_rows.proofs.RowWriteLemmas.{good_row}
use Rattle.stored_rows.proofs.rewriting.new_row.Goals as goal

pub of-requires : goal.of-requires
of-requires c = good_row c.args.row.now c.stored_of.result.now c.stored_of.ensures.valid c.stored_of.ensures.value
