use Rattle.checkpoint_rows.proofs.RowLemmas.{nothing_left}
use Rattle.checkpoint_rows.proofs.row_records.blob_row.Goals as goal

pub unreachable-requires : goal.unreachable-requires
unreachable-requires c = nothing_left c.args.blob.now c.in_default.ensures c.requires.left
