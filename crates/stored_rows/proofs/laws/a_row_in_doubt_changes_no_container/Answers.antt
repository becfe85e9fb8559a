use Rattle.stored_rows.proofs.RowAgainLemmas.{row_doubt_kept}
use Rattle.stored_rows.proofs.laws.a_row_in_doubt_changes_no_container.Goals as goal

pub returns : goal.returns
returns x = λ s t c key kept row more blobs. row_doubt_kept s t c kept row more blobs key
