use Rattle.stored_rows.proofs.SweptLemmas.{swept_ends}
use Rattle.stored_rows.proofs.laws.a_sweep_that_ends_keeps_each_container.Goals as goal

pub returns : goal.returns
returns x = λ m news inside s t key swept given covered new. swept_ends m news inside s t swept given key covered new
