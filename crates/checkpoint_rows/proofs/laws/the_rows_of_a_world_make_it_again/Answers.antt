use Rattle.checkpoint_rows.proofs.AgainLemmas.{world_again}
use Rattle.checkpoint_rows.proofs.laws.the_rows_of_a_world_make_it_again.Goals as goal

pub returns : goal.returns
returns c = λ w key writable. world_again w key writable
