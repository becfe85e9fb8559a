use Rattle.row_trees.proofs.CheckpointLemmas.{made_again}
use Rattle.row_trees.proofs.checkpoint_laws.a_checkpoint_makes_its_container_again.Goals as goal

pub returns : goal.returns
returns c = λ p. made_again p
