use Rattle.stamp_types.specs.World.{same_pieces}
use Rattle.row_trees.proofs.HalfwayLemmas.{all_new}
use Rattle.row_trees.proofs.sweep_laws.what_is_all_new_is_the_container.Goals as goal

pub returns : goal.returns
returns c = λ news p q is new. all_new same_pieces news p q is new
