use Rattle.stamp_types.specs.Pieces.{pieces_len}
use Rattle.stamp_types.specs.World.{same_pieces}
use Rattle.row_trees.proofs.HalfwayLemmas.{fits_same, row_begins, step}
use Rattle.row_trees.proofs.sweep_laws.a_container_stays_halfway.Goals as goal

pub returns-clause-begins : goal.returns-clause-begins
returns-clause-begins c = λ p. row_begins same_pieces p

pub returns-clause-more : goal.returns-clause-more
returns-clause-more c = λ news p q a is touched. step same_pieces news p q a is touched

pub returns-clause-fits : goal.returns-clause-fits
returns-clause-fits c = λ news p q a is touched. fits_same pieces_len news p q is a touched
