use Rattle.partition_stream.proofs.MeaningLemmas.{held_of-empty, meaning-empty}
use Rattle.partition_stream.proofs.laws.an_empty_log_means_no_container.Goals as goal

pub returns-clause-pieces : goal.returns-clause-pieces
returns-clause-pieces c = λ s key rows log. held_of-empty s key rows log

pub returns-clause-bytes : goal.returns-clause-bytes
returns-clause-bytes c = λ s key rows log. meaning-empty s key rows log
