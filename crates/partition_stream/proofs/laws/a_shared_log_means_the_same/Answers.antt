use Rattle.partition_stream.proofs.MeaningLemmas.{held_of-shared, meaning-shared}
use Rattle.partition_stream.proofs.laws.a_shared_log_means_the_same.Goals as goal

pub returns-clause-pieces : goal.returns-clause-pieces
returns-clause-pieces c = λ s t key same. held_of-shared s t key same

pub returns-clause-bytes : goal.returns-clause-bytes
returns-clause-bytes c = λ s t key same. meaning-shared s t key same
