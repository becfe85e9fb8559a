use Rattle.partition_stream.proofs.MeaningLemmas.{held_of-other, meaning-other}
use Rattle.partition_stream.proofs.laws.another_container_is_left.Goals as goal

pub returns-clause-pieces : goal.returns-clause-pieces
returns-clause-pieces c = λ s t change key more other. held_of-other s t change key more other

pub returns-clause-bytes : goal.returns-clause-bytes
returns-clause-bytes c = λ s t change key more other keeps stored. meaning-other s t change key more other keeps stored
