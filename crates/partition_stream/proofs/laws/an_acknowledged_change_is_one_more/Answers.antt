use Rattle.partition_stream.proofs.OneMoreLemmas.{one_more_logged}
use Rattle.partition_stream.proofs.MeaningLemmas.{held_of-own, meaning-own}
use Rattle.partition_stream.proofs.laws.an_acknowledged_change_is_one_more.Goals as goal

pub returns-clause-pieces : goal.returns-clause-pieces
returns-clause-pieces c = λ s t change more. held_of-own s t change more

pub returns-clause-bytes : goal.returns-clause-bytes
returns-clause-bytes c = λ s t change more keeps stored. meaning-own s t change more keeps stored

pub returns-clause-logged : goal.returns-clause-logged
returns-clause-logged c = λ s t change none logs rows. one_more_logged s t change none logs rows
