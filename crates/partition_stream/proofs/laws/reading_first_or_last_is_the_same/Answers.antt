use Rattle.partition_stream.proofs.MeaningLemmas.{meaning-read}
use Rattle.partition_stream.proofs.laws.reading_first_or_last_is_the_same.Goals as goal

pub returns : goal.returns
returns c = λ s key. meaning-read s key
