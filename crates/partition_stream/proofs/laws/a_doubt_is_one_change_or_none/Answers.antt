use Rattle.partition_stream.proofs.MeaningLemmas.{held_of-doubt}
use Rattle.partition_stream.proofs.laws.a_doubt_is_one_change_or_none.Goals as goal

pub returns : goal.returns
returns c = λ s t kept doubt key rows log. held_of-doubt s t kept doubt key rows log
