use Rattle.partition_stream.proofs.DataLemmas.{cut_held}
use Rattle.partition_stream.proofs.laws.a_body_that_is_cut_may_be_put.Goals as goal

pub returns : goal.returns
returns c = λ body. cut_held body
