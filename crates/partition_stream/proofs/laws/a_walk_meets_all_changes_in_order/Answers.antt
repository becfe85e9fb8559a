use Rattle.partition_stream.proofs.FirstPartLemmas.{first_part}
use Rattle.partition_stream.proofs.laws.a_walk_meets_all_changes_in_order.Goals as goal

pub returns-clause-first : goal.returns-clause-first
returns-clause-first c = λ s p. first_part s p
