use Rattle.stamp_types.proofs.WorldLemmas.{part_at-changed_in, part_at-changed_in_others}
use Rattle.stamp_types.proofs.laws.a_change_reaches_its_own_container_alone.Goals as goal

pub returns-clause-own : goal.returns-clause-own
returns-clause-own g c = λ f w change. part_at-changed_in f w change

pub returns-clause-others : goal.returns-clause-others
returns-clause-others g c = λ f w change k other. part_at-changed_in_others f w change k other
