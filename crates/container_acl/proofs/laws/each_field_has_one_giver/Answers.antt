use Rattle.container_acl.proofs.FieldLemmas.{one_giver_each}
use Rattle.container_acl.proofs.laws.each_field_has_one_giver.Goals as goal

pub returns : goal.returns
returns c = one_giver_each
