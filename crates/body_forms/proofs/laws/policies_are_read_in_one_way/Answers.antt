use Rattle.body_forms.proofs.PolicyLemmas.{one_list}
use Rattle.body_forms.proofs.laws.policies_are_read_in_one_way.Goals as goal

pub returns : goal.returns
returns c = one_list
