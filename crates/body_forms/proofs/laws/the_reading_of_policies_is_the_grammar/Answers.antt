use Rattle.body_forms.proofs.PolicyLemmas.{policies_read, policies_sound}
use Rattle.body_forms.proofs.laws.the_reading_of_policies_is_the_grammar.Goals as goal

pub returns : goal.returns
returns c = λ body policies. (policies_read body policies, policies_sound body policies)
