use Rattle.body_forms.proofs.GrammarLaws.{policies_complete, fault_sound, fault_complete}
use Rattle.body_forms.proofs.PolicyFaults.{says_policies}
use Rattle.body_forms.proofs.laws.policies_are_read_as_the_grammar_says.Goals as goal

pub returns-clause-read : goal.returns-clause-read
returns-clause-read c = λ body policies. (says_policies body policies, policies_complete body policies)

pub returns-clause-fault : goal.returns-clause-fault
returns-clause-fault c = λ body f other. (fault_sound body f other, fault_complete body f other)
