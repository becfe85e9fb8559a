use Rattle.body_forms.proofs.PolicyFaults.{says_policies, says_fault}
use Rattle.body_forms.proofs.Readings.{ok_says, err_says}
use Rattle.body_forms.proofs.policies.read_policies.Goals as goal

pub returns-clause-read : goal.returns-clause-read
returns-clause-read c = ok_says _ _ _ c.policies_of.result c.policies_of.ensures (says_policies c.args.body.now)

pub returns-clause-fault : goal.returns-clause-fault
returns-clause-fault c = err_says _ _ _ c.policies_of.result c.policies_of.ensures (says_fault c.args.body.now)
