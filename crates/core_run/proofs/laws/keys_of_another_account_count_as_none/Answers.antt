use Rattle.std.proofs.Common.{Some, None}
use Rattle.core_run.proofs.AccountLemmas.{no_keys_for, one_reply, one_world, same_accepted, same_effect, same_first, same_reply}
use Rattle.core_run.proofs.laws.keys_of_another_account_count_as_none.Goals as goal

pub returns-clause-rule : goal.returns-clause-rule
returns-clause-rule c = λ pair acl q t apart. same_first (Some pair) None q (no_keys_for pair q.key.account apart) acl t

pub returns-clause-reply : goal.returns-clause-reply
returns-clause-reply c = λ pair w q t bound apart. same_reply (Some pair) None q (no_keys_for pair q.ask.key.account apart) w t bound

pub returns-clause-change : goal.returns-clause-change
returns-clause-change c = λ pair p q t apart. same_accepted (Some pair) None q (no_keys_for pair q.ask.key.account apart) p t

pub returns-clause-effect : goal.returns-clause-effect
returns-clause-effect c = λ pair w q t apart. same_effect (Some pair) None q (no_keys_for pair q.ask.key.account apart) w t

pub returns-clause-one : goal.returns-clause-one
returns-clause-one c = λ pair s q t one. (one_reply pair s q t one, one_world pair s q t one)
