use Rattle.access_rules.proofs.RouteLaw.{by_route}
use Rattle.policy_book.proofs.EntryLemmas.{is_allowed, no_rule_holds}
use Rattle.policy_book.proofs.laws.audit_entries_are_true.Goals as goal

pub returns-clause-rules : goal.returns-clause-rules
returns-clause-rules c = λ e is rule. no_rule_holds e.revision.keys e.revision.acl e.request.ask e.moment e.way is.allowed rule

pub returns-clause-way : goal.returns-clause-way
returns-clause-way c = λ e is. (is_allowed e is).1

pub returns-clause-route : goal.returns-clause-route
returns-clause-route c = λ e is. (by_route e.revision.keys e.revision.acl e.request.ask e.moment e.request.ask.credential).0 (is_allowed e is).0
