use Rattle.access_rules.proofs.RouteLaw.{by_route}
use Rattle.access_rules.proofs.laws.no_rule_holds_if_and_only_if_the_own_route_admits.Goals as goal

pub returns : goal.returns
returns c keys acl q t = by_route keys acl q t q.credential
