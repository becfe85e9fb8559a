use Rattle.access_rules.proofs.TokenLaws.{container_refused}
use Rattle.access_rules.proofs.token_laws.no_token_reaches_a_container_itself.Goals as goal

pub returns : goal.returns
returns c = λ keys acl q t asks about. container_refused keys acl q t asks about
