use Rattle.access_rules.proofs.TokenLaws.{between_admitted}
use Rattle.access_rules.proofs.token_laws.a_token_has_one_time.Goals as goal

pub returns : goal.returns
returns c = λ keys acl q t u v asks later earlier first last. between_admitted keys acl q t u v asks later earlier first last
