use Rattle.access_rules.proofs.StringLemmas.{token_not_key}
use Rattle.access_rules.proofs.string_laws.a_token_signs_what_no_key_signs.Goals as goal

pub returns : goal.returns
returns c = λ request tokens token reads. token_not_key tokens.signing.query token reads tokens.key tokens.blob request.signing request.key.account
