use Rattle.sas_token.proofs.TokenLemmas.{one_token, one_fault, no_token}
use Rattle.sas_token.proofs.laws.a_query_is_one_token.Goals as goal

pub returns : goal.returns
returns c = record { token = one_token; fault = one_fault; not_both = no_token }
