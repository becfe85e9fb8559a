use Rattle.sas_token.proofs.ReadingLemmas.{token_of-IsToken}
use Rattle.sas_token.proofs.laws.the_reading_is_the_token.Goals as goal

pub returns : goal.returns
returns c = token_of-IsToken
