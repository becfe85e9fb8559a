use Rattle.sas_token.proofs.MeaningLemmas.{one_meaning}
use Rattle.sas_token.proofs.laws.one_string_has_one_meaning.Goals as goal

pub returns : goal.returns
returns c = one_meaning
