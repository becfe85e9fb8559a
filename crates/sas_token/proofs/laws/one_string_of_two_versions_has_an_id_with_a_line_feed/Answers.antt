use Rattle.sas_token.proofs.MeaningLemmas.{two_versions}
use Rattle.sas_token.proofs.laws.one_string_of_two_versions_has_an_id_with_a_line_feed.Goals as goal

pub returns : goal.returns
returns c = two_versions
