use Rattle.stamp_model.proofs.EtagLemmas.{later-effect, one_state, one_state-replayed, one_state-run}
use Rattle.stamp_model.proofs.etag_laws.an_etag_names_one_state.Goals as goal

pub returns-clause-request : goal.returns-clause-request
returns-clause-request c = λ keys w q t k name. (later-effect name keys w q t k).blob

pub returns-clause-one : goal.returns-clause-one
returns-clause-one c = λ keys w q t k name before after within first last same. one_state keys w q t k name before after within first last same

pub returns-clause-history : goal.returns-clause-history
returns-clause-history c = λ pairs front middle rest name first last at_first at_last same. one_state-replayed pairs front middle rest name first last at_first at_last same

pub returns-clause-run : goal.returns-clause-run
returns-clause-run c = λ w key front middle rest name first last within at_first at_last same. one_state-run w key within front middle rest name first last at_first at_last same
