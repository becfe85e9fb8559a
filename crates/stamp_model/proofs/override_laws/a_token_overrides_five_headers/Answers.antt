use Rattle.stamp_model.proofs.OverrideLemmas.{differs-get, differs-properties, token-overrides_of}
use Rattle.stamp_model.proofs.override_laws.a_token_overrides_five_headers.Goals as goal

pub returns-clause-get : goal.returns-clause-get
returns-clause-get c = λ w key name get plain gets reads alike own none free. differs-get w key name get plain own none free gets reads alike

pub returns-clause-properties : goal.returns-clause-properties
returns-clause-properties c = λ w key name get plain gets reads own none free. differs-properties w key name get plain own none free gets reads

pub returns-clause-token : goal.returns-clause-token
returns-clause-token c = λ a token reads by_token is. token-overrides_of a token reads by_token is
