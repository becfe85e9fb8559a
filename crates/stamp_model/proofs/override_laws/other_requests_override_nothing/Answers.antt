use Rattle.stamp_model.proofs.OverrideLemmas.{first-overrides_of, operation-overrides_of, route-overrides_of, without-overrides_of}
use Rattle.stamp_model.proofs.override_laws.other_requests_override_nothing.Goals as goal

pub returns-clause-first_version : goal.returns-clause-first_version
returns-clause-first_version c = λ a token is first. first-overrides_of a token is first

pub returns-clause-without : goal.returns-clause-without
returns-clause-without c = λ a cache disposition encoding language type. without-overrides_of a cache disposition encoding language type

pub returns-clause-route : goal.returns-clause-route
returns-clause-route c = λ a other. route-overrides_of a other

pub returns-clause-operation : goal.returns-clause-operation
returns-clause-operation c = λ a get properties. operation-overrides_of a get properties
