use Rattle.served_history.proofs.RotationLemmas.{pair_of_others, pair_rotated}
use Rattle.served_history.proofs.rotation_laws.a_rotation_replaces_one_key.Goals as goal

pub returns-clause-replaced : goal.returns-clause-replaced
returns-clause-replaced c = λ slot front known account which new known' key old entered has there. pair_rotated slot front known account which new known' key entered has old there

pub returns-clause-others : goal.returns-clause-others
returns-clause-others c = λ slot front known account which new known' key other entered has apart. pair_of_others slot front known account which new known' key entered has other apart
