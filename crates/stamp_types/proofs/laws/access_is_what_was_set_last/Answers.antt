use Rattle.std.proofs.Common.{refl}
use Rattle.stamp_types.proofs.ActLaws.{access-changed, access-set}
use Rattle.stamp_types.proofs.laws.access_is_what_was_set_last.Goals as goal

pub returns-clause-stays : goal.returns-clause-stays
returns-clause-stays g c = λ f a p kind. access-changed f p a kind

pub returns-clause-set : goal.returns-clause-set
returns-clause-set g c = λ f a p s exists. access-set f p a s exists

pub returns-clause-deleted : goal.returns-clause-deleted
returns-clause-deleted g c = λ f p. (refl, refl)
