use Rattle.stamp_model.proofs.MadeLemmas.{headers-made, headers-made_properties, reply-exists, standing-made}
use Rattle.stamp_model.proofs.success_laws.a_container_is_made_as_it_is_asked_for.Goals as goal

pub returns-clause-made : goal.returns-clause-made
returns-clause-made c = λ w key create creates none. standing-made w key create creates none

pub returns-clause-create : goal.returns-clause-create
returns-clause-create c = λ w key create creates none. headers-made w key create creates none

pub returns-clause-properties : goal.returns-clause-properties
returns-clause-properties c = λ w key create get creates gets none free. headers-made_properties w key create creates none get gets free

pub returns-clause-exists : goal.returns-clause-exists
returns-clause-exists c = λ w key create creates exists admits. reply-exists w key create creates exists admits
