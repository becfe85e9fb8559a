use Rattle.stamp_model.proofs.ListLemmas.{containers-by_key, level-listed, rule-containers, rule-blobs, token-listed}
use Rattle.stamp_model.proofs.ObjectLemmas.{object_refusal-container}
use Rattle.std.proofs.Common.{ap}
use Rattle.stamp_types.specs.World.{part_at}
use Rattle.range_rows.specs.ObjectRules.{cause_refusal, needs_container}
use Rattle.range_rows.specs.ObjectRules.Cause.{ContainerIsAbsent}
use Rattle.stamp_model.proofs.ReadLemmas.{reply-refused}
use Rattle.stamp_model.proofs.list_laws.a_list_shows_what_its_route_may_see.Goals as goal

pub returns-clause-public : goal.returns-clause-public
returns-clause-public c = λ keys w q t bound lists anonymous none. level-listed keys w q t bound lists anonymous none

pub returns-clause-token : goal.returns-clause-token
returns-clause-token c = λ keys w q t bound fits lists asks none. token-listed keys w q t bound fits lists asks none

pub returns-clause-containers : goal.returns-clause-containers
returns-clause-containers c = λ keys w q t bound lists none. containers-by_key keys w q t bound lists none

pub returns-clause-blobs_given : goal.returns-clause-blobs_given
returns-clause-blobs_given c = λ keys w q t bound fits lists admits exists. rule-blobs keys w q t bound fits lists admits exists

pub returns-clause-absent : goal.returns-clause-absent
returns-clause-absent c = λ keys w q t bound lists admits none.
    reply-refused keys w q t bound (cause_refusal ContainerIsAbsent) admits (object_refusal-container (part_at w q.ask.key) q (ap needs_container lists) none)

pub returns-clause-containers_given : goal.returns-clause-containers_given
returns-clause-containers_given c = λ keys w q t bound fits lists admits. rule-containers keys w q t bound fits lists admits
