use Rattle.stamp_types.specs.Pieces.{held}
use Rattle.range_rows.specs.SentContent.{byte_count}
use Rattle.stamp_model.proofs.AccessLemmas.{standing-effect, access-effect}
use Rattle.stamp_model.proofs.laws.a_container_is_changed_by_its_own_operations.Goals as goal

pub returns-clause-standing : goal.returns-clause-standing
returns-clause-standing c = λ keys w q t k unaltered. standing-effect held byte_count keys w q t unaltered k

pub returns-clause-access : goal.returns-clause-access
returns-clause-access c = λ keys w q t k unaltered. access-effect held byte_count keys w q t unaltered k
