use Rattle.stamp_model.proofs.BlockLemmas.{uncommitted-taken, reply-deleted_list}
use Rattle.stamp_model.proofs.block_laws.no_block_outlives_its_commit.Goals as goal

pub returns-clause-gone : goal.returns-clause-gone
returns-clause-gone c = λ w key name o commit fits takes on none. uncommitted-taken w key name commit fits none o takes on

pub returns-clause-deleted : goal.returns-clause-deleted
returns-clause-deleted c = λ w key name delete list deletes lists none admits. reply-deleted_list w key name delete list deletes none lists admits
