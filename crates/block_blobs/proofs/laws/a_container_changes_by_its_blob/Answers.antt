use Rattle.std.proofs.Common.{refl}
use Rattle.block_blobs.proofs.BlobsAfter.{blobs_after_set_metadata, blobs_after_set_metadata_absent}
use Rattle.block_blobs.proofs.laws.a_container_changes_by_its_blob.Goals as goal

pub returns-clause-put : goal.returns-clause-put
returns-clause-put c = λ n a p. refl

pub returns-clause-metadata : goal.returns-clause-metadata
returns-clause-metadata c = λ n a p b has. blobs_after_set_metadata n a p b has

pub returns-clause-absent : goal.returns-clause-absent
returns-clause-absent c = λ n a p none. blobs_after_set_metadata_absent n a p none

pub returns-clause-block : goal.returns-clause-block
returns-clause-block c = λ n a p. refl

pub returns-clause-list : goal.returns-clause-list
returns-clause-list c = λ n a p. refl
