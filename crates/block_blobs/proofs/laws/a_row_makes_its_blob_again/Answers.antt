use Rattle.block_blobs.proofs.RowLemmas.{blob_again, container_again, row_again}
use Rattle.block_blobs.proofs.laws.a_row_makes_its_blob_again.Goals as goal

pub returns-clause-blob : goal.returns-clause-blob
returns-clause-blob c = λ name b. blob_again name b

pub returns-clause-container : goal.returns-clause-container
returns-clause-container c = λ n name b p. container_again n name b p

pub returns-clause-row : goal.returns-clause-row
returns-clause-row c = λ r good. row_again r good
