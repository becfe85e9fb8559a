use Rattle.partition_stream.proofs.CheckpointLemmas.{rows_mean, rows_mean_bytes}
use Rattle.partition_stream.proofs.checkpoint_laws.a_checkpoint_means_its_rows.Goals as goal

pub returns-clause-pieces : goal.returns-clause-pieces
returns-clause-pieces c = λ s t rows key h. rows_mean s t rows key h

pub returns-clause-bytes : goal.returns-clause-bytes
returns-clause-bytes c = λ s t rows key h. rows_mean_bytes s t rows key h
