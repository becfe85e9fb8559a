use Rattle.std.proofs.Common.{◌∙◌, ap}
use Rattle.stamp_types.specs.World.{part_value}
use Rattle.stream_manager.specs.Streams.{laid}
use Rattle.partition_stream.specs.Contents.{content_at}
use Rattle.partition_stream.proofs.CheckpointLemmas.{rows_mean, rows_mean_bytes}
use Rattle.partition_stream.proofs.checkpoint_laws.a_checkpoint_means_what_it_meant.Goals as goal

pub returns-clause-pieces : goal.returns-clause-pieces
returns-clause-pieces c = λ s t rows key h same. rows_mean s t rows key h ∙ same

pub returns-clause-bytes : goal.returns-clause-bytes
returns-clause-bytes c = λ s t rows key h same. rows_mean_bytes s t rows key h ∙ ap (part_value (content_at (laid s.blobs))) same
