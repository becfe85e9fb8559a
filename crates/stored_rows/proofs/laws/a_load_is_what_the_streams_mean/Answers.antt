use Rattle.std.proofs.Common.{◌∙◌, ap, sym}
use Rattle.stamp_types.specs.World.{part_value}
use Rattle.stream_manager.specs.Streams.{laid}
use Rattle.partition_stream.specs.Contents.{content_at}
use Rattle.partition_stream.specs.Positions.{all_changes}
use Rattle.stored_rows.proofs.LoadLemmas.{part_of-apart, part_of-covered}
use Rattle.stored_rows.proofs.laws.a_load_is_what_the_streams_mean.Goals as goal

pub returns-clause-pieces : goal.returns-clause-pieces
returns-clause-pieces c = λ s w d range key loaded covered. loaded.rows key ∙ part_of-covered range key (all_changes s) covered

pub returns-clause-bytes : goal.returns-clause-bytes
returns-clause-bytes c = λ s w d range key loaded covered. ap (part_value (content_at (laid s.blobs))) (loaded.rows key ∙ part_of-covered range key (all_changes s) covered)

pub returns-clause-others : goal.returns-clause-others
returns-clause-others c = λ s w d range key loaded apart. loaded.rows key ∙ part_of-apart range key (all_changes s) apart

pub returns-clause-again : goal.returns-clause-again
returns-clause-again c = λ s v w x d range key first then. first.rows key ∙ sym (then.rows key)
