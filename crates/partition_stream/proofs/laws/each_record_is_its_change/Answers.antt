use Rattle.std.proofs.Common.{◌∙◌, ap}
use Rattle.std.specs.Option.{option_and_then}
use Rattle.stream_manager.specs.Places.{blocks_of}
use Rattle.stream_manager.specs.Streams.{laid}
use Rattle.partition_stream.specs.Changes.{change_in}
use Rattle.partition_stream.proofs.ChangeLemmas.{change_in-record, changes_of-written}
use Rattle.partition_stream.proofs.laws.each_record_is_its_change.Goals as goal

pub returns-clause-rows : goal.returns-clause-rows
returns-clause-rows c = λ s ws is blocks. changes_of-written (blocks_of (laid s.rows)) ws is blocks

pub returns-clause-log : goal.returns-clause-log
returns-clause-log c = λ s ws is blocks. changes_of-written (blocks_of (laid s.log)) ws is blocks

pub returns-clause-doubt : goal.returns-clause-doubt
returns-clause-doubt c = λ s w is tried. ap (option_and_then change_in) tried ∙ change_in-record w is
