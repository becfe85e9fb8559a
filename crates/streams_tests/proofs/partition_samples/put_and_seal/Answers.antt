use Rattle.stream_manager.specs.Streams.{laid}
use Rattle.partition_stream.proofs.ContentLemmas.{content_stays}
use Rattle.streams_tests.proofs.partition_samples.put_and_seal.Goals as goal

pub returns-clause-stored : goal.returns-clause-stored
returns-clause-stored g c =
    content_stays (laid c.put_three-placed.new.streams.blobs) (laid c.seal.new.self.blobs) c.seal.ensures.kept c.put_three-placed.result c.put_three-placed.ensures
