use Rattle.stream_manager.specs.Streams.{laid}
use Rattle.partition_stream.proofs.MoveLemmas.{held_read, moved_content}
use Rattle.partition_stream.proofs.rewriting.put_content_again.Goals as goal

pub put_read-requires : goal.put_read-requires
put_read-requires g c = held_read (laid c.args.blobs.now) c.args.content.now c.in_ok-read.read c.in_ok-read.ensures.read

pub returns-clause-moved : goal.returns-clause-moved
returns-clause-moved g c =
    moved_content (laid c.args.blobs.now) (laid c.put_read.new.blobs) c.args.content.now c.in_ok-read.read c.in_ok-placed.placed
    c.requires c.in_ok-read.ensures.read c.in_ok-placed.ensures.placed
