use Rattle.std.proofs.Common.{rules}
use Rattle.stream_manager.specs.Streams.{laid}
use Rattle.partition_stream.proofs.DataLemmas.{twice_on}
use Rattle.partition_stream.proofs.RewritingLemmas.{row_again}
use Rattle.partition_stream.proofs.rewriting.put_stored_again.Goals as goal

pub returns-in_err-uncommitted-clause-follows : goal.returns-in_err-uncommitted-clause-follows
returns-in_err-uncommitted-clause-follows g c =
    twice_on (laid c.args.blobs.now) (laid c.put_part_again.new.blobs) (laid c.put_uncommitted_again.new.blobs) c.put_part_again.ensures.follows c.put_uncommitted_again.ensures.follows

pub returns-clause-follows : goal.returns-clause-follows
returns-clause-follows g c =
    twice_on (laid c.args.blobs.now) (laid c.put_part_again.new.blobs) (laid c.put_uncommitted_again.new.blobs) c.put_part_again.ensures.follows c.put_uncommitted_again.ensures.follows

pub returns-clause-moved : goal.returns-clause-moved
returns-clause-moved g c =
    row_again (laid c.args.blobs.now) (laid c.put_part_again.new.blobs) (laid c.put_uncommitted_again.new.blobs)
    c.put_part_again.ensures.follows.1.kept c.put_uncommitted_again.ensures.follows.1.kept c.args.row.now
    (record { blob = c.in_ok-blob.blob; committed = c.in_ok-committed.committed; uncommitted = c.new.result })
    c.requires (search rules) c.in_ok-committed.ensures.moved (search rules)
