use Rattle.stream_manager.specs.Streams.{laid}
use Rattle.partition_stream.specs.Storing.{IsRecord}
use Rattle.partition_stream.proofs.PositionLemmas.{at_place, changes_after}
use Rattle.partition_stream.proofs.changes.next_in.Goals as goal

pub change_at-requires : goal.change_at-requires
change_at-requires g c = at_place IsRecord (laid c.args.stream.now) c.in-Some.place c.requires c.in-Some.ensures.here

pub returns-in_ok-change-in-Some-clause-next : goal.returns-in_ok-change-in-Some-clause-next
returns-in_ok-change-in-Some-clause-next g c =
    changes_after (laid c.args.stream.now) c.args.extent c.args.index c.in-Some.place
    (c.in_ok-change-in-Some.change, c.in_ok-change-in-Some.epoch) c.in-Some.ensures.same c.in_ok-change-in-Some.ensures.read
