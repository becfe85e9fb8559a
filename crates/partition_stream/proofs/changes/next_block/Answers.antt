use Rattle.std.proofs.Common.{◌∙◌}
use Rattle.stream_manager.specs.Streams.{laid}
use Rattle.partition_stream.proofs.PositionLemmas.{before-extent}
use Rattle.partition_stream.proofs.changes.next_block.Goals as goal

pub loop-number-preserved : goal.loop-number-preserved
loop-number-preserved c =
    before-extent (laid c.args.stream.now) c.loop-number.number c.loop-number.at c.extent_len.result c.extent_len.ensures c.if-at-extent_len.false
    ∙ c.loop-number.invariant
