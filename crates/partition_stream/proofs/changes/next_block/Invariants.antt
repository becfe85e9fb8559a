use Rattle.std.proofs.Common.{◌≡◌, ◌-◌, length}
use Rattle.stream_manager.specs.Streams.{laid}
use Rattle.stream_manager.specs.Walks.{before}
use Rattle.partition_stream.proofs.changes.next_block.Given as goal

-- no block was passed
abbrev pub invariant-loop-number : goal.invariant-loop-number
invariant-loop-number l = before (laid l.stream) l.number l.at ≡ before (laid l.stream) l.extent l.index

abbrev pub decreases-loop-number : goal.decreases-loop-number
decreases-loop-number l = length (laid l.stream) - l.number
