-- What a repair does to the streams of a partition (SOSP 2011, sections 4.3 and 5).
use Rattle.std.specs.Prelude.{◌≡◌}
use Rattle.stream_manager.specs.Streams.{Streamed}
use Rattle.partition_stream.specs.Streams.{ThreeStreams}
use Rattle.partition_stream.specs.declared.repair.StreamName.{StreamName}
use Rattle.partition_stream.specs.declared.repair.StreamName.TheVariants as name

-- the stream of this name
abbrev pub stream_of : StreamName → ThreeStreams → Streamed
stream_of name.Log s = s.log
stream_of name.Blobs s = s.blobs
stream_of name.Rows s = s.rows

-- the two other streams are as they were
abbrev pub LeavesOthers : StreamName → ThreeStreams → ThreeStreams → Type 0
LeavesOthers name.Log s t = (t.blobs ≡ s.blobs) × (t.rows ≡ s.rows)
LeavesOthers name.Blobs s t = (t.log ≡ s.log) × (t.rows ≡ s.rows)
LeavesOthers name.Rows s t = (t.log ≡ s.log) × (t.blobs ≡ s.blobs)
