use Rattle.std.proofs.Common.{◌≡◌, true, false}
use Rattle.stream_manager.specs.Streams.{laid}
use Rattle.partition_stream.proofs.DataLemmas.{placed_are_pieces}
use Rattle.partition_stream.proofs.data.put_content.Goals as goal

pub unreachable-requires : goal.unreachable-requires
unreachable-requires g c =
    let wrong : false ≡ true = c.in-None.ensures.valid.1
    (placed_are_pieces (laid c.put_pieces.new.blobs) c.as_slice.result.now c.in_ok-placed.placed.items
    c.in_ok-placed.ensures.placed (rw c.as_slice.ensures.value c.as_slice.ensures.valid)) in
    absurd cc
