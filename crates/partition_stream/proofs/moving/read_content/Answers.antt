use Rattle.std.proofs.Common.{◌≡◌, ◌∙◌, true, false, map, ap}
use Rattle.stream_manager.specs.Streams.{laid}
use Rattle.partition_stream.specs.Compactions.{read_piece}
use Rattle.partition_stream.proofs.MoveLemmas.{read_are_pieces}
use Rattle.partition_stream.proofs.moving.read_content.Goals as goal

pub unreachable-requires : goal.unreachable-requires
unreachable-requires g c =
    let read = c.in_ok-read.ensures.read ∙ ap (map (read_piece (laid c.args.blobs.now))) c.as_slice.ensures.value in
    let wrong : false ≡ true = c.in-None.ensures.valid.1 (read_are_pieces (laid c.args.blobs.now) c.args.content.now c.in_ok-read.read.items c.requires read c.as_slice.ensures.valid) in
    absurd cc
