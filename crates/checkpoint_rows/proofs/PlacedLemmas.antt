-- A checkpoint of rows, put in place.
use Rattle.std.proofs.Common.{◌≡◌, ◌∙◌, List, [], ◌++◌, ap}
use Rattle.std.specs.FinMap.{entries}
use Rattle.extent_node.specs.Copies.{Block}
use Rattle.stamp_values.specs.declared.key.Key.{Key}
use Rattle.stamp_types.specs.Contents.{EachWorldContent}
use Rattle.stamp_types.specs.World.{World, part_at}
use Rattle.stamp_types.specs.declared.piece.Piece.{Piece}
use Rattle.stream_manager.specs.Streams.{Streamed}
use Rattle.partition_stream.specs.Checkpoints.{AreStoredRows, IsInPlace, made_by, new_rows}
use Rattle.partition_stream.specs.Contents.{AreStored}
use Rattle.partition_stream.specs.Meanings.{held_of}
use Rattle.partition_stream.specs.Streams.{ThreeStreams, logged}
use Rattle.partition_stream.proofs.CheckpointLemmas.{rows_mean}
use Rattle.checkpoint_rows.specs.Writing.{AreWritable, HasRows, all_records}
use Rattle.checkpoint_rows.proofs.AgainLemmas.{world_again}
use Rattle.checkpoint_rows.proofs.ReadyLemmas.{world_content}

-- the new rows are the records of the world
pub all_rows : (begun made : Streamed) (w : World (List Piece)) → new_rows begun ≡ [] → HasRows begun (all_records (entries w)) made → new_rows made ≡ all_records (entries w)
all_rows begun made w none has = has.rows ∙ ap (λ l. l ++ all_records (entries w)) none

-- and they are stored
pub all_stored : (es : List (List Block)) (begun made : Streamed) (w : World (List Piece)) → EachWorldContent (AreStored es) w → AreStoredRows es begun
    → HasRows begun (all_records (entries w)) made → AreStoredRows es made
all_stored es begun made w stored old has = has.stored es old (world_content (AreStored es) w stored)

-- once they are in place, each container is the one of the world
pub world_placed : (s t : ThreeStreams) (begun made : Streamed) (w : World (List Piece)) → AreWritable w → new_rows begun ≡ [] → HasRows begun (all_records (entries w)) made → IsInPlace s made t
    → (key : Key) → held_of (logged t) key ≡ part_at w key
world_placed s t begun made w writable none has placed key =
    rows_mean s t made key placed ∙ ap (λ l. made_by l key) (all_rows begun made w none has) ∙ world_again w key writable

pub placed_rows : (s t : ThreeStreams) (begun made : Streamed) (w : World (List Piece)) → new_rows begun ≡ [] → HasRows begun (all_records (entries w)) made → IsInPlace s made t
    → (logged t).rows ≡ all_records (entries w)
placed_rows s t begun made w none has placed = ap new_rows placed.rows ∙ all_rows begun made w none has
