-- What a checkpoint of stored rows leaves (SOSP 2011, section 5.3: checkpoints).
use Rattle.std.specs.Prelude.{◌≡◌, true, false, List, []}
use Rattle.std.specs.FinMap.{entries}
use Rattle.stamp_values.specs.declared.key.Key.{Key}
use Rattle.stamp_types.specs.World.{World, no_part}
use Rattle.stamp_types.specs.declared.piece.Piece.{Piece}
use Rattle.partition_stream.specs.Streams.{logged}
use Rattle.checkpoint_rows.specs.Writing.{all_records}
use Rattle.stored_rows.specs.Loaded.{AreRowsOf}
use Rattle.stored_rows.specs.Ranges.{covers}
use Rattle.stored_rows.specs.States.{Stored, bytes_of, pieces_of}

-- each container of the range is as it was, in bytes and in pieces, and the streams mean no other container
pub record MeansTheRange (s t : Stored) : Type 0 where
  pub bytes : (key : Key) → covers s.range key ≡ true → bytes_of t key ≡ bytes_of s key
  pub pieces : (key : Key) → covers s.range key ≡ true → pieces_of t key ≡ pieces_of s key
  pub others : (key : Key) → covers s.range key ≡ false → pieces_of t key ≡ no_part
  pub range : t.range ≡ s.range
  pub loaded : t.is_loaded ≡ s.is_loaded

-- the rows of the last checkpoint are those of the containers of the range as the streams meant them, and the log has no change
pub record IsWrittenAnew (s t : Stored) : Type 0 where
  pub world : World (List Piece)
  pub own : AreRowsOf s.range s.streams world
  pub rows : (logged t.streams).rows ≡ all_records (entries world)
  pub log : (logged t.streams).log ≡ []
