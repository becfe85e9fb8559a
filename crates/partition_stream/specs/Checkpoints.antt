-- The rows of a checkpoint that is being written, and what puts them in place (SOSP 2011, section 5.3: checkpoints).
use Rattle.std.specs.Prelude.{◌≡◌, List, [], ◌∷◌, ◌++◌, None, All}
use Rattle.extent_node.specs.Copies.{Block}
use Rattle.stamp_values.specs.declared.key.Key.{Key}
use Rattle.stamp_types.specs.Changes.{KeyedAct}
use Rattle.stamp_types.specs.World.{Part, no_part, same_pieces}
use Rattle.stamp_types.specs.declared.piece.Piece.{Piece}
use Rattle.stream_manager.specs.Places.{blocks_of}
use Rattle.stream_manager.specs.Streams.{Streamed, laid}
use Rattle.partition_stream.specs.Changes.{Recorded, changes_of}
use Rattle.partition_stream.specs.Meanings.{acts_on, after_acts}
use Rattle.partition_stream.specs.Storing.{IsStoredChange, IsStoredRecord}
use Rattle.partition_stream.specs.Streams.{ThreeStreams, logged}

-- the changes that new rows are
abbrev pub new_rows : Streamed → List Recorded
new_rows s = changes_of (blocks_of (laid s))

-- each of the new rows is a record whose contents are stored in this data
abbrev pub AreStoredRows : List (List Block) → Streamed → Type 0
AreStoredRows es s = All (IsStoredRecord es) (blocks_of (laid s))

-- the new rows have one row more, and no doubt; all of them are stored in each data in which those before and the change are stored
pub record HasOneRow (s : Streamed) (c : KeyedAct) (t : Streamed) : Type 0 where
  pub rows : new_rows t ≡ new_rows s ++ (c, 0) ∷ []
  pub whole : t.last.tried ≡ None
  pub stored : (es : List (List Block)) → AreStoredRows es s → IsStoredChange es c → AreStoredRows es t

-- the rows are the new ones, the log is empty and has no doubt, and the data is as it was
pub record IsInPlace (s : ThreeStreams) (made : Streamed) (t : ThreeStreams) : Type 0 where
  pub rows : t.rows ≡ made
  pub log : (logged t).log ≡ []
  pub doubt : (logged t).doubt ≡ None
  pub blobs : t.blobs ≡ s.blobs

-- the container that these rows make of one that never was
abbrev pub made_by : List Recorded → Key → Part (List Piece)
made_by rows key = after_acts same_pieces (acts_on key rows) no_part
