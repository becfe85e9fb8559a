-- Rows that are written again, and the steps of a sweep (SOSP 2011, section 5.3: checkpoints).
use Rattle.std.specs.Prelude.{◌≡◌, ⊤, ℕ, List, length, Option, Some, None, Result, Ok, Err}
use Rattle.std.specs.FinMap as finite
use Rattle.extent_node.specs.Faults.{Calls}
use Rattle.extent_seal.specs.Counting.{Grows}
use Rattle.stamp_values.specs.declared.key.Key.{Key}
use Rattle.stamp_types.specs.Changes.{KeyedAct}
use Rattle.stamp_types.specs.Contents.{EachActContent}
use Rattle.stamp_types.specs.World.{Blob, World, changed_in, part_at, same_pieces}
use Rattle.stamp_types.specs.declared.act.Act.{Act}
use Rattle.stamp_types.specs.declared.act.Act.TheVariants as act
use Rattle.stamp_types.specs.declared.piece.Piece.{Piece}
use Rattle.row_trees.specs.RowRecords.{blob_row_of}
use Rattle.stream_manager.specs.Places.{GoesOn, KeepsPlaces}
use Rattle.stream_manager.specs.Streams.{laid}
use Rattle.partition_stream.specs.Changes.{Recorded}
use Rattle.partition_stream.specs.Meanings.{IsOneMore, held_of, meaning}
use Rattle.partition_stream.specs.Streams.{HaveSameLimits, ThreeStreams, logged}
use Rattle.partition_stream.specs.Sweeping.{AreFrom}
use Rattle.partition_stream.specs.declared.faults.TakeFault.{TakeFault}
use Rattle.partition_stream.specs.declared.faults.TakeFault.TheVariants as take
use Rattle.stored_rows.specs.Counting.{Fails}
use Rattle.stored_rows.specs.Logging.{KeepsLog}
use Rattle.stored_rows.specs.Loaded.{AreLoaded}
use Rattle.stored_rows.specs.RowDoubts.{FitsRowDoubt}
use Rattle.stored_rows.specs.Swept.{AreSwept, IsAgain, IsRowInDoubt}
use Rattle.stored_rows.specs.declared.key_range.KeyRange.{KeyRange}
use Rattle.stored_rows.specs.declared.sweep.Sweep.{Sweep}
use Rattle.stored_rows.specs.declared.logging.Unlogged.{Unlogged}
use Rattle.stored_rows.specs.declared.logging.Unlogged.TheVariants as fault

-- the log and the data go on, and extents of two or more blocks may have as many bytes as before
pub record GoOn (s t : ThreeStreams) : Type 0 where
  pub log : GoesOn (laid s.log) (laid t.log)
  pub blobs : GoesOn (laid s.blobs) (laid t.blobs)
  pub limits : HaveSameLimits s t

-- the log has the row with the epoch 0, and no change is in doubt
pub record AddsRow (s : ThreeStreams) (d : KeyedAct) (t : ThreeStreams) : Type 0 where
  pub more : IsOneMore (logged s) (d, 0) (logged t)
  pub places : KeepsPlaces (laid s.blobs) (laid t.blobs)
  pub sure : (logged t).doubt ≡ None

-- the row is in doubt with the epoch 0
pub record DoubtsRow (s : ThreeStreams) (d : KeyedAct) (t : ThreeStreams) : Type 0 where
  pub doubt : (logged t).doubt ≡ Some (d, 0)
  pub log : KeepsLog s t

-- a row is logged: the row that is answered is the one that was logged, or that is in doubt
abbrev pub IsRowLogged : Result KeyedAct Unlogged → ThreeStreams → ThreeStreams → Type 0
IsRowLogged (Ok d) s t = AddsRow s d t
IsRowLogged (Err (fault.Doubt d)) s t = DoubtsRow s d t
IsRowLogged (Err fault.Busy) s t = KeepsLog s t × ((logged t).doubt ≡ None)
IsRowLogged (Err fault.NoMemory) s t = KeepsLog s t × ((logged t).doubt ≡ None)

-- it holds of the row that was logged, or that is in doubt
abbrev pub IfLogged : Result KeyedAct Unlogged → (KeyedAct → Type 0) → Type 0
IfLogged (Ok d) holds = holds d
IfLogged (Err (fault.Doubt d)) holds = holds d
IfLogged (Err fault.Busy) holds = ⊤
IfLogged (Err fault.NoMemory) holds = ⊤

-- the change is the row of a blob of its container
pub record IsBlobRow (w : World (List Piece)) (c : KeyedAct) : Type 0 where
  pub name : List ℕ
  pub blob : Blob (List Piece)
  pub there : finite.get (part_at w c.key).blobs name ≡ Some blob
  pub row : c.act ≡ blob_row_of (name, blob)

-- both acts are rows of the same blob
abbrev pub AreOfOneBlob : Act → Act → Type 0
AreOfOneBlob (act.StoredBlob a) (act.StoredBlob b) = b.blob ≡ a.blob
AreOfOneBlob a b = ⊥

-- the row c was written again as d: d says again what its container has, and its content was put after all sealed extents of the data
pub record IsRewritten (s : ThreeStreams) (c : KeyedAct) (t : ThreeStreams) (d : KeyedAct) : Type 0 where
  pub key : d.key ≡ c.key
  pub name : AreOfOneBlob c.act d.act
  pub again : IsAgain (laid t.blobs) (held_of (logged s) d.key) d.act
  pub from : EachActContent (AreFrom (length s.blobs.sealed)) d.act

-- the rows in memory have the row that was logged
abbrev pub IsSwapped : Result KeyedAct Unlogged → World (List Piece) → World (List Piece) → Type 0
IsSwapped (Ok d) v w = w ≡ changed_in same_pieces v d
IsSwapped (Err e) v w = w ≡ v

-- the change that is kept beside the streams, after a row was logged or not
abbrev pub doubt_after : Result KeyedAct Unlogged → Option KeyedAct → Option KeyedAct
doubt_after (Err (fault.Doubt d)) e = Some d
doubt_after other e = e

-- each container is as it was, in bytes; what is true of stored rows, and of a sweep, is true of them
pub record IsStepped (range : KeyRange) (s t : ThreeStreams) (rows : World (List Piece)) (doubt : Option KeyedAct) (spare : Option (Blob (List Piece))) (sweep : Sweep) : Type 0 where
  pub loaded : AreLoaded t (Some rows) doubt range
  pub swept : AreSwept sweep range t
  pub means : (key : Key) → meaning (logged t) key ≡ meaning (logged s) key
  pub limits : HaveSameLimits s t
  pub again : FitsRowDoubt t spare

-- after Doubt a row is in doubt, and after any other answer nothing is
abbrev pub LeavesRowDoubt : {T : Type 0} → Result T TakeFault → ThreeStreams → Type 0
LeavesRowDoubt (Ok r) t = (logged t).doubt ≡ None
LeavesRowDoubt (Err take.Doubt) t = (c : Recorded) × IsRowInDoubt t c
LeavesRowDoubt (Err take.Busy) t = (logged t).doubt ≡ None
LeavesRowDoubt (Err take.NoMemory) t = (logged t).doubt ≡ None

-- a row is not written only if a fault was counted or memory ran out
abbrev pub FailsStep : {T : Type 0} → Result T TakeFault → Calls → Calls → Type 0
FailsStep (Ok _) old new = Grows old new
FailsStep (Err take.Busy) old new = Fails old new
FailsStep (Err take.Doubt) old new = Fails old new
FailsStep (Err take.NoMemory) old new = Grows old new
