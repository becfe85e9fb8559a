-- A row that a sweep has written and that is in doubt (SOSP 2011, section 5.3: checkpoints).
use Rattle.std.specs.Prelude.{◌≡◌, ⊤, true, List, Option, Some, None, IfSome, IsSome, Result, Ok, Err}
use Rattle.std.specs.FinMap as finite
use Rattle.stamp_types.specs.ActKinds.{is_row}
use Rattle.stamp_types.specs.Changes.{KeyedAct}
use Rattle.stamp_types.specs.World.{Blob, World, changed_in, part_at, same_pieces}
use Rattle.stamp_types.specs.declared.act.Act.{Act}
use Rattle.stamp_types.specs.declared.act.Act.TheVariants as act
use Rattle.stamp_types.specs.declared.act.StoredBlob.{StoredBlob}
use Rattle.stamp_types.specs.declared.piece.Piece.{Piece}
use Rattle.block_blobs.specs.StoredRows.{blob_of_row}
use Rattle.stream_manager.specs.declared.faults.Settled.{Settled}
use Rattle.stream_manager.specs.declared.faults.Settled.TheVariants as settled
use Rattle.stream_manager.specs.declared.faults.StoredFault.{StoredFault}
use Rattle.partition_stream.specs.Changes.{Recorded}
use Rattle.partition_stream.specs.Streams.{ThreeStreams, logged}
use Rattle.stored_rows.specs.Swept.{IsRowInDoubt}
use Rattle.stored_rows.specs.declared.logging.Unlogged.{Unlogged}
use Rattle.stored_rows.specs.declared.logging.Unlogged.TheVariants as fault

-- the row of a blob, if the act is one
abbrev pub stored_blob_of : Act → Option StoredBlob
stored_blob_of (act.StoredBlob a) = Some a
stored_blob_of other = None

-- a row in doubt: it says again what its container has, and the row of a blob that it would be in memory is made
pub record IsKeptReady (s : ThreeStreams) (spare : Option (Blob (List Piece))) (c : Recorded) : Type 0 where
  pub row : IsRowInDoubt s c
  pub made : IfSome (stored_blob_of c.0.act) (λ r. spare ≡ Some (blob_of_row r))

-- so is the change in doubt, if it is a row
abbrev pub FitsRowDoubt : ThreeStreams → Option (Blob (List Piece)) → Type 0
FitsRowDoubt s spare = IfSome (logged s).doubt (λ c. is_row c.0.act ≡ true → IsKeptReady s spare c)

-- the row that is kept for memory, after a row was logged or not
abbrev pub spare_after : Unlogged → Option (Blob (List Piece)) → Blob (List Piece) → Option (Blob (List Piece))
spare_after (fault.Doubt d) o new = Some new
spare_after other o new = o

-- if the row of a blob is in doubt, its row in memory is kept
abbrev pub HasSpare : Result KeyedAct Unlogged → Option (Blob (List Piece)) → Type 0
HasSpare (Err (fault.Doubt d)) spare = IfSome (stored_blob_of d.act) (λ r. spare ≡ Some (blob_of_row r))
HasSpare other spare = ⊤

-- the rows in memory have the row of a blob; the row of a container changes nothing in them
abbrev pub HasRow : Act → Option (World (List Piece)) → KeyedAct → Option (World (List Piece)) → Type 0
HasRow (act.StoredBlob r) None c w = w ≡ None
HasRow (act.StoredBlob r) (Some v) c w = w ≡ Some (changed_in same_pieces v c)
HasRow other v c w = w ≡ v

-- the row of a blob takes the place of a row in memory, and the one that was made for it is its blob
abbrev pub FitsMemory : World (List Piece) → Option (Blob (List Piece)) → KeyedAct → Type 0
FitsMemory w spare c = IfSome (stored_blob_of c.act) (λ r. (spare ≡ Some (blob_of_row r)) × IsSome (finite.get (part_at w c.key).blobs r.blob))

-- what the end of a row's doubt answers if the settle of its log ended so
abbrev pub ended_row_by : Result Settled StoredFault → Result (Unit {0}) StoredFault
ended_row_by (Ok e) = Ok tt
ended_row_by (Err f) = Err f

-- what the end of a row's doubt does beside the streams
abbrev pub EndsRow : Result Settled StoredFault → Option (World (List Piece)) → Option (World (List Piece)) → Option KeyedAct → Option KeyedAct → Type 0
EndsRow (Ok settled.Clean) v w d e = (w ≡ v) × (e ≡ d)
EndsRow (Ok (settled.Kept p)) v w d e = IfSome d (λ c. HasRow c.act v c w) × (e ≡ None)
EndsRow (Ok settled.Dropped) v w d e = (w ≡ v) × (e ≡ None)
EndsRow (Err f) v w d e = (w ≡ v) × (e ≡ d)
