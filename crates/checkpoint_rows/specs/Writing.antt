-- The rows of containers as a checkpoint writes them (SOSP 2011, section 5.3: checkpoints).
use Rattle.std.specs.Prelude.{◌≡◌, ◌≤◌, ℕ, true, cond, ◌==◌, List, [], ◌∷◌, ◌++◌, map, All, IfSome, IsTrue, None}
use Rattle.std.specs.List.{flat_map}
use Rattle.std.specs.FinMap as finite
use Rattle.std.specs.FinMap.{entries}
use Rattle.extent_node.specs.Copies.{Block}
use Rattle.stamp_values.specs.Names.{is_account, is_blob, is_container}
use Rattle.stamp_values.specs.Texts.{is_utf8}
use Rattle.stamp_values.specs.declared.key.Key.{Key}
use Rattle.stamp_types.specs.Contents.{EachActContent}
use Rattle.stamp_types.specs.Pieces.{is_placed}
use Rattle.stamp_types.specs.World.{Blob, Part, World, part_at}
use Rattle.stamp_types.specs.declared.act.Act.{Act}
use Rattle.stamp_types.specs.declared.act.Act.TheVariants as act
use Rattle.stamp_types.specs.declared.piece.Piece.{Piece}
use Rattle.block_blobs.specs.StoredRows.{is_left}
use Rattle.row_trees.specs.RowRecords.{blob_row_of, container_row_of}
use Rattle.stream_manager.specs.Streams.{Streamed}
use Rattle.partition_stream.specs.Changes.{Recorded}
use Rattle.partition_stream.specs.Checkpoints.{AreStoredRows, new_rows}
use Rattle.partition_stream.specs.Storing.{IsStoredChange}

-- a change of the container; a row has the epoch 0
abbrev pub recorded : Key → Act → Recorded
recorded key a = (record { key = key; act = a }, 0)

-- the row of a container without its blobs; a container that has seen no change has no row of its own
abbrev pub own_acts : Part (List Piece) → List Act
own_acts p = cond (p.count == 0) [] (act.ContainerRow (container_row_of p) ∷ [])

-- the rows of a container: its own, and then those of its blobs in the order of the names
abbrev pub written_acts : Part (List Piece) → List Act
written_acts p = own_acts p ++ map blob_row_of (entries p.blobs)

-- the records of these rows
abbrev pub container_records : Key × Part (List Piece) → List Recorded
container_records e = map (recorded e.0) (written_acts e.1)

-- the records of the rows of these containers, one container after the other
abbrev pub all_records : List (Key × Part (List Piece)) → List Recorded
all_records es = flat_map container_records es

-- the new rows have these records more, and no doubt; all of them are stored in each data in which those before and these are stored
pub record HasRows (s : Streamed) (cs : List Recorded) (t : Streamed) : Type 0 where
  pub rows : new_rows t ≡ new_rows s ++ cs
  pub whole : t.last.tried ≡ None
  pub stored : (es : List (List Block)) → AreStoredRows es s → All (λ c. IsStoredChange es c.0) cs → AreStoredRows es t

-- the container has good names
pub record HasGoodNames (key : Key) : Type 0 where
  pub account : is_account key.account ≡ true
  pub container : is_container key.container ≡ true

-- the container and the blob have good names, and something is left of the blob
pub record IsWritableBlob (key : Key) (name : List ℕ) (b : Blob (List Piece)) : Type 0 where
  pub named : HasGoodNames key
  pub text : is_utf8 name ≡ true
  pub good : is_blob name ≡ true
  pub left : is_left b ≡ true

-- a container that has seen a change has good names, and one that has seen none has nothing but its blobs, each of which can be written
pub record IsWritable (key : Key) (p : Part (List Piece)) : Type 0 where
  pub named : 1 ≤ p.count → HasGoodNames key
  pub unseen : p.count ≡ 0 → p.standing ≡ None
  pub blobs : (name : List ℕ) → IfSome (finite.get p.blobs name) (IsWritableBlob key name)

-- each container can be written
abbrev pub AreWritable : World (List Piece) → Type 0
AreWritable w = (key : Key) → IsWritable key (part_at w key)

-- each content of the blob's row is at places
abbrev pub IsPlacedRow : List ℕ × Blob (List Piece) → Type 0
IsPlacedRow e = EachActContent (λ ps. IsTrue (is_placed ps)) (blob_row_of e)

-- each blob of a list can be written, and its content is at places
pub record AreReady (key : Key) (es : List (List ℕ × Blob (List Piece))) : Type 0 where
  pub writable : All (λ e. IsWritableBlob key e.0 e.1) es
  pub placed : All IsPlacedRow es

-- each container of a list can be written, and each content in it is at places
pub record AreReadyParts (es : List (Key × Part (List Piece))) : Type 0 where
  pub writable : All (λ e. IsWritable e.0 e.1) es
  pub ready : All (λ e. AreReady e.0 (entries e.1.blobs)) es
