-- What it does to streams to put the content of a change and to log the change.
use Rattle.std.specs.Prelude.{◌≡◌, ⊤, ℕ, Option, None, Some, Result, Ok, Err, List}
use Rattle.extent_node.specs.Copies.{Block}
use Rattle.stamp_types.specs.Changes.{KeyedAct, change_with}
use Rattle.stamp_types.specs.Contents.{EachActContent}
use Rattle.stamp_types.specs.World.{Part}
use Rattle.stamp_types.specs.declared.piece.Piece.{Piece}
use Rattle.block_blobs.specs.declared.found_blocks.FoundBlocks.{FoundBlocks}
use Rattle.row_trees.specs.ListedBlocks.{AreFoundFor}
use Rattle.stream_manager.specs.Places.{KeepsPlaces}
use Rattle.stream_manager.specs.Streams.{laid}
use Rattle.partition_stream.specs.Changes.{Recorded}
use Rattle.partition_stream.specs.Contents.{ArePlaced}
use Rattle.partition_stream.specs.Meanings.{IsOneMore}
use Rattle.partition_stream.specs.Streams.{ThreeStreams, logged}
use Rattle.partition_stream.specs.Sweeping.{AreFrom}
use Rattle.row_trees.specs.Halfway.{News}
use Rattle.stored_rows.specs.States.{IsKeptAs}
use Rattle.stored_rows.specs.Swept.{MayLog}
use Rattle.stored_rows.specs.declared.logging.Unlogged.{Unlogged}
use Rattle.stored_rows.specs.declared.logging.Unlogged.TheVariants as fault

-- content was put at these pieces, if there is content
abbrev pub IsPutAt : List (List Block) → Option (List Piece) → Option (List Piece) → Type 0
IsPutAt es None None = ⊤
IsPutAt es None (Some ps) = ⊥
IsPutAt es (Some content) None = ⊥
IsPutAt es (Some content) (Some ps) = ArePlaced es content ps

-- the change with its content at these pieces, if there are pieces
abbrev pub with_placed : KeyedAct → Option (List Piece) → KeyedAct
with_placed c None = c
with_placed c (Some ps) = change_with c ps

-- the blocks that were found for a change are also found for the change as it is kept
abbrev pub KeepsFound : KeyedAct → KeyedAct → Type 0
KeepsFound c d = (p : Part (List Piece)) (blocks : FoundBlocks) → AreFoundFor p c.act blocks → AreFoundFor p d.act blocks

-- the rows and the log are as they were, and the blocks of the data are at their places
pub record KeepsLog (s t : ThreeStreams) : Type 0 where
  pub rows : (logged t).rows ≡ (logged s).rows
  pub log : (logged t).log ≡ (logged s).log
  pub places : KeepsPlaces (laid s.blobs) (laid t.blobs)

-- the log has the change with its epoch, as it was kept, and no change is in doubt
pub record AddsChange (s : ThreeStreams) (c : Recorded) (d : KeyedAct) (t : ThreeStreams) : Type 0 where
  pub more : IsOneMore (logged s) (d, c.1) (logged t)
  pub places : KeepsPlaces (laid s.blobs) (laid t.blobs)
  pub same : IsKeptAs (laid t.blobs) c.0 d
  pub sure : (logged t).doubt ≡ None

-- the change is in doubt with its epoch, as it may be kept
pub record Doubts (s : ThreeStreams) (c : Recorded) (d : KeyedAct) (t : ThreeStreams) : Type 0 where
  pub doubt : (logged t).doubt ≡ Some (d, c.1)
  pub same : IsKeptAs (laid t.blobs) c.0 d
  pub log : KeepsLog s t

-- a change is put and logged: the change that is answered is the one as it is kept
abbrev pub IsPutAndLogged : Result KeyedAct Unlogged → ThreeStreams → Recorded → ThreeStreams → Type 0
IsPutAndLogged (Ok d) s c t = AddsChange s c d t
IsPutAndLogged (Err (fault.Doubt d)) s c t = Doubts s c d t
IsPutAndLogged (Err fault.Busy) s c t = KeepsLog s t × ((logged t).doubt ≡ None)
IsPutAndLogged (Err fault.NoMemory) s c t = KeepsLog s t × ((logged t).doubt ≡ None)

-- the change is kept with its content in extents of the data from this number on, and may be logged whenever it could be logged before
pub record IsKeptFrom (n : ℕ) (c d : KeyedAct) : Type 0 where
  pub key : d.key ≡ c.key
  pub from : EachActContent (AreFrom n) d.act
  pub may : (news : Option News) (p : Part (List Piece)) → MayLog news p c.act → MayLog news p d.act

-- the same of a change that was put and logged, or is in doubt
abbrev pub IsLoggedFrom : ℕ → KeyedAct → Result KeyedAct Unlogged → Type 0
IsLoggedFrom n c (Ok d) = IsKeptFrom n c d
IsLoggedFrom n c (Err (fault.Doubt d)) = IsKeptFrom n c d
IsLoggedFrom n c (Err fault.Busy) = ⊤
IsLoggedFrom n c (Err fault.NoMemory) = ⊤
