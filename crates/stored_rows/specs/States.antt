-- Stored rows: what is seen of them, and what calls do to them (SOSP 2011, section 5).
use Rattle.std.specs.Prelude.{◌≡◌, ◌≢◌, ℕ, Bool, true, cond, Option, Some, None, Result, Ok, Err, List, [], ◌∷◌, IsSome}
use Rattle.extent_node.specs.Copies.{Block}
use Rattle.stamp_values.specs.declared.key.Key.{Key}
use Rattle.stamp_types.specs.ActKinds.{is_row}
use Rattle.stamp_types.specs.Changes.{KeyedAct}
use Rattle.stamp_types.specs.Pieces.{held}
use Rattle.stamp_types.specs.World.{Part, changed}
use Rattle.stamp_types.specs.declared.piece.Piece.{Piece}
use Rattle.block_blobs.specs.declared.found_blocks.FoundBlocks.{FoundBlocks}
use Rattle.row_trees.specs.Fits.{fits}
use Rattle.row_trees.specs.ListedBlocks.{AreFoundFor}
use Rattle.stream_manager.specs.Streams.{laid}
use Rattle.stream_manager.specs.declared.faults.StoredFault.{StoredFault}
use Rattle.partition_stream.specs.Changes.{Recorded}
use Rattle.partition_stream.specs.Contents.{content_at}
use Rattle.partition_stream.specs.Meanings.{IsOneMore, held_of, meaning}
use Rattle.partition_stream.specs.Storing.{IsStoredChange}
use Rattle.partition_stream.specs.Streams.{ThreeStreams, logged}
use Rattle.partition_stream.specs.declared.faults.TakeFault.{TakeFault}
use Rattle.partition_stream.specs.declared.faults.TakeFault.TheVariants as fault
use Rattle.stored_rows.specs.declared.key_range.KeyRange.{KeyRange}
use Rattle.stored_rows.specs.declared.faults.Ended.{Ended}
use Rattle.stored_rows.specs.declared.faults.Ended.TheVariants as ended

-- rows that are kept in streams: the streams, the range of the keys, and whether the rows are in memory
pub record Stored : Type 0 where
  pub streams : ThreeStreams
  pub range : KeyRange
  pub is_loaded : Bool

-- a container in pieces, as the streams mean it
abbrev pub pieces_of : Stored → Key → Part (List Piece)
pieces_of s key = held_of (logged s.streams) key

-- a container in bytes, as the streams mean it
abbrev pub bytes_of : Stored → Key → Part (List ℕ)
bytes_of s key = meaning (logged s.streams) key

-- the blocks are those that the change takes, if it commits a list, in its container as the streams mean it
abbrev pub AreFoundIn : Stored → KeyedAct → FoundBlocks → Type 0
AreFoundIn s c blocks = AreFoundFor (pieces_of s c.key) c.act blocks

-- the change that is in doubt, with its epoch
abbrev pub doubt_of : Stored → Option Recorded
doubt_of s = (logged s.streams).doubt

-- the change that is in doubt, if it is not a row: a row that a sweep has written changes no container, whether it is kept or not
abbrev pub own_doubt : Option Recorded → Option Recorded
own_doubt None = None
own_doubt (Some c) = cond (is_row c.0.act) None (Some c)

abbrev pub own_doubt_of : Stored → Option Recorded
own_doubt_of s = own_doubt (doubt_of s)

-- a change is kept as another one, with its content at places where it is read
pub record IsKeptAs (es : List (List Block)) (c d : KeyedAct) : Type 0 where
  pub key : d.key ≡ c.key
  pub stored : IsStoredChange es d
  -- it does the same to each container in bytes
  pub bytes : (p : Part (List ℕ)) → changed (content_at es) d.act p ≡ changed held c.act p
  -- and fits the same containers
  pub fits : (p : Part ℕ) → fits p d.act ≡ fits p c.act

-- the change is one more of its container, all other containers are as they were, and no change is in doubt; the log has one record more, of
-- this change with its epoch; rows that were not loaded are not loaded
pub record IsChanged (s : Stored) (c : Recorded) (t : Stored) : Type 0 where
  pub own : bytes_of t c.0.key ≡ changed held c.0.act (bytes_of s c.0.key)
  pub others : (key : Key) → key ≢ c.0.key → bytes_of t key ≡ bytes_of s key
  pub kept : KeyedAct
  pub more : IsOneMore (logged s.streams) (kept, c.1) (logged t.streams)
  pub same : IsKeptAs (laid t.streams.blobs) c.0 kept
  pub sure : doubt_of t ≡ None
  pub range : t.range ≡ s.range
  pub loaded : t.is_loaded ≡ true → s.is_loaded ≡ true

-- each container is as it was, in bytes and in pieces; the streams keep the same changes
pub record MeansTheSame (s t : Stored) : Type 0 where
  pub rows : (logged t.streams).rows ≡ (logged s.streams).rows
  pub log : (logged t.streams).log ≡ (logged s.streams).log
  pub bytes : (key : Key) → bytes_of t key ≡ bytes_of s key
  pub pieces : (key : Key) → pieces_of t key ≡ pieces_of s key
  pub range : t.range ≡ s.range
  pub loaded : t.is_loaded ≡ s.is_loaded

-- the change is in doubt with its epoch
pub record IsInDoubt (c : Recorded) (t : Stored) : Type 0 where
  pub kept : KeyedAct
  pub doubt : doubt_of t ≡ Some (kept, c.1)
  pub same : IsKeptAs (laid t.streams.blobs) c.0 kept

-- what taking a change does
abbrev pub IsTaken : Result (Unit {0}) TakeFault → Stored → Recorded → Stored → Type 0
IsTaken (Ok _) s c t = IsChanged s c t
IsTaken (Err fault.Doubt) s c t = MeansTheSame s t × IsInDoubt c t
IsTaken (Err fault.Busy) s c t = MeansTheSame s t × (doubt_of t ≡ None)
IsTaken (Err fault.NoMemory) s c t = MeansTheSame s t × (doubt_of t ≡ None)

-- what a settle does: each change as which the doubt was kept is made now, or none; a row in doubt is left
abbrev pub SettlesRows : Result Ended StoredFault → Stored → Stored → Type 0
SettlesRows (Ok ended.Clean) s t = MeansTheSame s t × ((own_doubt_of s ≡ None) × (doubt_of t ≡ doubt_of s))
SettlesRows (Ok ended.Kept) s t = ((c : Recorded) → IsInDoubt c s → IsChanged s c t) × (IsSome (own_doubt_of s) × (doubt_of t ≡ None))
SettlesRows (Ok ended.Dropped) s t = MeansTheSame s t × (IsSome (own_doubt_of s) × (doubt_of t ≡ None))
SettlesRows (Err e) s t = MeansTheSame s t × (IsSome (own_doubt_of s) × (doubt_of t ≡ doubt_of s))

-- one of the two halves of stored rows that were cut: it means the same, for its own range, and has no doubt
pub record IsHalf (own : KeyRange) (s t : Stored) : Type 0 where
  pub bytes : (key : Key) → bytes_of t key ≡ bytes_of s key
  pub pieces : (key : Key) → pieces_of t key ≡ pieces_of s key
  pub range : t.range ≡ own
  pub sure : doubt_of t ≡ None
  pub loaded : t.is_loaded ≡ s.is_loaded

-- the changes were taken, one after the other
abbrev pub AreTaken : Stored → List Recorded → Stored → Type 0
AreTaken s [] t = t ≡ s
AreTaken s (c ∷ cs) t = (m : Stored) × (IsChanged s c m × AreTaken m cs t)
