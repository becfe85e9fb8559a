-- Rows that are swept: each is logged again, so that the streams before a mark can be given up (SOSP 2011, section 5.3: checkpoints).
use Rattle.std.specs.Prelude.{◌≡◌, ◌≤◌, ⊤, ◌||◌, ◌&&◌, ◌==◌, ℕ, Bool, true, false, cond, not, length, List, Option, Some, None, IfSome, IsSome, is_none, is_some, unwrap_or}
use Rattle.std.specs.FinMap as finite
use Rattle.std.specs.Global.{Vec}
use Rattle.std.specs.Option.{option_map_or}
use Rattle.std.specs.declared.cmp.Ordering.{Ordering}
use Rattle.std.specs.declared.cmp.Ordering.TheVariants.{Less, Equal, Greater}
use Rattle.extent_node.specs.Copies.{Block}
use Rattle.stamp_values.specs.Order.{key_cmp, name_cmp}
use Rattle.stamp_values.specs.Trees.{is_from, is_name_from}
use Rattle.stamp_values.specs.declared.key.Key.{Key}
use Rattle.stamp_types.specs.Contents.{EachActContent}
use Rattle.stamp_types.specs.Changes.{KeyedAct}
use Rattle.stamp_types.specs.World.{Blob, Part, World, blob_in, no_part, part_at}
use Rattle.stamp_types.specs.declared.act.Act.{Act}
use Rattle.stamp_types.specs.declared.act.Act.TheVariants as act
use Rattle.stamp_types.specs.declared.piece.Piece.{Piece}
use Rattle.block_blobs.specs.StoredRows.{is_left, row_of}
use Rattle.row_trees.specs.RowRecords.{container_row_of}
use Rattle.stream_manager.specs.Streams.{laid}
use Rattle.partition_stream.specs.Changes.{Recorded}
use Rattle.partition_stream.specs.Compactions.{IsMovedRow}
use Rattle.partition_stream.specs.Meanings.{acts_on, held_of, is_on}
use Rattle.partition_stream.specs.Streams.{ThreeStreams, logged}
use Rattle.partition_stream.specs.Sweeping.{AreFrom, LieFrom, changes_from, handles_before, made_from, mark_of}
use Rattle.partition_stream.specs.declared.mark.Mark.{Mark}
use Rattle.stored_rows.specs.Fitting.{FitInTurn}
use Rattle.row_trees.specs.Halfway.{IsSweptPart, IsTouched, News, news_after, no_news}
use Rattle.stored_rows.specs.Ranges.{covers}
use Rattle.stored_rows.specs.declared.key_range.KeyRange.{KeyRange}
use Rattle.stored_rows.specs.declared.cursor.Cursor.{Cursor}
use Rattle.stored_rows.specs.declared.cursor.Cursor.TheVariants as cursor
use Rattle.stored_rows.specs.declared.sweep.Sweep.{Sweep}
use Rattle.stored_rows.specs.declared.sweep.Swept.{Swept}
use Rattle.stored_rows.specs.declared.sweep.Written.{Written}

-- ---- what was written since the mark

-- of each container: its row was not written since the mark, or it was, and so were these of its blobs
abbrev pub AllNews : Type 0
AllNews = Key → Option News

-- the container has seen no change, so it has no row, and the act reads no blob of it
pub record IsUnseen (p : Part (List Piece)) (a : Act) : Type 0 where
  pub count : p.count ≡ 0
  pub standing : p.standing ≡ None
  pub touched : IsTouched no_news p a

-- the act may be logged: what it reads was written since the mark; or it is the row of its container; or the container has seen no change
abbrev pub MayLog : Option News → Part (List Piece) → Act → Type 0
MayLog (Some news) p a = IsTouched news p a
MayLog None p (act.ContainerRow r) = r ≡ container_row_of p
MayLog None p other = IsUnseen p other

-- what is new in the container after an act
abbrev pub next_news : Option News → Act → Option News
next_news (Some news) a = Some (news_after news a)
next_news None a = Some (news_after no_news a)

-- what is new after a change
abbrev pub with_new_change : AllNews → Recorded → AllNews
with_new_change news c key = cond (is_on key c) (next_news (news key) c.0.act) (news key)

-- what is true of streams while the containers inside are swept
pub record IsSwept (m : Mark) (news : AllNews) (inside : Key → Bool) (s : ThreeStreams) : Type 0 where
  -- the changes since the mark make what was written since the mark
  pub parts : (key : Key) → inside key ≡ true → IsSweptPart (news key) (held_of (logged s) key) (made_from m s key)
  -- they fit in turn, also those of containers that are not inside: they are what is left once the streams before the mark are given up
  pub fit : (key : Key) → FitInTurn (acts_on key (changes_from m s)) no_part
  -- and their content was put since the mark
  pub from : LieFrom m s

-- ---- what a sweep knows

-- whether the cursor is at the end
abbrev pub is_end : Cursor → Bool
is_end cursor.End = true
is_end other = false

-- names, by the key of their container
abbrev pub Names : Type 0
Names = finite.FinMap key_cmp (finite.FinMap name_cmp Written)

-- the names up to this name, if there is one
abbrev pub is_upto : Option (Vec ℕ) → List ℕ → Bool
is_upto None name = false
is_upto (Some last) name = is_name_from name last.items

-- whether the cursor is past the row of the container
abbrev pub is_past : Cursor → Key → Bool
is_past cursor.Start key = false
is_past (cursor.In at last) key = is_from key at
is_past (cursor.After at) key = is_from key at
is_past cursor.End key = true

-- whether a cursor in this container is past the blob of the name
abbrev pub is_past_in : Ordering → Option (Vec ℕ) → List ℕ → Bool
is_past_in Less last name = true
is_past_in Equal last name = is_upto last name
is_past_in Greater last name = false

-- whether the cursor is past the row of the blob
abbrev pub is_past_blob : Cursor → Key → List ℕ → Bool
is_past_blob (cursor.In at last) key name = is_past_in (key_cmp key at) last name
is_past_blob other key name = is_past other key

-- whether the container was touched
abbrev pub is_touched : Names → Key → Bool
is_touched names key = is_some (finite.get names key)

-- whether the blob was touched
abbrev pub is_touched_blob : Names → Key → List ℕ → Bool
is_touched_blob names key name = option_map_or (λ own. is_some (finite.get own name)) (finite.get names key) false

-- the sweep once it has noted that the own row of a container was written
abbrev pub with_container : Sweep → Key → Sweep
with_container w key = cond (is_touched w.touched key) w (record w { touched = finite.insert w.touched key finite.empty })

-- the sweep once it has noted that the row of a blob was written
abbrev pub with_blob_row : Sweep → Key → List ℕ → Sweep
with_blob_row w key name =
    record w { touched = finite.insert w.touched key (finite.insert (unwrap_or (finite.get w.touched key) finite.empty) name (record {})) }

-- whether the sweep knows that the row of the container was written since the mark
abbrev pub knows_row : Cursor → Names → Key → Bool
knows_row c names key = is_past c key || is_touched names key

-- whether the sweep knows that the row of the blob was written since the mark
abbrev pub knows_blob : Cursor → Names → Key → List ℕ → Bool
knows_blob c names key name = is_past_blob c key name || is_touched_blob names key name

-- the row of the container was written since the mark, or the container never was
abbrev pub IsBegun : Option News → Part (List Piece) → Type 0
IsBegun None p = p ≡ no_part
IsBegun (Some news) p = ⊤

-- the row of this name was written since the mark, or the container has no blob of this name
abbrev pub IsNewRow : Option News → Part (List Piece) → List ℕ → Type 0
IsNewRow None p name = p ≡ no_part
IsNewRow (Some news) p name = IsSome (finite.get p.blobs name) → news name ≡ true

-- what the sweep knows is true
pub record IsKnown (c : Cursor) (names : Names) (news : AllNews) (inside : Key → Bool) (s : ThreeStreams) : Type 0 where
  pub rows : (key : Key) → inside key ≡ true → knows_row c names key ≡ true → IsBegun (news key) (held_of (logged s) key)
  pub blobs : (key : Key) (name : List ℕ) → inside key ≡ true → knows_blob c names key name ≡ true → IsNewRow (news key) (held_of (logged s) key) name

-- the change may be logged, and its content was put since the mark
pub record IsLoggable (m : Mark) (news : AllNews) (s : ThreeStreams) (c : Recorded) : Type 0 where
  pub may : MayLog (news c.0.key) (held_of (logged s) c.0.key) c.0.act
  pub from : EachActContent (AreFrom m.blobs) c.0.act

-- what is true of the streams of a range that is swept
pub record AreSwept (w : Sweep) (range : KeyRange) (s : ThreeStreams) : Type 0 where
  -- the mark is not past the sealed extents, and there is room for what is given up
  pub log : w.mark.log ≤ length s.log.sealed
  pub blobs : w.mark.blobs ≤ length s.blobs.sealed
  pub room : handles_before w.mark s ≤ w.room.room
  -- some rows were written since the mark, among them those that the sweep knows; a change in doubt may be kept
  pub news : AllNews
  pub swept : IsSwept w.mark news (covers range) s
  pub known : IsKnown w.cursor w.touched news (covers range) s
  pub doubt : IfSome (logged s).doubt (IsLoggable w.mark news s)

-- ---- a change before which nothing has to be written

-- whether the container has seen no change
abbrev pub is_unseen : Part (List Piece) → Bool
is_unseen p = p.count == 0 && is_none p.standing

-- whether the sweep knows that the blob was written since the mark, or nothing is left of a blob of this name
abbrev pub knows_name : Cursor → Names → Key → Part (List Piece) → List ℕ → Bool
knows_name c names key p name = knows_blob c names key name || not (is_left (blob_in p name))

-- the name of the blob that the act reads, if it reads a blob
abbrev pub read_by : Act → Option (List ℕ)
read_by (act.SetMetadata a) = Some a.blob
read_by (act.PutBlock a) = Some a.blob
read_by (act.PutBlockList a) = Some a.blob
read_by other = None

-- whether the sweep knows that the blob that the act reads was written since the mark, if the act reads a blob
abbrev pub knows_read : Cursor → Names → Key → Part (List Piece) → Act → Bool
knows_read c names key p (act.SetMetadata a) = knows_name c names key p a.blob
knows_read c names key p (act.PutBlock a) = knows_name c names key p a.blob
knows_read c names key p (act.PutBlockList a) = knows_name c names key p a.blob
knows_read c names key p other = true

-- whether the sweep knows that the act may be logged
abbrev pub may_log : Cursor → Names → Key → Part (List Piece) → Act → Bool
may_log c names key p a = (knows_row c names key || is_unseen p) && knows_read c names key p a

-- whether a sweep is under way that has written each row
abbrev pub is_over : Option Sweep → Bool
is_over None = false
is_over (Some w) = is_end w.cursor

-- these are the parts of a sweep that has written each row
abbrev pub IsOver : Option Sweep → Swept → Type 0
IsOver None e = ⊥
IsOver (Some w) e = (is_end w.cursor ≡ true) × ((e.mark ≡ w.mark) × ((e.room ≡ w.room) × (e.began ≡ w.began)))

-- the cursors are past the same rows
pub record PassSame (c d : Cursor) : Type 0 where
  pub rows : (key : Key) → is_past d key ≡ is_past c key
  pub blobs : (key : Key) (name : List ℕ) → is_past_blob d key name ≡ is_past_blob c key name

-- the sweep of a part of the rows that another sweep has: it goes on from the same mark and behind the same rows, and no row beyond them was touched
pub record IsPartOf (w part : Sweep) : Type 0 where
  pub mark : part.mark ≡ w.mark
  pub cursor : PassSame w.cursor part.cursor
  pub touched : part.touched ≡ finite.empty
  pub began : part.began ≡ w.began

-- this is the sweep of the upper half of rows that are cut, if a sweep of the rows is under way: it has room for all extents of these streams that are
-- sealed
abbrev pub IsOfHalf : Option Sweep → ThreeStreams → Option Sweep → Type 0
IsOfHalf None s o = o ≡ None
IsOfHalf (Some w) s None = ⊥
IsOfHalf (Some w) s (Some half) = IsPartOf w half × (half.room.room ≡ handles_before (mark_of s) s)

-- the sweep, if it goes on while a change of these rows is logged: it ends if it does not know that the change may be logged
abbrev pub kept_sweep : Option Sweep → Option (World (List Piece)) → KeyedAct → Option Sweep
kept_sweep None o c = None
kept_sweep (Some w) None c = None
kept_sweep (Some w) (Some v) c = cond (may_log w.cursor w.touched c.key (part_at v c.key) c.act) (Some w) None

-- ---- a row that is in doubt

-- the row says again what the container has now, with content that reads the same
abbrev pub IsAgain : List (List Block) → Part (List Piece) → Act → Type 0
IsAgain es p (act.StoredBlob row) = (b : Blob (List Piece)) × ((finite.get p.blobs row.blob ≡ Some b) × IsMovedRow es (row_of row.blob b) es row)
IsAgain es p (act.ContainerRow r) = r ≡ container_row_of p
IsAgain es p other = ⊥

-- the change in doubt is a row that says again what its container has: whether it is kept or not, each container is the same in bytes
pub record IsRowInDoubt (s : ThreeStreams) (c : Recorded) : Type 0 where
  pub doubt : (logged s).doubt ≡ Some c
  pub epoch : c.1 ≡ 0
  pub again : IsAgain (laid s.blobs) (held_of (logged s) c.0.key) c.0.act
