-- Rows in memory beside the streams from which they are made (SOSP 2011, section 5).
use Rattle.std.specs.Prelude.{◌≡◌, ◌-◌, ℕ, ⊤, cond, length, List, Option, Some, None, IfSome}
use Rattle.std.specs.Option.{option_map}
use Rattle.stamp_values.specs.declared.key.Key.{Key}
use Rattle.stamp_types.specs.Changes.{KeyedAct}
use Rattle.stamp_types.specs.declared.piece.Piece.{Piece}
use Rattle.stamp_types.specs.World.{Blob, Part, World, changed_in, no_part, part_at, same_pieces}
use Rattle.partition_stream.specs.Changes.{Recorded}
use Rattle.partition_stream.specs.Compactions.{HaveLimit}
use Rattle.partition_stream.specs.Meanings.{acts_on, after_acts}
use Rattle.partition_stream.specs.Positions.{all_changes, changes_before}
use Rattle.partition_stream.specs.Streams.{ThreeStreams, logged}
use Rattle.partition_stream.specs.declared.position.Position.{Position}
use Rattle.stored_rows.specs.Fitting.{AllFit, FitsDoubt}
use Rattle.stored_rows.specs.Ranges.{covers}
use Rattle.stored_rows.specs.RowDoubts.{FitsRowDoubt}
use Rattle.stored_rows.specs.Swept.{AreSwept}
use Rattle.stored_rows.specs.declared.key_range.KeyRange.{KeyRange}
use Rattle.stored_rows.specs.declared.sweep.Sweep.{Sweep}

-- rows after a change, if it is one of the range
abbrev pub with_change : KeyRange → World (List Piece) → KeyedAct → World (List Piece)
with_change range w c = cond (covers range c.key) (changed_in same_pieces w c) w

-- the container as these changes leave it, if it is one of the range; otherwise a container that never was
abbrev pub part_of : KeyRange → Key → List Recorded → Part (List Piece)
part_of range key cs = cond (covers range key) (after_acts same_pieces (acts_on key cs) no_part) no_part

-- the container as the streams mean it, if it is one of the range; otherwise a container that never was
abbrev pub held_in : KeyRange → ThreeStreams → Key → Part (List Piece)
held_in range s key = part_of range key (all_changes s)

-- the rows have each container of the range as the streams mean it, and no other
abbrev pub AreRowsOf : KeyRange → ThreeStreams → World (List Piece) → Type 0
AreRowsOf range s w = (key : Key) → part_at w key ≡ held_in range s key

-- the rows have each container of the range as the changes before this position leave it, and no other
unfoldable pub HaveRead : KeyRange → ThreeStreams → Position → World (List Piece) → Type 0
HaveRead range s p w = (key : Key) → part_at w key ≡ part_of range key (changes_before s p)

-- how many changes come after this position
unfoldable pub changes_left : ThreeStreams → Position → ℕ
changes_left s p = length (all_changes s) - length (changes_before s p)

-- the rows that were loaded have the change, or they are not loaded any more
abbrev pub IsFollowed : Option (World (List Piece)) → KeyedAct → Option (World (List Piece)) → Type 0
IsFollowed v c None = ⊤
IsFollowed None c (Some w) = ⊥
IsFollowed (Some v) c (Some w) = w ≡ changed_in same_pieces v c

-- the change that is in doubt, without its epoch
abbrev pub doubted : ThreeStreams → Option KeyedAct
doubted s = option_map (λ (c : Recorded). c.0) (logged s).doubt

-- what is true of streams, of the rows that are loaded, if they are, and of the change that is kept beside them
pub record AreLoaded (s : ThreeStreams) (o : Option (World (List Piece))) (d : Option KeyedAct) (range : KeyRange) : Type 0 where
  pub fit : AllFit s
  pub doubt : FitsDoubt range s
  pub tried : d ≡ doubted s
  pub rows : IfSome o (AreRowsOf range s)

-- what is true of all stored rows: that of `AreLoaded`, extents of two or more blocks may have so many bytes, a sweep may be under way, and so
-- may the doubt of a row
pub record AreLimited (bytes : ℕ) (s : ThreeStreams) (o : Option (World (List Piece))) (d : Option KeyedAct) (range : KeyRange) (sweep : Option Sweep) (spare : Option (Blob (List Piece))) : Type 0 where
  pub loaded : AreLoaded s o d range
  pub limits : HaveLimit bytes s
  pub swept : IfSome sweep (λ w. AreSwept w range s)
  pub again : FitsRowDoubt s spare
