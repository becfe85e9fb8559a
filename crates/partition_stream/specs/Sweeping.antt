-- Streams whose front is given up, once all that it means was logged again (SOSP 2011, section 5).
use Rattle.std.specs.Prelude.{◌≡◌, ◌≤◌, ◌+◌, ℕ, List, [], ◌++◌, None, All, drop, length, take}
use Rattle.extent_seal.specs.Extents.{Closed}
use Rattle.stamp_values.specs.declared.key.Key.{Key}
use Rattle.stamp_types.specs.Contents.{EachActContent}
use Rattle.stamp_types.specs.World.{Part, no_part, same_pieces}
use Rattle.stamp_types.specs.declared.piece.Piece.{Piece}
use Rattle.stamp_types.specs.declared.piece.Piece.TheVariants.{Bytes, At}
use Rattle.stream_manager.specs.GivenUp.{GivesUpFront, with_blocks}
use Rattle.stream_manager.specs.Places.{blocks_of}
use Rattle.stream_manager.specs.Streams.{laid}
use Rattle.partition_stream.specs.Changes.{Recorded, changes_of}
use Rattle.partition_stream.specs.Meanings.{acts_on, after_acts}
use Rattle.partition_stream.specs.Streams.{HaveSameLimits, ThreeStreams}
use Rattle.partition_stream.specs.declared.mark.Mark.{Mark}

-- how many extents of the log and of the data are sealed
abbrev pub mark_of : ThreeStreams → Mark
mark_of s = record { log = length s.log.sealed; blobs = length s.blobs.sealed }

-- the changes that were logged since the mark
abbrev pub changes_from : Mark → ThreeStreams → List Recorded
changes_from m s = changes_of (blocks_of (drop m.log (laid s.log)))

-- what these changes make of a container that never was, in pieces
abbrev pub made_from : Mark → ThreeStreams → Key → Part (List Piece)
made_from m s key = after_acts same_pieces (acts_on key (changes_from m s)) no_part

-- the piece is a place in an extent from this number on
abbrev pub IsFrom : ℕ → Piece → Type 0
IsFrom n (Bytes bs) = ⊥
IsFrom n (At place len) = n ≤ place.extent

-- each piece of the content is a place in an extent from this number on
abbrev pub AreFrom : ℕ → List Piece → Type 0
AreFrom n ps = All (IsFrom n) ps

-- each content that the changes since the mark bring was put since the mark
abbrev pub LieFrom : Mark → ThreeStreams → Type 0
LieFrom m s = All (λ c. EachActContent (AreFrom m.blobs) c.0.act) (changes_from m s)

-- the extents before the mark that have a block: first those of the log, then those of the data
abbrev pub filled_before : Mark → ThreeStreams → List Closed
filled_before m s = with_blocks (take m.log s.log.sealed) ++ with_blocks (take m.blobs s.blobs.sealed)

-- how many these are
abbrev pub handles_before : Mark → ThreeStreams → ℕ
handles_before m s = length (with_blocks (take m.log s.log.sealed)) + length (with_blocks (take m.blobs s.blobs.sealed))

-- log and data before the mark, and the rows, have no block any more, and nothing is in doubt
pub record GivesUpBefore (m : Mark) (s t : ThreeStreams) : Type 0 where
  pub log : GivesUpFront m.log s.log t.log
  pub blobs : GivesUpFront m.blobs s.blobs t.blobs
  pub rows : blocks_of (laid t.rows) ≡ []
  pub whole : t.rows.last.tried ≡ None
  pub sure : s.log.last.tried ≡ None
  pub limits : HaveSameLimits s t
