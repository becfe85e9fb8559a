-- Positions of a walk over the changes that streams keep: first those of the rows, then those of the log.
use Rattle.std.specs.Prelude.{◌≡◌, ◌<◌, ℕ, List, ◌++◌, cond, IsSome}
use Rattle.stamp_values.specs.declared.place.Place.{Place}
use Rattle.extent_node.specs.Copies.{Block}
use Rattle.stream_manager.specs.Places.{block_at}
use Rattle.stream_manager.specs.Streams.{laid}
use Rattle.stream_manager.specs.Walks.{before}
use Rattle.partition_stream.specs.Changes.{Recorded, changes_of}
use Rattle.partition_stream.specs.Streams.{ThreeStreams, logged}
use Rattle.partition_stream.specs.declared.position.Position.{Position}

-- all changes that the streams keep, in the order in which they are made again
abbrev pub all_changes : ThreeStreams → List Recorded
all_changes s = (logged s).rows ++ (logged s).log

-- the changes before a position
abbrev pub changes_before : ThreeStreams → Position → List Recorded
changes_before s p =
    cond p.in_log ((logged s).rows ++ changes_of (before (laid s.log) p.extent p.index)) (changes_of (before (laid s.rows) p.extent p.index))

-- the first changes are those at the front of all
abbrev pub IsFirstPart : List Recorded → List Recorded → Type 0
IsFirstPart first all = (rest : List Recorded) × (all ≡ first ++ rest)

-- there is a block at the place, and the blocks before it are those before this index of this extent
pub record IsNextAt (es : List (List Block)) (extent index : ℕ) (p : Place) : Type 0 where
  pub here : IsSome (block_at es p)
  pub below : p.index < 18446744073709551615
  pub same : before es p.extent p.index ≡ before es extent index
