-- Changes that fit the containers that the changes before them made (SOSP 2011, section 5).
use Rattle.std.specs.Prelude.{List, [], ◌∷◌, IsTrue, IfSome, true, ◌≡◌}
use Rattle.stamp_values.specs.declared.key.Key.{Key}
use Rattle.stamp_types.specs.declared.act.Act.{Act}
use Rattle.stamp_types.specs.declared.piece.Piece.{Piece}
use Rattle.stamp_types.specs.Pieces.{pieces_len}
use Rattle.stamp_types.specs.World.{Part, changed, no_part, part_value, same_pieces}
use Rattle.row_trees.specs.Fits.{fits}
use Rattle.partition_stream.specs.Meanings.{acts_on, held_of}
use Rattle.partition_stream.specs.Positions.{all_changes}
use Rattle.partition_stream.specs.Streams.{ThreeStreams, logged}
use Rattle.stored_rows.specs.Ranges.{covers}
use Rattle.stored_rows.specs.declared.key_range.KeyRange.{KeyRange}

-- the act fits the container
abbrev pub Fits : Part (List Piece) → Act → Type 0
Fits p a = IsTrue (fits (part_value pieces_len p) a)

-- each act fits the container as the acts before it leave it
abbrev pub FitInTurn : List Act → Part (List Piece) → Type 0
FitInTurn [] p = Unit {0}
FitInTurn (a ∷ acts) p = Fits p a × FitInTurn acts (changed same_pieces a p)

-- each change that the streams keep fits its container as the changes before it leave it
unfoldable pub AllFit : ThreeStreams → Type 0
AllFit s = (key : Key) → FitInTurn (acts_on key (all_changes s)) no_part

-- the change that is in doubt is one of the range, and fits its container
abbrev pub FitsDoubt : KeyRange → ThreeStreams → Type 0
FitsDoubt range s = IfSome (logged s).doubt (λ c. (covers range c.0.key ≡ true) × Fits (held_of (logged s) c.0.key) c.0.act)
