-- What rows find of the container that a request names, after the request's change (SOSP 2011, section 5, object table).
use Rattle.std.specs.Prelude.{ℕ, List}
use Rattle.stamp_types.specs.Pieces.{pieces_len}
use Rattle.stamp_types.specs.Requests.{Asked}
use Rattle.stamp_types.specs.World.{Part, same_pieces}
use Rattle.stamp_types.specs.declared.piece.Piece.{Piece}
use Rattle.row_trees.specs.FoundParts.{sizes_found}
use Rattle.range_rows.specs.RequestChanges.{change_of, part_after}

-- what was found, with the sizes of its content, after the request's change at a moment
abbrev pub sizes_found_after : Part (List Piece) → Asked → ℕ → Part ℕ
sizes_found_after p q t = part_after pieces_len (change_of (sizes_found p) q t) (sizes_found p)

-- what was found, with its pieces, after the request's change at a moment
abbrev pub pieces_found_after : Part (List Piece) → Asked → ℕ → Part (List Piece)
pieces_found_after p q t = part_after same_pieces (change_of (sizes_found p) q t) p
