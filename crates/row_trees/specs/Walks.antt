-- What a walk over blobs or over containers has left (Blob service REST reference, 2012-02-12, "List Blobs", "List Containers", markers).
use Rattle.std.specs.Prelude.{ℕ, List, [], map, Option, Some, None}
use Rattle.std.specs.Global.{Vec}
use Rattle.stamp_values.specs.Trees.{entry_key, name_of}
use Rattle.stamp_types.specs.declared.piece.Piece.{Piece}
use Rattle.stamp_types.specs.World.{Blob, Part}
use Rattle.stamp_values.specs.declared.key.Key.{Key}
use denote.Ref.{Bor}

-- the names with their blobs that a tree has left; a container that never was has no blobs
abbrev pub blobs_left : Option (List (Vec ℕ × Blob (List Piece))) → List (List ℕ × Blob (List Piece))
blobs_left None = []
blobs_left (Some entries) = map (entry_key name_of) entries

-- the name and the blob that a step gives
abbrev pub named_blob : Bor (List ℕ) × Blob (List Piece) → List ℕ × Blob (List Piece)
named_blob step = (step.0.now, step.1)

-- the key and the container that a step gives
abbrev pub keyed_part : Bor Key × Part (List Piece) → Key × Part (List Piece)
keyed_part step = (step.0.now, step.1)
