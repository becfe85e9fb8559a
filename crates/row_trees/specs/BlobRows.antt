-- The codes of a container and of a world (SOSP 2011, section 5, object table).
use Rattle.std.specs.Prelude.{List}
use Rattle.std.specs.Coded.{Coded}
use Rattle.stamp_types.specs.World.{Part, World}
use Rattle.stamp_types.specs.ContentCodes.{content_code}
use Rattle.stamp_types.specs.WorldCodes.{part_code, world_code}
use Rattle.stamp_types.specs.declared.piece.Piece.{Piece}

-- the code of a container's part of the world
abbrev pub container_code : Coded (Part (List Piece))
container_code = part_code content_code

-- the code of a world
abbrev pub rows_code : Coded (World (List Piece))
rows_code = world_code content_code
