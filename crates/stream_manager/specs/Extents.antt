-- The extents of a stream (SOSP 2011, section 4.1).
use Rattle.std.specs.Prelude.{List, [], ◌∷◌, ◌++◌, map}
use Rattle.extent_node.specs.Copies.{Block}
use Rattle.extent_seal.specs.Extents.{Open, Closed}

-- the blocks of a sealed extent
abbrev pub closed_blocks : Closed → List Block
closed_blocks e = e.blocks

-- the blocks of each extent: those of each sealed extent, and the acknowledged ones of the last
abbrev pub extents : List Closed → Open → List (List Block)
extents sealed last = map closed_blocks sealed ++ last.blocks ∷ []
