-- A walk over all blocks of a stream, by extent and by index (SOSP 2011, section 4.1).
use Rattle.std.specs.Prelude.{ℕ, List, [], ◌++◌, take, get_or}
use Rattle.extent_node.specs.Copies.{Block}
use Rattle.stream_manager.specs.Places.{blocks_of}

-- the blocks before an index of an extent: those of the extents before it, and those at smaller indexes
abbrev pub before : List (List Block) → ℕ → ℕ → List Block
before es e i = blocks_of (take e es) ++ take i (get_or es e [])
