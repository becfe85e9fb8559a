-- Streams: what is seen of them (SOSP 2011, section 4.1).
use Rattle.std.specs.Prelude.{ℕ, List}
use Rattle.extent_node.specs.Copies.{Block}
use Rattle.extent_seal.specs.Extents.{Open, Closed}
use Rattle.stream_manager.specs.Extents.{extents}

-- a stream: its sealed extents, and the last one, which takes blocks
pub record Streamed : Type 0 where
  -- the bytes that an extent of two or more blocks may hold
  pub limit : ℕ
  pub sealed : List Closed
  pub last : Open

-- the blocks of each extent of a stream
abbrev pub laid : Streamed → List (List Block)
laid s = extents s.sealed s.last
