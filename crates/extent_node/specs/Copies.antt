-- What the replica of a node is seen as (SOSP 2011, section 4.1).
use Rattle.std.specs.Prelude.{ℕ, List}

-- a block is its bytes
abbrev pub Block : Type 0
Block = List ℕ

-- blocks in their order, and the number of blocks that there is room for
pub record Copy : Type 0 where
  pub blocks : List Block
  pub room : ℕ
