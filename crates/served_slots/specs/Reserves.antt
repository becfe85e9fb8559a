-- The pieces of the reserve of memory.
use Rattle.std.specs.Prelude.{◌≡◌, ℕ, ◌≤◌, List, length, All, Vec, vec_capacity}
use Rattle.std.specs.declared.alloc.Global.{Global}

-- the pieces have 32 MiB together: there are 512, each with room for 65,536 bytes
pub record ArePieces (pieces : List (Vec ℕ Global)) : Type 0 where
  pub count : length pieces ≡ 512
  pub rooms : All (λ piece. 65_536 ≤ vec_capacity piece) pieces
