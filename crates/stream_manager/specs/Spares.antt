-- What the extents that follow the last one are seen as.
use Rattle.std.specs.Prelude.{ℕ}

-- the number of blocks that there is room for in the next extent, and in the extent after it
pub record Rooms : Type 0 where
  pub next : ℕ
  pub after : ℕ
