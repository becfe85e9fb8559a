-- What lists of sealed extents, and of their handles, are seen as.
use Rattle.std.specs.Prelude.{◌+◌, ◌-◌, ℕ, zero, suc, List, ◌∷◌, min}
use Rattle.extent_seal.specs.Extents.{Closed, no_blocks}

-- sealed extents in the order of their numbers, and for how many more there is room
pub record SealedList : Type 0 where
  pub extents : List Closed
  pub room : ℕ

-- the extents of handles, after so many extents that were given up and have no handle
abbrev pub numbered : ℕ → List Closed → List Closed
numbered zero handles = handles
numbered (suc first) handles = no_blocks ∷ numbered first handles

-- for how many more extents there is room: each of them needs room for its handle, and a number
abbrev pub room_of : ℕ → ℕ → ℕ → ℕ
room_of first len capacity = min (capacity - len) (18_446_744_073_709_551_614 - (first + len))
