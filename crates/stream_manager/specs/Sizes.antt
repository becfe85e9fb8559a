-- How many bytes extents hold (SOSP 2011, section 4.1).
use Rattle.std.specs.Prelude.{◌≡◌, ◌≤◌, ◌⊎◌, ℕ, List, ◌++◌, length, map, min}
use Rattle.std.specs.List.{All, sum_by}
use Rattle.std.specs.Option.{option_to_list}
use Rattle.extent_node.specs.Copies.{Block}
use Rattle.extent_seal.specs.Extents.{Open, Closed}
use Rattle.stream_manager.specs.Extents.{closed_blocks}

-- the bytes of blocks
abbrev pub bytes_of : List Block → ℕ
bytes_of blocks = sum_by length blocks

-- an extent of two or more blocks holds at most so many bytes
abbrev pub IsWithin : ℕ → List Block → Type 0
IsWithin limit blocks = (length blocks ≤ 1) ⊎ (bytes_of blocks ≤ limit)

-- each sealed extent does, and the last one does with the block that is in doubt
pub record AreSized (limit : ℕ) (sealed : List Closed) (last : Open) : Type 0 where
  pub each : All (IsWithin limit) (map closed_blocks sealed)
  pub whole : IsWithin limit (last.blocks ++ option_to_list last.tried)

-- the number that is kept beside the last extent is its bytes, up to the greatest number
abbrev pub AreCounted : ℕ → Open → Type 0
AreCounted n last = n ≡ min (bytes_of last.blocks) 18_446_744_073_709_551_615
