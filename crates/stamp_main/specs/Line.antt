-- Lines of an operator that come byte by byte (this product's own choice).
use Rattle.std.specs.Prelude.{ℕ, List, [], ◌∷◌, ◌++◌, if◌then◌else◌, nat_lt, length, Option, Some, None}

-- a line with one more byte, or `None` if it then has more than 4,096 bytes
abbrev pub with_byte : Option (List ℕ) → ℕ → Option (List ℕ)
with_byte None byte = None
with_byte (Some bytes) byte = if nat_lt (length bytes) 4096 then Some (bytes ++ byte ∷ []) else None
