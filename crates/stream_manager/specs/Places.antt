-- Blocks at places (SOSP 2011, section 4.1).
use Rattle.std.specs.Prelude.{◌≡◌, ◌≤◌, ◌<◌, ◌⊎◌, ◌+◌, ◌-◌, ℕ, Bool, Option, Some, List, ◌++◌, length}
use Rattle.std.specs.List.{slice_get, flat_map}
use Rattle.std.specs.Option.{option_and_then, is_some}
use Rattle.stamp_values.specs.declared.place.Place.{Place}
use Rattle.extent_node.specs.Copies.{Block}
use Rattle.extent_node.specs.Faults.{held}
use Rattle.extent_seal.specs.Extents.{Open}

-- the block at a place in a list of extents, each of them a list of blocks
abbrev pub block_at : List (List Block) → Place → Option Block
block_at es p = option_and_then (λ blocks. slice_get blocks p.index) (slice_get es p.extent)

-- the first place is not after the second: it is in an earlier extent, or in the same extent at no greater index
abbrev pub IsNotAfter : Place → Place → Type 0
IsNotAfter q p = (q.extent < p.extent) ⊎ ((q.extent ≡ p.extent) × (q.index ≤ p.index))

-- a block is at a place, no block is at a later place, and at most one extent comes after the one that has it
pub record IsLastAt (es : List (List Block)) (p : Place) (b : Block) : Type 0 where
  pub here : block_at es p ≡ Some b
  pub last : (q : Place) (c : Block) → block_at es q ≡ Some c → IsNotAfter q p
  pub near : length es ≤ p.extent + 2

-- the place after the last acknowledged block: a block that is in doubt is there, if it is kept
abbrev pub next_place : List (List Block) → Open → Place
next_place es last = record { extent = length es - 1; index = length last.blocks }

-- whether the block that was in doubt before is in the extents after
abbrev pub is_kept : List (List Block) → Open → List (List Block) → Bool
is_kept es old fs = is_some (block_at fs (next_place es old))

-- the blocks of all extents, in their order
abbrev pub blocks_of : List (List Block) → List Block
blocks_of es = flat_map (λ blocks. blocks) es

-- each block stays at its place
abbrev pub KeepsPlaces : List (List Block) → List (List Block) → Type 0
KeepsPlaces es fs = (p : Place) (b : Block) → block_at es p ≡ Some b → block_at fs p ≡ Some b

-- each extent but the last one has the blocks that it had, and there are as many extents at least
pub record KeepsSealed (es fs : List (List Block)) : Type 0 where
  pub closed : (e : ℕ) → e + 1 < length es → slice_get fs e ≡ slice_get es e
  pub longer : length es ≤ length fs

-- blocks come after those that were there, each block that was there stays at its place, and each sealed extent is as it was
pub record Follows (es : List (List Block)) (added : List Block) (fs : List (List Block)) : Type 0 where
  pub order : blocks_of fs ≡ blocks_of es ++ added
  pub kept : KeepsPlaces es fs
  pub sealed : KeepsSealed es fs

-- blocks may have come after those that were there, each block that was there stays at its place, and each sealed extent is as it was
abbrev pub GoesOn : List (List Block) → List (List Block) → Type 0
GoesOn es fs = (added : List Block) × Follows es added fs

-- a doubt has ended: extent n, which had it, is sealed with its block if that was kept, and without its block if not
pub record Decides (kept : Bool) (n : ℕ) (old : Open) (fs : List (List Block)) : Type 0 where
  pub whole : slice_get fs n ≡ Some (old.blocks ++ held kept old.tried)
  pub later : n + 1 < length fs
