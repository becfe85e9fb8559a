-- Extents whose blocks are given up: each keeps its number, and no other extent changes (SOSP 2011, section 4.1).
use Rattle.std.specs.Prelude.{◌≡◌, ◌≤◌, ◌<◌, ℕ, Bool, List, [], ◌++◌, drop, filter, length, map, nat_lt, slice_set, take}
use Rattle.extent_node.specs.Copies.{Block}
use Rattle.extent_seal.specs.Extents.{Closed, no_blocks}
use Rattle.stream_manager.specs.Streams.{Streamed, laid}

-- the sealed extents, one of them without its blocks
abbrev pub without : ℕ → List Closed → List Closed
without e sealed = slice_set sealed e no_blocks

-- the sealed extents, the first of them without their blocks
abbrev pub without_front : ℕ → List Closed → List Closed
without_front n sealed = map (λ (c : Closed). no_blocks) (take n sealed) ++ drop n sealed

-- whether the extent has a block
abbrev pub has_blocks : Closed → Bool
has_blocks c = nat_lt 0 (length c.blocks)

-- the extents that have a block
abbrev pub with_blocks : List Closed → List Closed
with_blocks sealed = filter has_blocks sealed

-- the blocks of each extent, the first extents without their blocks
abbrev pub emptied : ℕ → List (List Block) → List (List Block)
emptied n es = map (λ (blocks : List Block). []) (take n es) ++ drop n es

-- this sealed extent has no block any more, and each other extent is as it was
pub record GivesUp (e : ℕ) (s t : Streamed) : Type 0 where
  pub there : e < length s.sealed
  pub sealed : t.sealed ≡ without e s.sealed
  pub last : t.last ≡ s.last
  pub limit : t.limit ≡ s.limit

-- the first sealed extents have no block any more, and each extent after them is as it was
pub record GivesUpFront (n : ℕ) (s t : Streamed) : Type 0 where
  pub there : n ≤ length s.sealed
  pub sealed : t.sealed ≡ without_front n s.sealed
  pub blocks : laid t ≡ emptied n (laid s)
  pub last : t.last ≡ s.last
  pub limit : t.limit ≡ s.limit
