-- Extents: what is seen of them, and what each replica of them has (SOSP 2011, sections 4.1 and 4.3).
use Rattle.std.specs.Prelude.{ℕ, min, Bool, true, Option, Some, None, List, [], ◌++◌}
use Rattle.extent_node.specs.Copies.{Block, Copy}
use Rattle.extent_node.specs.Faults.{held}
use Rattle.extent_node.specs.declared.wire.Node.{Node}
use Rattle.extent_node.specs.declared.wire.Node.TheVariants as node

-- one answer for each of the three nodes
pub record Three : Type 0 where
  pub zero : Bool
  pub one : Bool
  pub two : Bool

-- yes, of each node
abbrev pub all_three : Three
all_three = record { zero = true; one = true; two = true }

abbrev pub answer_of : Three → Node → Bool
answer_of a node.Zero = a.zero
answer_of a node.One = a.one
answer_of a node.Two = a.two

-- an extent that takes blocks
pub record Open : Type 0 where
  -- the acknowledged blocks, in their order
  pub blocks : List Block
  -- the block of an append that was not delivered to all three nodes
  pub tried : Option Block
  -- the nodes that took that block
  pub took : Three

-- an extent that takes blocks, and the number of blocks that there is room for in each of its replicas
pub record WithRoom : Type 0 where
  pub extent : Open
  pub room : ℕ

-- the room that each of the three replicas has
abbrev pub least_room : Copy → Copy → Copy → ℕ
least_room zero one two = min zero.room (min one.room two.room)

-- the blocks of the replica of a node: the acknowledged ones, and the block that was tried if the node took it
abbrev pub replica : Open → Bool → List Block
replica e took = e.blocks ++ held took e.tried

-- an extent that takes no more blocks
pub record Closed : Type 0 where
  -- its blocks, in their order
  pub blocks : List Block
  -- the nodes that have a copy of it
  pub kept : Three

-- the blocks of the first replica that is kept
abbrev pub first_kept : Option Copy → Option Copy → Option Copy → List Block
first_kept (Some r) one two = r.blocks
first_kept None (Some r) two = r.blocks
first_kept None None (Some r) = r.blocks
first_kept None None None = []

-- an extent without blocks, of which each node has a copy
abbrev pub no_blocks : Closed
no_blocks = record { blocks = []; kept = all_three }
