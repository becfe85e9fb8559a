-- Faults of blocks and of block lists ("Put Block", "Put Block List" of the Blob service REST reference, 2012-02-12).
use Rattle.std.specs.Prelude.{◌≡◌, ⊤, Option, Some}
use Rattle.block_blobs.specs.declared.block_fault.BlockFault.{BlockFault}
use Rattle.block_blobs.specs.declared.block_fault.BlockFault.TheVariants.{NoMemory}

-- the fault is the fault that exists, or memory ran out
abbrev pub IsFault : Option BlockFault → BlockFault → Type 0
IsFault exists NoMemory = ⊤
IsFault exists fault = exists ≡ Some fault
