-- What judging blocks gives ("Put Block", "Put Block List" of the Blob service REST reference, 2012-02-12).
use Rattle.std.specs.Prelude.{[], Option, Some, None}
use Rattle.stamp_types.specs.declared.refusal.Refusal.{Refusal}
use Rattle.block_blobs.specs.FoundBlocks.{nothing_found}
use Rattle.block_blobs.specs.declared.resolved.Resolved.{Resolved}
use Rattle.range_rows.specs.declared.block_rules.Blocks.{Blocks}
use Rattle.range_rows.specs.declared.block_rules.Blocks.TheVariants as blocks

-- the request is refused, or else this was found of its blocks
abbrev pub blocks_by : Option Refusal → Resolved → Blocks
blocks_by (Some r) found = blocks.Refused r
blocks_by None found = blocks.Found found

-- what is found if no block is wanted
abbrev pub nothing_resolved : Resolved
nothing_resolved = record { sources = []; blocks = nothing_found }
