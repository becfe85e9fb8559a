use Rattle.std.proofs.Common.{◌≡◌, ◌+◌, ◌++◌, drop}
use Rattle.std.specs.Prelude.{is_none}
use Rattle.std.specs.List.{position_or_len}
use Rattle.block_blobs.specs.BlockLists.{found_blocks, found_sources, source_of}
use Rattle.block_blobs.specs.FirstBlocks.{blocks_of}
use Rattle.block_blobs.proofs.blob_row.BlobRow.found.Given as goal

-- the wanted blocks that are left give the rest of the answer
abbrev pub invariant-loop-position : goal.invariant-loop-position
invariant-loop-position l = record {
  same_committed : l.committed ≡ blocks_of l.self.committed;
  same : l.next ≡ l.self.uncommitted;
  from : l.sources.items ++ found_sources l.self (drop l.position l.wanted) ≡ found_sources l.self l.wanted;
  so_far : l.blocks.items ++ found_blocks l.self (drop l.position l.wanted) ≡ found_blocks l.self l.wanted;
  none_missing : position_or_len (λ w. is_none (source_of l.self w)) l.wanted ≡ l.position + position_or_len (λ w. is_none (source_of l.self w)) (drop l.position l.wanted);
}
