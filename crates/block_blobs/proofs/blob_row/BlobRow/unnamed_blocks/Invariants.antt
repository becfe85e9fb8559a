use Rattle.std.proofs.Common.{◌≡◌, ◌+◌, ◌++◌, drop}
use Rattle.std.specs.Prelude.{is_none}
use Rattle.std.specs.List.{position_or_len}
use Rattle.stamp_types.specs.World.{content_from}
use Rattle.block_blobs.specs.BlockLists.{unnamed_blocks}
use Rattle.block_blobs.specs.FirstBlocks.{blocks_of}
use Rattle.block_blobs.proofs.blob_row.BlobRow.unnamed_blocks.Given as goal

-- the entries that are left give the rest of the blocks
abbrev pub invariant-loop-i : goal.invariant-loop-i
invariant-loop-i l = record {
  same_committed : l.committed ≡ blocks_of l.self.committed;
  same : l.next ≡ l.self.uncommitted;
  so_far : l.blocks.items ++ unnamed_blocks l.self (drop l.i l.entries) ≡ unnamed_blocks l.self l.entries;
  none_absent : position_or_len (λ t. is_none (content_from t.from t.id l.self)) l.entries ≡ l.i + position_or_len (λ t. is_none (content_from t.from t.id l.self)) (drop l.i l.entries);
}
