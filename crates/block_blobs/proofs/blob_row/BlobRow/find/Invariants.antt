use Rattle.std.proofs.Common.{◌≡◌, drop}
use Rattle.std.specs.Prelude.{find, is_some}
use Rattle.stamp_types.specs.World.{content_from}
use Rattle.block_blobs.specs.BlockLists.{source_of}
use Rattle.block_blobs.specs.FirstBlocks.{blocks_of}
use Rattle.block_blobs.proofs.blob_row.BlobRow.find.Given as goal

-- the sources that are left give the answer, and the blocks of the blob are looked up
abbrev pub invariant-loop-source : goal.invariant-loop-source
invariant-loop-source l = record {
  same_committed : l.committed ≡ blocks_of l.self.committed;
  same : l.next ≡ l.self.uncommitted;
  found : find (λ s. is_some (content_from s l.wanted.id l.self)) (drop l.source-index l.sources) ≡ source_of l.self l.wanted;
}
