use Rattle.std.proofs.Common.{rules}
use Rattle.block_blobs.proofs.ListLemmas.{each_in_one_piece}
use Rattle.block_blobs.proofs.blob_row.BlobRow.keeps_pieces.Goals as goal

pub returns : goal.returns
returns c = each_in_one_piece c.args.self.now c.committed-committed.ensures.blocks (search rules)
