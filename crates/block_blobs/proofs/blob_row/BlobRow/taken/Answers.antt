use Rattle.std.proofs.Common.{rules, ◌≡◌, sym, ap, ◌∙◌}
use Rattle.stamp_types.specs.Changes.{blocks_len}
use Rattle.stamp_types.specs.World.{taken_blocks}
use Rattle.block_blobs.proofs.CommitLemmas.{named_are_taken, taken_are_blocks}
use Rattle.block_blobs.proofs.blob_row.BlobRow.taken.Goals as goal

pub returns-in-Blocks : goal.returns-in-Blocks
returns-in-Blocks c =
    let b = c.args.self.now in
    let ts = c.args.entries.items in
    let taken : c.named.result.items ≡ taken_blocks b ts =
    named_are_taken b ts c.requires.fits c.args.found.content c.requires.found.0 c.in-Blocks.blocks c.named.result.items (search rules) (search rules) in
    record {
      value = taken;
      len = c.requires.found.1 ∙ ap blocks_len (sym taken);
      valid = taken_are_blocks b ts c.requires.fits c.keeps_pieces.ensures c.named.result.items taken;
    }
