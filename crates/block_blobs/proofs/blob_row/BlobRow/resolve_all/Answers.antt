use Rattle.std.proofs.Common.{rules, ◌≡◌, length}
use Rattle.std.proofs.Math.ListN.{replicate}
use Rattle.stamp_values.specs.declared.block.BlockSource.TheVariants as source
use Rattle.block_blobs.proofs.WholeLists.{all_are_found}
use Rattle.block_blobs.proofs.blob_row.BlobRow.resolve_all.Goals as goal

pub returns-clause-value : goal.returns-clause-value
returns-clause-value c =
    let sources : c.new.result ≡ replicate (length c.args.wanted.now) source.Uncommitted = search rules in
    all_are_found c.args.self.now c.args.wanted.now c.requires (record { sources = c.new.result; blocks = c.in_ok-blocks.blocks }) c.in-Some.len sources (search rules) (search rules)
