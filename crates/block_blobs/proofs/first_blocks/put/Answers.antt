use Rattle.std.proofs.Common.{map, ap, ◌∙◌}
use Rattle.std.specs.Map.Iter.{deref_pair}
use Rattle.block_blobs.proofs.FirstContents.{read_insert}
use Rattle.block_blobs.proofs.first_blocks.put.Goals as goal

pub returns : goal.returns
returns c = ap (map deref_pair) c.in_ok-insert.ensures.entries ∙ read_insert c.args.first.now.entries c.args.id c.args.content
