use Rattle.std.proofs.Common.{◌∙◌, ap}
use Rattle.std.specs.Option.{option_copied}
use Rattle.block_blobs.proofs.FirstContents.{read_lookup}
use Rattle.block_blobs.proofs.first_blocks.first_content.Goals as goal

pub returns : goal.returns
returns c = ap option_copied (c.copied.ensures ∙ c.get.ensures.value) ∙ read_lookup c.args.first.now.entries c.args.id.now
