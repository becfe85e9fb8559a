use Rattle.std.proofs.Common.{rules, sym}
use Rattle.block_blobs.proofs.ListLemmas.{named_at_none, set_named}
use Rattle.block_blobs.proofs.commits.name.Goals as goal

pub returns-in-Some : goal.returns-in-Some
returns-in-Some c = set_named c.args.blocks.now.items c.args.place c.args.id c.in-Some.block.now c.in-Some.ensures.value

pub returns-in_default : goal.returns-in_default
returns-in_default c = sym (named_at_none c.args.blocks.now.items c.args.place c.args.id (search rules))
