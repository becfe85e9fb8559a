use Rattle.std.proofs.Common.{rules, refl}
use Rattle.block_blobs.proofs.ListLemmas.{named_done, named_more}
use Rattle.block_blobs.proofs.commits.named.Goals as goal

pub loop-entry-preserved : goal.loop-entry-preserved
loop-entry-preserved c =
    named_more _ c.loop-entry.blocks.items c.name.new.blocks.items c.loop-entry.left.items c.pop.new.self.items c.in-Some.entry c.len.result c.in-Some.entry.id
    (search rules) refl (search rules) c.name.ensures c.loop-entry.invariant

pub returns : goal.returns
returns c = named_done _ c.loop-entry.blocks.items c.loop-entry.left.items (search rules) c.loop-entry.invariant
