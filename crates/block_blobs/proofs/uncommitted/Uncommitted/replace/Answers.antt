use Rattle.std.proofs.Common.{rules}
use Rattle.block_blobs.proofs.EntryLemmas.{keeps_replaced}
use Rattle.block_blobs.proofs.uncommitted.Uncommitted.replace.Goals as goal

pub invariant_of-self : goal.invariant_of-self
invariant_of-self c =
    keeps_replaced c.self.inside.blocks c.replace.new.self c.self.inside.id_len c.args.id.now c.args.content c.replace.result c.replace.ensures
    (search rules) c.requires.piece c.self.invariant
