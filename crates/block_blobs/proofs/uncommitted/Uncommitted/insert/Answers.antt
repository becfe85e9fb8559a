use Rattle.std.proofs.Common.{rules}
use Rattle.block_blobs.proofs.EntryLemmas.{keeps_put}
use Rattle.block_blobs.proofs.uncommitted.Uncommitted.insert.Goals as goal

pub invariant_of-self-2 : goal.invariant_of-self-2
invariant_of-self-2 c =
    keeps_put c.self.inside.blocks c.insert.new.self c.self.inside.id_len _ c.args.id c.args.content c.in_ok-insert.ensures.inserted
    (search rules) (search rules) c.requires.piece c.self.invariant
