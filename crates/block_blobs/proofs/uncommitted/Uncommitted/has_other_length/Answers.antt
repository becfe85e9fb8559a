use Rattle.std.proofs.Common.{rules}
use Rattle.block_blobs.proofs.EntryLemmas.{other_length}
use Rattle.block_blobs.proofs.uncommitted.Uncommitted.has_other_length.Goals as goal

pub returns-then-len-gt0 : goal.returns-then-len-gt0
returns-then-len-gt0 c =
    rw c.as_slice.ensures.value
    (other_length c.args.self.now c.self.inside.blocks c.args.id.now c.self.inside.id_len c.self.view_is c.self.invariant.2 (search rules))
