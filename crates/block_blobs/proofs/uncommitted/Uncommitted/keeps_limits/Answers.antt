use Rattle.std.proofs.Common.{rules}
use Rattle.block_blobs.proofs.EntryLemmas.{has_their_length}
use Rattle.block_blobs.proofs.uncommitted.Uncommitted.keeps_limits.Goals as goal

pub returns-clause-lengths : goal.returns-clause-lengths
returns-clause-lengths c = has_their_length c.self.inside.id_len c.args.self.now (search rules)
