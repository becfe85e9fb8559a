use Rattle.block_blobs.proofs.EntryLemmas.{keeps_empty}
use Rattle.block_blobs.proofs.uncommitted.Uncommitted.new.Goals as goal

pub invariant_of-result : goal.invariant_of-result
invariant_of-result c = keeps_empty c.new.result c.new.ensures
