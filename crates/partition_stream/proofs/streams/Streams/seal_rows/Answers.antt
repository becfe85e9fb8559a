use Rattle.partition_stream.proofs.KeptLemmas.{kept_rows_sealed}
use Rattle.partition_stream.proofs.streams.Streams.seal_rows.Goals as goal

pub invariant_of-self : goal.invariant_of-self
invariant_of-self g c =
    kept_rows_sealed c.seal.result (record { log = c.self.inside.log; blobs = c.self.inside.blobs; rows = c.self.inside.rows })
    c.seal.new.self c.self.invariant c.seal.ensures.sealed
