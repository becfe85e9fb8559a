use Rattle.partition_stream.proofs.KeptLemmas.{kept_blobs}
use Rattle.partition_stream.proofs.streams.Streams.put_data.Goals as goal

pub invariant_of-self : goal.invariant_of-self
invariant_of-self g c =
    kept_blobs (record { log = c.self.inside.log; blobs = c.self.inside.blobs; rows = c.self.inside.rows })
    c.put_content.new.blobs c.self.invariant c.put_content.ensures.kept
