use Rattle.std.proofs.Common.{subst}
use Rattle.stream_manager.specs.Places.{GoesOn}
use Rattle.stream_manager.specs.Streams.{laid}
use Rattle.stream_manager.proofs.RunLemmas.{seal_goes_on}
use Rattle.partition_stream.specs.Streams.{ThreeStreams}
use Rattle.partition_stream.proofs.KeptLemmas.{kept_blobs, blobs_sealed}
use Rattle.partition_stream.proofs.streams.Streams.seal_blobs.Goals as goal

pub invariant_of-self : goal.invariant_of-self
invariant_of-self g c =
    kept_blobs (record { log = c.self.inside.log; blobs = c.self.inside.blobs; rows = c.self.inside.rows })
    c.seal.new.self c.self.invariant (blobs_sealed c.seal.result c.self.inside.blobs c.seal.new.self c.seal.ensures.sealed)

pub returns-clause-follows : goal.returns-clause-follows
returns-clause-follows g c =
    subst (λ (s : ThreeStreams). GoesOn (laid s.blobs) (laid c.seal.new.self)) c.self.view_is
    (seal_goes_on c.seal.result (laid c.self.inside.blobs) (laid c.seal.new.self) c.self.inside.blobs.last c.seal.new.self.last c.seal.ensures.sealed)
