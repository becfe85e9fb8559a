use Rattle.std.proofs.Common.{subst}
use Rattle.stream_manager.specs.Places.{KeepsPlaces}
use Rattle.stream_manager.specs.Streams.{laid}
use Rattle.partition_stream.specs.Streams.{ThreeStreams}
use Rattle.partition_stream.proofs.KeptLemmas.{kept_blobs}
use Rattle.partition_stream.proofs.streams.Streams.put_row_again.Goals as goal

pub invariant_of-self : goal.invariant_of-self
invariant_of-self g c =
    kept_blobs (record { log = c.self.inside.log; blobs = c.self.inside.blobs; rows = c.self.inside.rows })
    c.put_stored_again.new.blobs c.self.invariant c.put_stored_again.ensures.follows.1.kept

pub invariant_of-self-2 : goal.invariant_of-self-2
invariant_of-self-2 g c =
    kept_blobs (record { log = c.self.inside.log; blobs = c.self.inside.blobs; rows = c.self.inside.rows })
    c.put_stored_again.new.blobs c.self.invariant c.put_stored_again.ensures.follows.1.kept

pub returns-in_err-moved-clause-kept : goal.returns-in_err-moved-clause-kept
returns-in_err-moved-clause-kept g c =
    subst (λ (s : ThreeStreams). KeepsPlaces (laid s.blobs) (laid c.put_stored_again.new.blobs)) c.self.view_is c.put_stored_again.ensures.follows.1.kept

pub returns-clause-kept : goal.returns-clause-kept
returns-clause-kept g c =
    subst (λ (s : ThreeStreams). KeepsPlaces (laid s.blobs) (laid c.put_stored_again.new.blobs)) c.self.view_is c.put_stored_again.ensures.follows.1.kept
