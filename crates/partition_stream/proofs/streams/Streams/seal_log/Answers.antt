use Rattle.std.proofs.Common.{subst}
use Rattle.stream_manager.specs.Places.{GoesOn}
use Rattle.stream_manager.specs.Streams.{laid}
use Rattle.stream_manager.proofs.RunLemmas.{seal_goes_on}
use Rattle.partition_stream.specs.Outcomes.{IsLogSealed}
use Rattle.partition_stream.specs.Streams.{ThreeStreams}
use Rattle.partition_stream.proofs.KeptLemmas.{kept_log_sealed}
use Rattle.partition_stream.proofs.LogLemmas.{is_log_sealed}
use Rattle.partition_stream.proofs.streams.Streams.seal_log.Goals as goal

pub invariant_of-self : goal.invariant_of-self
invariant_of-self g c =
    kept_log_sealed c.seal.result (record { log = c.self.inside.log; blobs = c.self.inside.blobs; rows = c.self.inside.rows })
    c.seal.new.self c.self.invariant c.seal.ensures.sealed

pub returns-clause-log : goal.returns-clause-log
returns-clause-log g c =
    let old : ThreeStreams = record { log = c.self.inside.log; blobs = c.self.inside.blobs; rows = c.self.inside.rows } in
    let new : ThreeStreams = record { log = c.seal.new.self; blobs = c.self.inside.blobs; rows = c.self.inside.rows } in
    subst (λ s. IsLogSealed c.seal.result s new) c.self.view_is (is_log_sealed c.seal.result old new c.seal.ensures.sealed)

pub returns-clause-follows : goal.returns-clause-follows
returns-clause-follows g c =
    subst (λ (s : ThreeStreams). GoesOn (laid s.log) (laid c.seal.new.self)) c.self.view_is
    (seal_goes_on c.seal.result (laid c.self.inside.log) (laid c.seal.new.self) c.self.inside.log.last c.seal.new.self.last c.seal.ensures.sealed)
