use Rattle.std.proofs.Common.{subst}
use Rattle.stream_manager.specs.Places.{GoesOn}
use Rattle.stream_manager.specs.Streams.{laid}
use Rattle.stream_manager.proofs.RunLemmas.{settle_goes_on}
use Rattle.partition_stream.specs.Outcomes.{IsKeptAt, IsLogSettled}
use Rattle.partition_stream.specs.Streams.{ThreeStreams}
use Rattle.partition_stream.proofs.KeptLemmas.{kept_settled, is_doubt_record}
use Rattle.partition_stream.proofs.LogLemmas.{is_kept_at, is_log_settled}
use Rattle.partition_stream.proofs.streams.Streams.settle.Goals as goal

pub invariant_of-self : goal.invariant_of-self
invariant_of-self g c =
    kept_settled c.settle.result (record { log = c.self.inside.log; blobs = c.self.inside.blobs; rows = c.self.inside.rows })
    c.settle.new.self c.self.invariant c.settle.ensures.settled

pub returns-clause-settled : goal.returns-clause-settled
returns-clause-settled g c =
    let old : ThreeStreams = record { log = c.self.inside.log; blobs = c.self.inside.blobs; rows = c.self.inside.rows } in
    let new : ThreeStreams = record { log = c.settle.new.self; blobs = c.self.inside.blobs; rows = c.self.inside.rows } in
    let doubt = is_doubt_record (laid c.self.inside.blobs) c.self.inside.log.last.tried c.self.invariant.doubt in
    subst (λ s. IsLogSettled c.settle.result s new) c.self.view_is (is_log_settled c.settle.result old new doubt c.settle.ensures.settled)

pub returns-clause-at : goal.returns-clause-at
returns-clause-at g c =
    subst (λ s. IsKeptAt c.settle.result s.log c.settle.new.self) c.self.view_is
    (is_kept_at c.settle.result c.self.inside.log c.settle.new.self c.settle.ensures.settled)

pub returns-clause-follows : goal.returns-clause-follows
returns-clause-follows g c =
    subst (λ (s : ThreeStreams). GoesOn (laid s.log) (laid c.settle.new.self)) c.self.view_is
    (settle_goes_on c.settle.result (laid c.self.inside.log) (laid c.settle.new.self) c.self.inside.log.last c.settle.new.self.last c.settle.ensures.settled)
