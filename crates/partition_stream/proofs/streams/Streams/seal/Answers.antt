use Rattle.std.proofs.Common.{rules, subst, sym}
use Rattle.extent_seal.proofs.HeardLemmas.{heard_then}
use Rattle.stream_manager.specs.Places.{GoesOn, KeepsPlaces}
use Rattle.stream_manager.specs.Streams.{Streamed, laid}
use Rattle.stream_manager.proofs.RunLemmas.{stays_on}
use Rattle.partition_stream.proofs.streams.Streams.seal.Goals as goal

pub returns-in_err-seal_log-clause-blobs_follow : goal.returns-in_err-seal_log-clause-blobs_follow
returns-in_err-seal_log-clause-blobs_follow g c =
    subst (λ (s : Streamed). GoesOn (laid c.args.self.now.blobs) (laid s)) (sym c.seal_log.ensures.blobs) (stays_on (laid c.args.self.now.blobs))

pub returns-in_err-seal_blobs-clause-heard : goal.returns-in_err-seal_blobs-clause-heard
returns-in_err-seal_blobs-clause-heard g c = λ reached.
    heard_then (g.W.Wire.calls c.args.wire.now) (g.W.Wire.calls c.seal_log.new.wire) (g.W.Wire.calls c.seal_blobs.new.wire)
    (g.W.Wire.faults c.args.wire.now) (g.W.Wire.faults c.seal_log.new.wire) (g.W.Wire.faults c.seal_blobs.new.wire)
    (c.seal_log.ensures.heard (λ e. absurd (search rules))) (c.seal_blobs.ensures.heard (search rules))

pub returns-in_err-seal_rows-clause-heard : goal.returns-in_err-seal_rows-clause-heard
returns-in_err-seal_rows-clause-heard g c = λ reached.
    heard_then (g.W.Wire.calls c.args.wire.now) (g.W.Wire.calls c.seal_blobs.new.wire) (g.W.Wire.calls c.seal_rows.new.wire)
    (g.W.Wire.faults c.args.wire.now) (g.W.Wire.faults c.seal_blobs.new.wire) (g.W.Wire.faults c.seal_rows.new.wire)
    (heard_then (g.W.Wire.calls c.args.wire.now) (g.W.Wire.calls c.seal_log.new.wire) (g.W.Wire.calls c.seal_blobs.new.wire)
    (g.W.Wire.faults c.args.wire.now) (g.W.Wire.faults c.seal_log.new.wire) (g.W.Wire.faults c.seal_blobs.new.wire)
    (c.seal_log.ensures.heard (λ e. absurd (search rules))) (c.seal_blobs.ensures.heard (λ e. absurd (search rules)))) (c.seal_rows.ensures.heard (search rules))

pub returns-clause-heard : goal.returns-clause-heard
returns-clause-heard g c = λ reached.
    heard_then (g.W.Wire.calls c.args.wire.now) (g.W.Wire.calls c.seal_blobs.new.wire) (g.W.Wire.calls c.seal_rows.new.wire)
    (g.W.Wire.faults c.args.wire.now) (g.W.Wire.faults c.seal_blobs.new.wire) (g.W.Wire.faults c.seal_rows.new.wire)
    (heard_then (g.W.Wire.calls c.args.wire.now) (g.W.Wire.calls c.seal_log.new.wire) (g.W.Wire.calls c.seal_blobs.new.wire)
    (g.W.Wire.faults c.args.wire.now) (g.W.Wire.faults c.seal_log.new.wire) (g.W.Wire.faults c.seal_blobs.new.wire)
    (c.seal_log.ensures.heard (λ e. absurd (search rules))) (c.seal_blobs.ensures.heard (λ e. absurd (search rules)))) (c.seal_rows.ensures.heard (λ e. absurd (search rules)))

pub returns-in_err-seal_rows-clause-kept : goal.returns-in_err-seal_rows-clause-kept
returns-in_err-seal_rows-clause-kept g c =
    subst (λ (s : Streamed). KeepsPlaces (laid s) (laid c.seal_rows.new.self.blobs)) c.seal_log.ensures.blobs
    (subst (λ (s : Streamed). KeepsPlaces (laid c.seal_log.new.self.blobs) (laid s)) (sym c.seal_rows.ensures.blobs) c.seal_blobs.ensures.kept)

pub returns-clause-kept : goal.returns-clause-kept
returns-clause-kept g c =
    subst (λ (s : Streamed). KeepsPlaces (laid s) (laid c.seal_rows.new.self.blobs)) c.seal_log.ensures.blobs
    (subst (λ (s : Streamed). KeepsPlaces (laid c.seal_log.new.self.blobs) (laid s)) (sym c.seal_rows.ensures.blobs) c.seal_blobs.ensures.kept)
