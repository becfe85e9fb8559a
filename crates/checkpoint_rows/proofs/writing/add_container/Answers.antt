use Rattle.std.proofs.Common.{rules}
use Rattle.extent_seal.proofs.HeardLemmas.{heard_then}
use Rattle.checkpoint_rows.proofs.WriteLemmas.{both_rows}
use Rattle.checkpoint_rows.proofs.writing.add_container.Goals as goal

pub returns-clause-written : goal.returns-clause-written
returns-clause-written g c =
    both_rows c.args.new.now c.add_own.new.new c.add_blobs.new.new c.args.key.now c.args.found.now c.all_blobs-blobs.result c.all_blobs-blobs.ensures
    c.in_ok-add_own.ensures.written c.in_ok-add_blobs.ensures.written

pub returns-in_err-add_blobs-clause-heard : goal.returns-in_err-add_blobs-clause-heard
returns-in_err-add_blobs-clause-heard g c = λ reached.
    heard_then (g.W.Wire.calls c.args.wire.now) (g.W.Wire.calls c.add_own.new.wire) (g.W.Wire.calls c.add_blobs.new.wire)
    (g.W.Wire.faults c.args.wire.now) (g.W.Wire.faults c.add_own.new.wire) (g.W.Wire.faults c.add_blobs.new.wire)
    (c.add_own.ensures.heard (λ e. absurd (search rules))) (c.add_blobs.ensures.heard (search rules))

pub returns-clause-heard : goal.returns-clause-heard
returns-clause-heard g c = λ reached.
    heard_then (g.W.Wire.calls c.args.wire.now) (g.W.Wire.calls c.add_own.new.wire) (g.W.Wire.calls c.add_blobs.new.wire)
    (g.W.Wire.faults c.args.wire.now) (g.W.Wire.faults c.add_own.new.wire) (g.W.Wire.faults c.add_blobs.new.wire)
    (c.add_own.ensures.heard (λ e. absurd (search rules))) (c.add_blobs.ensures.heard (λ e. absurd (search rules)))
