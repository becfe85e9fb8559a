use Rattle.std.proofs.Common.{Err, ap, subst, sym}
use Rattle.stream_manager.specs.Repairs.{CountsRepair}
use Rattle.stream_manager.proofs.RepairLemmas.{counts_err, counts_ok, same_at, same_blocks_at}
use Rattle.stream_manager.proofs.repair.repair_at.Goals as goal

pub returns-in-Ok-clause-blocks : goal.returns-in-Ok-clause-blocks
returns-in-Ok-clause-blocks g c =
    same_blocks_at c.args.extent c.args.handles.now.items c.index_mut.result.now c.repair.new.self c.index_mut.ensures.value (ap (λ x. x.blocks) c.in-Ok.ensures.repaired)

pub returns-in-Ok-clause-counted : goal.returns-in-Ok-clause-counted
returns-in-Ok-clause-counted g c = λ e there.
    counts_ok c.args.node c.index_mut.result.now e _ _ _ _ (same_at c.args.handles.now.items c.args.extent c.index_mut.result.now e c.index_mut.ensures.value there)
    (λ has. record { uncalled = ap g.W.Wire.calls (c.in-Ok.ensures.unused has); unfailed = ap g.W.Wire.faults (c.in-Ok.ensures.unused has) })
    c.in-Ok.ensures.copied

pub returns-in-Err-clause-counted : goal.returns-in-Err-clause-counted
returns-in-Err-clause-counted g c = λ e there.
    subst (λ f. CountsRepair (Err f) c.args.node e (g.W.Wire.calls c.args.wire.now) (g.W.Wire.calls c.repair.new.wire) (g.W.Wire.faults c.args.wire.now) (g.W.Wire.faults c.repair.new.wire)) (sym c.from.ensures)
    (counts_err c.in-Err.fault c.args.node c.index_mut.result.now e _ _ _ _ (same_at c.args.handles.now.items c.args.extent c.index_mut.result.now e c.index_mut.ensures.value there)
    c.in-Err.ensures.lacking c.in-Err.ensures.unreachable
    (λ full. record { uncalled = ap g.W.Wire.calls (c.in-Err.ensures.unheard full); unfailed = ap g.W.Wire.faults (c.in-Err.ensures.unheard full) }))
