use Rattle.std.proofs.Common.{refl}
use Rattle.stored_rows.proofs.CountLemmas.{grows_twice}
use Rattle.stored_slot.specs.Served.{Faulted}
use Rattle.stamp_model.specs.SeenContainers.{routed}
use Rattle.partition_map.specs.Spans.{slot_of}
use Rattle.core_run.specs.Cores.{CoreState}
use Rattle.stamp_core.specs.CoreSteps.{told_answer, has_faults}
use Rattle.stamp_core.proofs.AuditLemmas.{core_audits, served_too}
use Rattle.stamp_core.proofs.FaultLemmas.{never_after, never_before, told_after, told_before}
use Rattle.stamp_core.proofs.RangeLemmas.{low_slot}
use Rattle.stamp_core.proofs.ServeLemmas.{serve_at_core, steady, told_now}
use Rattle.stamp_core.proofs.cores.Core.answer_by.Goals as goal

pub returns-clause-taken : goal.returns-clause-taken
returns-clause-taken g c =
    let old = g.W.Wire.faults c.args.wire.now in
    let mid = g.W.Wire.faults c.serve_one-answer.new.wire in
    let new = g.W.Wire.faults c.tell_now-reply.new.wire in
    let own : CoreState = record { slots = c.self.inside.slots.items; points = c.self.inside.spans; tickets = c.self.inside.tickets } in
    let served = served_too own.slots own.points c.args.call.now.request.now c.args.call.now.moment (Faulted old mid) c.serve_one-answer.result.answer c.serve_one-answer.result.entry c.serve_one-answer.new.slots.items c.serve_one-answer.ensures.audited in
    serve_at_core (Faulted old mid) (Faulted mid new) (has_faults old new) (told_before old mid new c.tell_now-reply.ensures.grown) (told_after old mid new c.serve_one-answer.ensures.grown)
    own c.args.self.now c.self.view_is c.self.invariant
    c.args.call.now.request.now c.args.call.now.moment c.serve_one-answer.result.answer c.serve_one-answer.new.slots.items (told_answer c.tell_now-reply.result) own.tickets served
    (told_now (Faulted mid new) c.serve_one-answer.result.answer own.tickets c.tell_now-reply.result c.tell_now-reply.ensures.told)

pub returns-clause-steady : goal.returns-clause-steady
returns-clause-steady g c = λ same.
    let old = g.W.Wire.faults c.args.wire.now in
    let mid = g.W.Wire.faults c.serve_one-answer.new.wire in
    let new = g.W.Wire.faults c.tell_now-reply.new.wire in
    let own : CoreState = record { slots = c.self.inside.slots.items; points = c.self.inside.spans; tickets = c.self.inside.tickets } in
    let served = served_too own.slots own.points c.args.call.now.request.now c.args.call.now.moment (Faulted old mid) c.serve_one-answer.result.answer c.serve_one-answer.result.entry c.serve_one-answer.new.slots.items c.serve_one-answer.ensures.audited in
    steady (Faulted old mid) (Faulted mid new) (never_before old mid new c.tell_now-reply.ensures.grown same) (never_after old mid new c.serve_one-answer.ensures.grown same)
    own c.args.self.now c.self.view_is c.self.invariant
    c.args.call.now.request.now c.args.call.now.moment c.serve_one-answer.result.answer c.serve_one-answer.new.slots.items served
    (low_slot own.slots own.points c.self.invariant (routed c.args.call.now.request.now) (slot_of own.points (routed c.args.call.now.request.now)) refl) c.tell_now-reply.result c.tell_now-reply.ensures.told

pub returns-clause-audited : goal.returns-clause-audited
returns-clause-audited g c =
    let own : CoreState = record { slots = c.self.inside.slots.items; points = c.self.inside.spans; tickets = c.self.inside.tickets } in
    core_audits own c.args.self.now c.self.view_is c.args.call.now.request.now c.args.call.now.moment (Faulted (g.W.Wire.faults c.args.wire.now) (g.W.Wire.faults c.serve_one-answer.new.wire)) c.serve_one-answer.result.answer c.serve_one-answer.new.slots.items
    c.tell_now-reply.result c.serve_one-answer.result.entry c.entry_told-entry.result c.serve_one-answer.ensures.audited c.entry_told-entry.ensures

pub returns-clause-grown : goal.returns-clause-grown
returns-clause-grown g c =
    grows_twice (g.W.Wire.faults c.args.wire.now) (g.W.Wire.faults c.serve_one-answer.new.wire) (g.W.Wire.faults c.tell_now-reply.new.wire) c.serve_one-answer.ensures.grown c.tell_now-reply.ensures.grown
