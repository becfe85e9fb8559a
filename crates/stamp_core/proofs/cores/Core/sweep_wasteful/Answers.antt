use Rattle.stored_slot.specs.Served.{Faulted}
use Rattle.core_run.specs.Cores.{CoreState}
use Rattle.stamp_core.specs.CoreSteps.{has_faults}
use Rattle.stamp_core.proofs.SweepLemmas.{sweeps_calm, sweeps_taken}
use Rattle.stamp_core.proofs.FaultLemmas.{told}
use Rattle.stamp_core.proofs.cores.Core.sweep_wasteful.Goals as goal

pub returns-clause-calm : goal.returns-clause-calm
returns-clause-calm g c =
    let own : CoreState = record { slots = c.self.inside.slots.items; points = c.self.inside.spans; tickets = c.self.inside.tickets } in
    sweeps_calm own c.args.self.now c.self.view_is (Faulted (g.W.Wire.faults c.args.wire.now) (g.W.Wire.faults c.sweep_at.new.wire)) c.sweep_at.new.slots.items c.sweep_at.result c.sweep_at.ensures.swept

pub returns-clause-taken : goal.returns-clause-taken
returns-clause-taken g c =
    let old = g.W.Wire.faults c.args.wire.now in
    let new = g.W.Wire.faults c.sweep_at.new.wire in
    let own : CoreState = record { slots = c.self.inside.slots.items; points = c.self.inside.spans; tickets = c.self.inside.tickets } in
    sweeps_taken own c.args.self.now c.self.view_is (Faulted old new) c.sweep_at.new.slots.items (has_faults old new) (told old new) c.sweep_at.result c.sweep_at.ensures.swept
