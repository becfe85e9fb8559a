use Rattle.std.proofs.Common.{subst, sym}
use Rattle.core_run.specs.declared.step.Step.{Step}
use Rattle.core_run.specs.Cores.{StandsFor}
use Rattle.core_run.specs.Machine.{Takes}
use Rattle.core_run.specs.States.{State}
use Rattle.stamp_core.specs.CoreSteps.{has_faults}
use Rattle.stamp_core.proofs.cores.Core.step.Goals as goal

pub returns-in-Serve-clause-taken : goal.returns-in-Serve-clause-taken
returns-in-Serve-clause-taken g c = λ s stands.
    subst (λ (x : Step). (s' : State) × (Takes s x (has_faults (g.W.Wire.faults c.args.wire.now) (g.W.Wire.faults c.serve_now.new.wire)) c.serve_now.result s' × StandsFor c.serve_now.new.self s')) (sym c.in-Serve.is) (c.serve_now.ensures.taken s stands)

pub returns-in-Fetch-clause-taken : goal.returns-in-Fetch-clause-taken
returns-in-Fetch-clause-taken g c = λ s stands.
    subst (λ (x : Step). (s' : State) × (Takes s x (has_faults (g.W.Wire.faults c.args.wire.now) (g.W.Wire.faults c.fetch.new.wire)) c.fetch.result s' × StandsFor c.fetch.new.self s')) (sym c.in-Fetch.is) (c.fetch.ensures.taken s stands)

pub returns-in-Split-clause-taken : goal.returns-in-Split-clause-taken
returns-in-Split-clause-taken g c = λ s stands.
    subst (λ (x : Step). (s' : State) × (Takes s x (has_faults (g.W.Wire.faults c.args.wire.now) (g.W.Wire.faults c.split.new.wire)) c.split.result s' × StandsFor c.split.new.self s')) (sym c.in-Split.is) (c.split.ensures.taken s stands)

pub returns-in-Settle-clause-taken : goal.returns-in-Settle-clause-taken
returns-in-Settle-clause-taken g c = λ s stands.
    subst (λ (x : Step). (s' : State) × (Takes s x (has_faults (g.W.Wire.faults c.args.wire.now) (g.W.Wire.faults c.tend_now.new.wire)) c.tend_now.result s' × StandsFor c.tend_now.new.self s')) (sym c.in-Settle.is) (c.tend_now.ensures.taken s stands)

pub returns-in-Seal-clause-taken : goal.returns-in-Seal-clause-taken
returns-in-Seal-clause-taken g c = λ s stands.
    subst (λ (x : Step). (s' : State) × (Takes s x (has_faults (g.W.Wire.faults c.args.wire.now) (g.W.Wire.faults c.tend_now-in-Seal.new.wire)) c.tend_now-in-Seal.result s' × StandsFor c.tend_now-in-Seal.new.self s')) (sym c.in-Seal.is) (c.tend_now-in-Seal.ensures.taken s stands)

pub returns-in-Load-clause-taken : goal.returns-in-Load-clause-taken
returns-in-Load-clause-taken g c = λ s stands.
    subst (λ (x : Step). (s' : State) × (Takes s x (has_faults (g.W.Wire.faults c.args.wire.now) (g.W.Wire.faults c.tend_now-in-Load.new.wire)) c.tend_now-in-Load.result s' × StandsFor c.tend_now-in-Load.new.self s')) (sym c.in-Load.is) (c.tend_now-in-Load.ensures.taken s stands)

pub returns-in-Checkpoint-clause-taken : goal.returns-in-Checkpoint-clause-taken
returns-in-Checkpoint-clause-taken g c = λ s stands.
    subst (λ (x : Step). (s' : State) × (Takes s x (has_faults (g.W.Wire.faults c.args.wire.now) (g.W.Wire.faults c.tend_now-in-Checkpoint.new.wire)) c.tend_now-in-Checkpoint.result s' × StandsFor c.tend_now-in-Checkpoint.new.self s')) (sym c.in-Checkpoint.is) (c.tend_now-in-Checkpoint.ensures.taken s stands)

pub returns-in-Compact-clause-taken : goal.returns-in-Compact-clause-taken
returns-in-Compact-clause-taken g c = λ s stands.
    subst (λ (x : Step). (s' : State) × (Takes s x (has_faults (g.W.Wire.faults c.args.wire.now) (g.W.Wire.faults c.tend_now-in-Compact.new.wire)) c.tend_now-in-Compact.result s' × StandsFor c.tend_now-in-Compact.new.self s')) (sym c.in-Compact.is) (c.tend_now-in-Compact.ensures.taken s stands)

pub returns-in-Unload-clause-taken : goal.returns-in-Unload-clause-taken
returns-in-Unload-clause-taken g c = λ s stands.
    subst (λ (x : Step). (s' : State) × (Takes s x (has_faults (g.W.Wire.faults c.args.wire.now) (g.W.Wire.faults c.tend_now-in-Unload.new.wire)) c.tend_now-in-Unload.result s' × StandsFor c.tend_now-in-Unload.new.self s')) (sym c.in-Unload.is) (c.tend_now-in-Unload.ensures.taken s stands)

pub returns-in-Move-clause-taken : goal.returns-in-Move-clause-taken
returns-in-Move-clause-taken g c = λ s stands.
    subst (λ (x : Step). (s' : State) × (Takes s x (has_faults (g.W.Wire.faults c.args.wire.now) (g.W.Wire.faults c.tend_now-in-Move.new.wire)) c.tend_now-in-Move.result s' × StandsFor c.tend_now-in-Move.new.self s')) (sym c.in-Move.is) (c.tend_now-in-Move.ensures.taken s stands)

pub returns-in-Repair-clause-taken : goal.returns-in-Repair-clause-taken
returns-in-Repair-clause-taken g c = λ s stands.
    subst (λ (x : Step). (s' : State) × (Takes s x (has_faults (g.W.Wire.faults c.args.wire.now) (g.W.Wire.faults c.tend_now-in-Repair.new.wire)) c.tend_now-in-Repair.result s' × StandsFor c.tend_now-in-Repair.new.self s')) (sym c.in-Repair.is) (c.tend_now-in-Repair.ensures.taken s stands)

pub returns-in-Rotate-clause-taken : goal.returns-in-Rotate-clause-taken
returns-in-Rotate-clause-taken g c = λ s stands.
    subst (λ (x : Step). (s' : State) × (Takes s x (has_faults (g.W.Wire.faults c.args.wire.now) (g.W.Wire.faults c.args.wire.now)) c.rotate.result s' × StandsFor c.rotate.new.self s')) (sym c.in-Rotate.is)
    (c.rotate.ensures.taken s (has_faults (g.W.Wire.faults c.args.wire.now) (g.W.Wire.faults c.args.wire.now)) stands)
