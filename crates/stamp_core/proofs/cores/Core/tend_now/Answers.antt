use Rattle.std.proofs.Common.{subst, sym}
use Rattle.core_run.specs.Cores.{StandsFor}
use Rattle.core_run.specs.Machine.{Answer, Takes}
use Rattle.core_run.specs.States.{State}
use Rattle.stamp_core.specs.CoreSteps.{has_faults, step_of}
use Rattle.stamp_core.proofs.cores.Core.tend_now.Goals as goal

pub returns-clause-taken : goal.returns-clause-taken
returns-clause-taken g c = λ s stands.
    subst (λ (r : Answer). (s' : State) × (Takes s (step_of c.args.slot c.args.care) (has_faults (g.W.Wire.faults c.args.wire.now) (g.W.Wire.faults c.tend.new.wire)) r s' × StandsFor c.tend.new.self s')) (sym c.made.ensures) (c.tend.ensures.taken s stands)
