use Rattle.std.proofs.Common.{subst, sym}
use Rattle.std.specs.Arc.{arc_value}
use Rattle.slot_state.specs.Pairs.{AreNumbered, Pairs}
use Rattle.core_run.specs.Cores.{CoreState, StandsFor}
use Rattle.core_run.specs.States.{opening}
use Rattle.core_run.proofs.CoreLemmas.{stands_opening}
use Rattle.stamp_core.proofs.cores.Core.of_rows.Goals as goal

pub returns-clause-stands : goal.returns-clause-stands
returns-clause-stands g c =
    subst (λ (x : CoreState). StandsFor x (opening (arc_value c.args.pairs))) (sym c.in_ok-core.ensures)
    (stands_opening (arc_value c.args.pairs) (subst (λ (p : Pairs). AreNumbered p) c.deref.ensures c.numbered.ensures))
