use Rattle.core_run.proofs.CoreLemmas.{refused, replied, routed_under, stands_opening}
use Rattle.core_run.proofs.ServedCores.{stands_after}
use Rattle.core_run.proofs.SplitCores.{stands_split}
use Rattle.core_run.proofs.laws.a_core_stands_for_its_state.Goals as goal

pub returns-clause-opening : goal.returns-clause-opening
returns-clause-opening c = λ pairs numbered. stands_opening pairs numbered

pub returns-clause-under : goal.returns-clause-under
returns-clause-under c = λ points q. routed_under points q

pub returns-clause-reply : goal.returns-clause-reply
returns-clause-reply c = λ core s q t r after stands is. replied core s stands q t r after is

pub returns-clause-served : goal.returns-clause-served
returns-clause-served c = λ core s q t r after stands is. stands_after core s stands q t r after is

pub returns-clause-split : goal.returns-clause-split
returns-clause-split c = λ core s i middle stands allowed calm. stands_split core s stands i middle allowed calm

pub returns-clause-withdrawn : goal.returns-clause-withdrawn
returns-clause-withdrawn c = λ core s q t front rest e id token stands history legal withdraws none asks reads named some.
    refused core s stands q t front rest e id history legal withdraws none token asks reads named some
