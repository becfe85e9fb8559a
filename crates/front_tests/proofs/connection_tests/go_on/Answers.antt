use Rattle.front_tests.proofs.FreshLemmas.{fresh_goes_on}
use Rattle.front_tests.proofs.connection_tests.go_on.Goals as goal

-- src/connection_tests.rt:273:5
pub loop-wait-init : goal.loop-wait-init
loop-wait-init c = fresh_goes_on c.new-connection.result c.new-stage.result _ _ _ c.new-connection.ensures c.new-stage.ensures
