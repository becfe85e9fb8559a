use Rattle.front_tests.proofs.FreshLemmas.{fresh_goes_on}
use Rattle.front_tests.proofs.waiting_tests.a_connection_that_is_given_up_ends_by_what_it_waits_for.Goals as goal

-- src/waiting_tests.rt:378:9
pub loop-init : goal.loop-init
loop-init g c = fresh_goes_on c.new-connection.result c.new-stage.result _ _ _ c.new-connection.ensures c.new-stage.ensures
