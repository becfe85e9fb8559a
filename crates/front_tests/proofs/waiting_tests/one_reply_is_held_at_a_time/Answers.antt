use Rattle.front_tests.proofs.FreshLemmas.{fresh_goes_on}
use Rattle.front_tests.proofs.waiting_tests.one_reply_is_held_at_a_time.Goals as goal

-- src/waiting_tests.rt:416:5
pub loop-init : goal.loop-init
loop-init g c = fresh_goes_on c.new-connection.result c.new-stage.result _ _ _ c.new-connection.ensures c.new-stage.ensures
