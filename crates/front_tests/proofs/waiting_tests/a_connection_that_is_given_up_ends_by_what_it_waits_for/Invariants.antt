use Rattle.http_front.specs.Connections.{IsOpen}
use Rattle.http_front.specs.Stages.{IsStaged}
use Rattle.front_tests.proofs.waiting_tests.a_connection_that_is_given_up_ends_by_what_it_waits_for.Given as goal

-- the connection can be gone on with
abbrev pub invariant-loop : goal.invariant-loop
invariant-loop g l = IsOpen l.connection × IsStaged l.stage l.connection
