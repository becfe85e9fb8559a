use Rattle.http_front.specs.Connections.{IsOpen}
use Rattle.http_front.specs.Stages.{IsStaged}
use Rattle.front_tests.proofs.waiting_tests.one_reply_is_held_at_a_time.Given as goal

-- the connection can be gone on with
abbrev pub invariant-loop : goal.invariant-loop
invariant-loop g l = IsOpen l.connection × IsStaged l.stage l.connection
