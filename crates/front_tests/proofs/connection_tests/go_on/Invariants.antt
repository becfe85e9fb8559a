use Rattle.http_front.specs.Connections.{IsOpen}
use Rattle.http_front.specs.Stages.{IsStaged}
use Rattle.front_tests.proofs.connection_tests.go_on.Given as goal

-- the connection can be gone on with
abbrev pub invariant-loop-wait : goal.invariant-loop-wait
invariant-loop-wait l = IsOpen l.connection × IsStaged l.stage l.connection
