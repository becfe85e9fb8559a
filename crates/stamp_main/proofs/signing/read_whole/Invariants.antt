use Rattle.std.proofs.Common.{◌≡◌}
use Rattle.http_front.specs.Connections.{IsOpen, ReadsOn}
use Rattle.http_front.specs.declared.counted.Output.TheVariants as outputs
use Rattle.stamp_main.proofs.signing.read_whole.Given as goal

abbrev pub invariant-loop : goal.invariant-loop
invariant-loop g l = record {
  stays : IsOpen l.connection;
  unwritten : l.connection.writer ≡ l.fn.connection.writer;
  flushed : l.connection.writer.output ≡ outputs.Flushed;
  read : ReadsOn l.fn.connection l.connection l.fn.connection.bytes l.connection.bytes;
}

abbrev pub decreases-loop : goal.decreases-loop
decreases-loop g l = l.connection.reader.turns
