use Rattle.http_front.proofs.ConnectionLemmas.{Sends-flushed}
use Rattle.stamp_main.proofs.signing.send.Goals as goal

pub returns-clause-sent : goal.returns-clause-sent
returns-clause-sent g c =
    Sends-flushed c.args.connection.now.writer c.send.new.self.writer c.flush.new.self.writer _ c.in_ok-send.ensures.sent c.in_ok-send.ensures.ok c.flush.ensures.unwritten
