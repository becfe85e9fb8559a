use Rattle.std.proofs.Common.{rules}
use Rattle.stamp_main.proofs.SignLemmas.{sent_signature}
use Rattle.stamp_main.proofs.signing.sign_on.Goals as goal

pub returns-clause-signed : goal.returns-clause-signed
returns-clause-signed g c = λ written. (
  sent_signature c.args.key.now _ c.args.connection.now.writer c.read_whole.new.connection.writer c.send.new.connection.writer
      c.read_whole.new.connection.bytes c.as_bytes.result.now c.in_ok-read_whole.ensures.unwritten c.in_ok-read_whole.ensures.whole
      (search rules) c.send.ensures.sent,
  search rules,
)
