use Rattle.std.proofs.Common.{◌≡◌, ◌==◌, false, rules, true}
use Rattle.stamp_main.proofs.AttendingLemmas.{takes_other}
use Rattle.stamp_main.proofs.attending.take_byte.Goals as goal

pub returns-else-byte-eq10-clause-taken : goal.returns-else-byte-eq10-clause-taken
returns-else-byte-eq10-clause-taken g c =
    let is : (c.args.byte == 10) ≡ false = search rules in
    takes_other c.args.operator.now.account c.args.operator.now.known c.args.line.now c.push.new.self c.args.byte (g.O.Write.contents c.args.writer.now) true is c.push.ensures
