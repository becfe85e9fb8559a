use Rattle.audit_lines.proofs.RoundLemmas.{made_and_written}
use Rattle.audit_lines.proofs.writing.Rounds.go_on.Goals as goal

pub returns : goal.returns
returns g c =
    made_and_written (g.W.Write.contents c.args.writer.now) (g.W.Write.contents c.write.new.writer) c.args.self.now c.make_lines.new.self
    (record { book = c.self.inside.book.value; next = c.self.inside.next; left = c.self.inside.left }) c.write.new.self c.make_lines.ensures c.self.view_is c.write.ensures
