use Rattle.std.proofs.Common.{sym, ◌∙◌, take, drop}
use Rattle.std.specs.Io.KnownBytes.{Appends}
use Rattle.audit_lines.proofs.WriteLemmas.{taken_by, writes_part}
use Rattle.audit_lines.proofs.unwritten.Unwritten.write_once.Goals as goal

pub returns-in-Ok : goal.returns-in-Ok
returns-in-Ok g c =
    let part : Appends (g.W.Write.contents c.args.writer.now) (g.W.Write.contents c.write.new.self) (take c.in-Ok.count (drop c.self.inside.done c.self.inside.bytes.items)) =
    taken_by (g.W.Write.contents c.args.writer.now) (g.W.Write.contents c.write.new.self) c.write.result c.in-Ok.count c.left.result.now (drop c.self.inside.done c.self.inside.bytes.items)
    c.write.ensures.bytes c.in-Ok.is (c.left.ensures ∙ sym c.self.view_is) in
    writes_part (g.W.Write.contents c.args.writer.now) (g.W.Write.contents c.write.new.self) c.self.inside.bytes.items c.self.inside.done c.in-Ok.count c.args.self.now (sym c.self.view_is) part
