use Rattle.std.proofs.Common.{◌≡◌, false, true, rules}
use Rattle.std.specs.Prelude.{codes}
use Rattle.stamp_main.proofs.AttendingLemmas.{all_written, writes_after, writes_before}
use Rattle.stamp_main.proofs.attending.write_line.Goals as goal

pub returns-then-not-write_whole : goal.returns-then-not-write_whole
returns-then-not-write_whole g c =
    let untold : c.write_whole.result ≡ false = search rules in
    writes_before (g.O.Write.contents c.args.writer.now) (g.O.Write.contents c.write_whole.new.writer) c.args.text.now (codes "\n") c.write_whole.result untold c.write_whole.ensures

pub returns : goal.returns
returns g c =
    let told : c.write_whole.result ≡ true = search rules in
    let whole = all_written (g.O.Write.contents c.args.writer.now) (g.O.Write.contents c.write_whole.new.writer) c.args.text.now c.write_whole.result told c.write_whole.ensures in
    writes_after (g.O.Write.contents c.args.writer.now) (g.O.Write.contents c.write_whole.new.writer) (g.O.Write.contents c.write_end.new.writer) c.args.text.now (codes "\n") c.write_end.result
    whole c.write_end.ensures
