use Rattle.std.proofs.Common.{◌++◌}
use Rattle.xml_text.specs.Escapes.{escaped}
use Rattle.xml_text.proofs.EscapeLemmas.{turn_joined, end_joined}
use Rattle.xml_text.proofs.escape.append_escaped.Goals as goal

pub loop-left-preserved : goal.loop-left-preserved
loop-left-preserved c =
    turn_joined (c.args.out.now.items ++ escaped c.args.text.now) c.loop-left.out.items c.append_byte.new.out.items c.append_run-in-len1-up.new.out.items
    c.loop-left.left.now c.in_ok-left-2.left.now c.in-len1-up.len_at_least c.loop-left.invariant c.in_ok-append_byte.ensures c.in_ok-left-2.ensures.written

pub returns : goal.returns
returns c = end_joined (c.args.out.now.items ++ escaped c.args.text.now) c.loop-left.out.items c.loop-left.left.now c.in_default.len_below c.loop-left.invariant
