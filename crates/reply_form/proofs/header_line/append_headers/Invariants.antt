use Rattle.std.proofs.Common.{◌≡◌, ◌++◌, take, flat_map}
use Rattle.reply_form.specs.HeaderLines.{reply_line}
use Rattle.reply_form.proofs.header_line.append_headers.Given as goal

-- the output has the lines of the headers so far
abbrev pub invariant-loop-header : goal.invariant-loop-header
invariant-loop-header l = l.out.items ≡ l.initial.out.items ++ flat_map reply_line (take l.header-index l.headers)
