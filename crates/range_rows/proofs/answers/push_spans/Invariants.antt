use Rattle.std.proofs.Common.{◌≡◌, ◌++◌, take, map}
use Rattle.range_rows.specs.SentContent.{whole_span}
use Rattle.range_rows.proofs.answers.push_spans.Given as goal

-- the spans so far are there
abbrev pub invariant-loop-piece : goal.invariant-loop-piece
invariant-loop-piece l = l.spans.items ≡ l.initial.spans.items ++ map whole_span (take l.piece-index l.pieces)
