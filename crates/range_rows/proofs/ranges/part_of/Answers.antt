use Rattle.std.proofs.Common.{◌≤◌, ◌++◌, append-nil, rules, List, sym, ap, ◌∙◌}
use Rattle.range_rows.specs.declared.answer.Span.{Span}
use Rattle.range_rows.proofs.RangeLemmas.{no_block}
use Rattle.range_rows.proofs.ranges.part_of.Goals as goal

pub returns-then-end-eq0 : goal.returns-then-end-eq0
returns-then-end-eq0 c =
    let l = c.loop-left in
    let before : l.end ≤ l.from = search rules in
    let none = no_block l.from l.end l.left.now before in
    sym (append-nil l.spans.items) ∙ ap (λ (ss : List Span). l.spans.items ++ ss) (sym none) ∙ l.invariant
