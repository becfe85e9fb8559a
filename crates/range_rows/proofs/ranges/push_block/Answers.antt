use Rattle.std.proofs.Common.{◌≤◌, ◌++◌, append-nil, rules, List, sym, ap, ◌∙◌}
use Rattle.stamp_types.specs.Pieces.{pieces_len}
use Rattle.range_rows.specs.declared.answer.Span.{Span}
use Rattle.range_rows.proofs.RangeLemmas.{part_past}
use Rattle.range_rows.proofs.ranges.push_block.Goals as goal

pub returns-else-from-len : goal.returns-else-from-len
returns-else-from-len c =
    let content = c.args.block.now.content in
    let past : pieces_len content ≤ c.args.from = search rules in
    sym (ap (λ (ss : List Span). c.args.spans.now.items ++ ss) (part_past c.args.from c.args.end content past) ∙ append-nil c.args.spans.now.items)
