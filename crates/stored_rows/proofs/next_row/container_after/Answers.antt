use Rattle.std.proofs.Common.{◌∙◌, ap, sym}
use Rattle.std.specs.Ordering.{is_gt}
use Rattle.stamp_values.specs.Order.{keys_total}
use Rattle.row_trees.specs.Walks.{keyed_part}
use Rattle.stored_rows.proofs.NextRowLemmas.{first_past, none_from, second_past}
use Rattle.stored_rows.proofs.next_row.container_after.Goals as goal

pub returns-in_default : goal.returns-in_default
returns-in_default c = none_from keys_total c.args.rows.now c.args.last.now c.containers_from-left.result c.containers_from-left.ensures c.in_default.ensures.steps.0

pub returns-then-is_gt : goal.returns-then-is_gt
returns-then-is_gt c =
    first_past keys_total c.args.rows.now c.args.last.now c.containers_from-left.result c.containers_from-left.ensures (keyed_part (c.in-Some.key, c.in-Some.found)) c.next.new.self
    c.in-Some.ensures.steps (ap is_gt (sym c.cmp.ensures) ∙ sym c.is_gt.ensures ∙ c.if-is_gt.true)

pub returns : goal.returns
returns c =
    second_past keys_total c.args.rows.now c.args.last.now c.containers_from-left.result c.containers_from-left.ensures keyed_part (keyed_part (c.in-Some.key, c.in-Some.found)) c.next.new.self
    c.next-2.new.self c.next-2.result c.in-Some.ensures.steps (ap is_gt (sym c.cmp.ensures) ∙ sym c.is_gt.ensures ∙ c.if-is_gt.false) c.next-2.ensures.steps
