use Rattle.std.proofs.Common.{◌∙◌, refl}
use Rattle.std.specs.FinMap.{entries}
use Rattle.stamp_values.specs.Order.{keys_total}
use Rattle.row_trees.specs.Walks.{keyed_part}
use Rattle.checkpoint_rows.proofs.WalkLemmas.{all_keys}
use Rattle.stored_rows.specs.Swept.{is_past}
use Rattle.stored_rows.specs.declared.cursor.Cursor.TheVariants as cursor
use Rattle.stored_rows.proofs.NextRowLemmas.{next_of_all}
use Rattle.stored_rows.proofs.next_row.first_container.Goals as goal

pub returns : goal.returns
returns c =
    next_of_all keys_total c.args.rows.now keyed_part (is_past cursor.Start) c.containers_from-left.result c.next.new.self c.next.result (λ k. refl)
    (c.containers_from-left.ensures ∙ all_keys (record { account = c.empty.result; container = c.empty-2.result }) (entries c.args.rows.now) c.empty.ensures c.empty-2.ensures)
    c.next.ensures.steps
