use Rattle.std.proofs.Common.{◌∙◌, None, refl}
use Rattle.std.specs.FinMap.{entries}
use Rattle.stamp_values.specs.Order.{names_total}
use Rattle.row_trees.specs.Walks.{named_blob}
use Rattle.checkpoint_rows.proofs.WalkLemmas.{all_names}
use Rattle.stored_rows.specs.Swept.{is_upto}
use Rattle.stored_rows.proofs.NextRowLemmas.{next_of_all}
use Rattle.stored_rows.proofs.next_row.first_blob.Goals as goal

pub returns : goal.returns
returns c =
    next_of_all names_total c.args.found.now.blobs named_blob (is_upto None) c.blobs_from-left.result c.next.new.self c.next.result (λ name. refl)
    (c.blobs_from-left.ensures ∙ all_names c.new.result.items (entries c.args.found.now.blobs) c.new.ensures.items) c.next.ensures.steps
