use Rattle.std.proofs.Common.{◌≡◌, ◌∙◌, ap, subst, sym, true, false}
use Rattle.std.specs.Ordering.{is_gt}
use Rattle.stamp_values.specs.Order.{name_cmp, names_total}
use Rattle.row_trees.specs.Walks.{named_blob}
use Rattle.stored_rows.proofs.NextRowLemmas.{first_past, none_from, second_past}
use Rattle.stored_rows.proofs.next_row.blob_after.Goals as goal

pub returns-in_default : goal.returns-in_default
returns-in_default c = none_from names_total c.args.found.now.blobs c.args.last.now.items c.blobs_from-left.result c.blobs_from-left.ensures c.in_default.ensures.steps.0

pub returns-then-is_gt : goal.returns-then-is_gt
returns-then-is_gt c =
    first_past names_total c.args.found.now.blobs c.args.last.now.items c.blobs_from-left.result c.blobs_from-left.ensures (named_blob (c.in-Some.name, c.in-Some.blob)) c.next.new.self
    c.in-Some.ensures.steps (subst (λ xs. is_gt (name_cmp c.in-Some.name.now xs) ≡ true) c.as_slice.ensures.value (ap is_gt (sym c.cmp.ensures) ∙ sym c.is_gt.ensures ∙ c.if-is_gt.true))

pub returns : goal.returns
returns c =
    second_past names_total c.args.found.now.blobs c.args.last.now.items c.blobs_from-left.result c.blobs_from-left.ensures named_blob (named_blob (c.in-Some.name, c.in-Some.blob)) c.next.new.self
    c.next-2.new.self c.next-2.result c.in-Some.ensures.steps (subst (λ xs. is_gt (name_cmp c.in-Some.name.now xs) ≡ false) c.as_slice.ensures.value (ap is_gt (sym c.cmp.ensures) ∙ sym c.is_gt.ensures ∙ c.if-is_gt.false)) c.next-2.ensures.steps
