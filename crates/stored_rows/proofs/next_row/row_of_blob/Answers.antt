use Rattle.std.proofs.Common.{◌≡◌, rules, subst}
use Rattle.std.specs.Option.{option_map}
use Rattle.stamp_types.specs.World.{part_at}
use Rattle.row_trees.specs.Walks.{named_blob}
use Rattle.stored_rows.specs.NextRows.{IsFirstAfter}
use Rattle.stored_rows.specs.Swept.{is_upto}
use Rattle.stored_rows.proofs.NextRowLemmas.{blob_next, no_blob_next}
use Rattle.stored_rows.proofs.next_row.row_of_blob.Goals as goal

pub returns-in_default : goal.returns-in_default
returns-in_default c = λ last w first.
    let same : c.in_ok-key.key ≡ c.args.at.now = search rules in
    no_blob_next c.args.at.now last w c.in_ok-key.key same (subst (λ o. IsFirstAfter (is_upto last) (part_at w c.args.at.now).blobs (option_map named_blob o)) c.in_default.is first)

pub returns : goal.returns
returns c = λ last w first.
    let same : c.in_ok-key.key ≡ c.args.at.now = search rules in
    let named : c.in_ok-name.name.items ≡ c.in-Some.name.now = search rules in
    blob_next c.args.at.now last w c.in-Some.name.now c.in-Some.blob c.in_ok-key.key c.in_ok-name.name c.in_ok-row.row same named c.in_ok-row.ensures
    (subst (λ o. IsFirstAfter (is_upto last) (part_at w c.args.at.now).blobs (option_map named_blob o)) c.in-Some.is first)
