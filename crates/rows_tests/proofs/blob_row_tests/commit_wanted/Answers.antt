use Rattle.std.proofs.Common.{◌∙◌, ap, sym}
use Rattle.block_blobs.specs.BlockLists.{entries_from}
use Rattle.block_blobs.specs.declared.resolved.Resolved.{Resolved}
use Rattle.block_blobs.proofs.FoundLemmas.{resolved_found}
use Rattle.rows_tests.proofs.blob_row_tests.commit_wanted.Goals as goal

-- src/blob_row_tests.rt:47:5
pub commit-requires-clause-found : goal.commit-requires-clause-found
commit-requires-clause-found g c =
    resolved_found c.args.row.now c.deref.result.now c.in_ok-found.ensures.fits c.put_block_list-list.result.entries
    (c.put_block_list-list.ensures ∙ c.in_ok-entries.ensures ∙ (λ i. entries_from (c.new.ensures i) (c.as_slice.ensures i))
    ∙ ap (λ ws. entries_from ws c.in_ok-found.found.sources) (sym c.deref.ensures.value)
    ∙ ap (λ (r : Resolved). entries_from c.deref.result.now r.sources) c.in_ok-found.ensures.value)
    c.in_ok-found.found.blocks (ap (λ (r : Resolved). r.blocks) c.in_ok-found.ensures.value)
