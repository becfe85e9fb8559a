use Rattle.std.proofs.Common.{◌≡◌, IfOk, ◌∙◌, subst}
use Rattle.std.specs.FinMap.{entries}
use Rattle.list_pages.specs.Lists.{ShownBlob, page_of_blobs, shown_row}
use Rattle.list_pages.specs.Pages.{PageOf, page_of_names}
use Rattle.list_pages.proofs.Sizes.{page_of_sizes}
use Rattle.list_pages.proofs.blobs.blob_page.Goals as goal
use Rattle.row_trees.specs.FoundParts.{sizes_found}

pub returns : goal.returns
returns c =
    let same : page_of_names shown_row c.given-prefix.result.now c.given-delimiter.result.now c.given-marker.result.now c.args.page.now.max (entries c.args.found.now.blobs) ≡ page_of_blobs c.args.page.now (sizes_found c.args.found.now) =
    (λ i. page_of_names shown_row (c.given-prefix.ensures.value i) (c.given-delimiter.ensures.value i) (c.given-marker.ensures.value i) c.args.page.now.max (entries c.args.found.now.blobs))
    ∙ page_of_sizes c.args.page.now c.args.found.now in
    subst (λ (page : PageOf ShownBlob). IfOk c.page_under.result (λ blobs. blobs ≡ page)) same c.page_under.ensures
