use Rattle.stamp_types.specs.Pieces.{pieces_len}
use Rattle.list_pages.proofs.Shown.{same_blob_page, same_container_page}
use Rattle.list_pages.proofs.laws.uncommitted_blocks_change_no_page.Goals as goal

pub returns : goal.returns
returns c = record {
  blobs = λ q a p. same_blob_page pieces_len q a p;
  containers = λ account q bound key a w. same_container_page pieces_len account q bound key a w;
}
