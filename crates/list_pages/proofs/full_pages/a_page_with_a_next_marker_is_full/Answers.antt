use Rattle.list_pages.proofs.FullPages.{blobs_full, containers_full}
use Rattle.list_pages.proofs.full_pages.a_page_with_a_next_marker_is_full.Goals as goal

pub returns : goal.returns
returns c = record {
  blobs = λ q p. blobs_full q p;
  containers = λ account q bound w. containers_full account q bound w;
}
