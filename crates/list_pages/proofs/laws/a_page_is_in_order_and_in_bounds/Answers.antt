use Rattle.list_pages.proofs.Bounds.{blobs_in_bounds, containers_in_bounds}
use Rattle.list_pages.proofs.laws.a_page_is_in_order_and_in_bounds.Goals as goal

pub returns : goal.returns
returns c = record {
  blobs = λ q p. blobs_in_bounds q p;
  containers = λ account q bound w. containers_in_bounds account q bound w;
}
