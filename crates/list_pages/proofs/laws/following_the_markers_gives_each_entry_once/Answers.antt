use Rattle.list_pages.specs.Lists.{given, shown_blob}
use Rattle.list_pages.proofs.Followed.{blobs_follow}
use Rattle.list_pages.proofs.Over.{containers_follow, containers_rise}
use Rattle.list_pages.proofs.Rising.{list_rises}
use Rattle.list_pages.proofs.laws.following_the_markers_gives_each_entry_once.Goals as goal

pub returns : goal.returns
returns c = record {
  blobs = λ q p. blobs_follow q p;
  containers = λ account q w. containers_follow account q w;
  blobs_rise = λ q p. list_rises shown_blob (given q.prefix) (given q.delimiter) p.blobs;
  containers_rise = λ account q w. containers_rise account q w;
}
