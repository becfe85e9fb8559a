-- Following the markers over the blobs of a container.
use Rattle.std.proofs.Common.{ℕ, [], length, None, refl, ◌∙◌}
use Rattle.stamp_types.specs.declared.args.Page.{Page}
use Rattle.stamp_types.specs.World.{Part}
use Rattle.list_pages.specs.Laws.{FollowingGivesAll}
use Rattle.list_pages.specs.Lists.{blob_list, given, page_of_blobs, shown_blob}
use Rattle.list_pages.proofs.Following.{follow, followed_alike}
use Rattle.list_pages.proofs.Rising.{all_at, list_rises}

pub blobs_follow : (q : Page) (p : Part ℕ) → FollowingGivesAll (λ q. page_of_blobs q p) q (blob_list q p) (length (blob_list q p))
blobs_follow q p maxes some enough =
    followed_alike (λ q. page_of_blobs q p) q (blob_list q p) (λ marker max. refl) maxes None
    ∙ follow (blob_list q p) (list_rises shown_blob (given q.prefix) (given q.delimiter) p.blobs) maxes some [] [] (blob_list q p) refl (all_at (blob_list q p)) enough
