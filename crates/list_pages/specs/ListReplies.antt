-- Replies to the two lists (Blob service REST reference, 2012-02-12, "List Blobs", "List Containers").
use Rattle.std.specs.Prelude.{ℕ, List, Option}
use Rattle.stamp_values.specs.declared.key.Key.{Key}
use Rattle.stamp_types.specs.declared.args.Page.{Page}
use Rattle.stamp_types.specs.declared.reply.Reply.{Reply}
use Rattle.stamp_types.specs.Requests.{Asked}
use Rattle.stamp_types.specs.World.{Part, World}
pub use Rattle.body_forms.specs.Drafts.{first_page, page_asked}
use Rattle.body_forms.specs.Drafts.{blobs_reply, containers_reply}
use Rattle.body_forms.specs.ListEntries.{ShownBlob, ShownContainer}
use Rattle.list_pages.specs.Lists.{page_of_blobs, page_of_containers}
use Rattle.list_pages.specs.Pages.{PageOf}

-- a page of blobs as a reply tells it
abbrev pub blobs_told : Page → PageOf ShownBlob → Reply
blobs_told q r = blobs_reply q r.entries r.next

-- a page of containers as a reply tells it
abbrev pub containers_told : Page → PageOf ShownContainer → Reply
containers_told q r = containers_reply q r.entries r.next

-- the reply to a List Blobs, from the container that it names
abbrev pub blob_list_reply : Part ℕ → Asked → Reply
blob_list_reply p q = blobs_told (page_asked q) (page_of_blobs (page_asked q) p)

-- the reply to a List Containers, from the containers whose keys come before the bound
abbrev pub container_list_reply : {C : Type 0} → World C → Asked → Option Key → Reply
container_list_reply w q bound = containers_told (page_asked q) (page_of_containers q.ask.key.account (page_asked q) bound w)
