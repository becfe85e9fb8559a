-- Replies whose text may be written later (Blob service REST reference, 2012-02-12, "List Blobs", "List Containers").
use Rattle.std.specs.Prelude.{ℕ, [], ◌∷◌, List, Option, None, Result, Ok, Err, unwrap_or, false}
use Rattle.stamp_values.specs.Limits.{page_limit}
use Rattle.stamp_types.specs.declared.args.Page.{Page}
use Rattle.stamp_types.specs.declared.reply.Reply.{Reply}
use Rattle.stamp_types.specs.Replies.{text_reply, xml_header}
use Rattle.stamp_types.specs.Requests.{Asked}
use Rattle.body_forms.specs.ListEntries.{Entry, ShownBlob, ShownContainer}
use Rattle.body_forms.specs.WrittenPages.{blob_list_text, container_list_text}
use Rattle.body_forms.specs.declared.listing.Entries.{Entries}
use Rattle.body_forms.specs.declared.listing.Entries.TheVariants.{Blobs, Containers}

-- the first names of all, as many as a page may have, without their metadata
abbrev pub first_page : Page
first_page = record { prefix = None; delimiter = None; marker = None; max = page_limit; metadata = false }

-- the page that a request asks for. Each request that lists names asks for a page
abbrev pub page_asked : Asked → Page
page_asked q = unwrap_or q.ask.args.page first_page

-- the reply that tells a page with these blobs and groups and this marker
abbrev pub blobs_reply : Page → List (Entry ShownBlob) → Option (List ℕ) → Reply
blobs_reply q entries next = text_reply (xml_header ∷ []) (blob_list_text q entries next)

-- the reply that tells a page with these containers and this marker
abbrev pub containers_reply : Page → List (Entry ShownContainer) → Option (List ℕ) → Reply
containers_reply q entries next = text_reply (xml_header ∷ []) (container_list_text q entries next)

-- the text of a page with these entries and this marker
abbrev pub page_text : Page → Entries → Option (List ℕ) → List ℕ
page_text q (Blobs entries) next = blob_list_text q entries next
page_text q (Containers entries) next = container_list_text q entries next

-- the reply to a request for a page that has these entries and this marker
abbrev pub page_told : Asked → Entries → Option (List ℕ) → Reply
page_told q entries next = text_reply (xml_header ∷ []) (page_text (page_asked q) entries next)

-- the reply that is written, or else the one whose text is written later
abbrev pub reply_drafted : Result Reply Reply → Reply
reply_drafted (Ok reply) = reply
reply_drafted (Err reply) = reply
