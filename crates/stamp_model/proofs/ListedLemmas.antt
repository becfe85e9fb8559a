-- What a list of blobs shows of a blob.
use Rattle.std.proofs.Common.{◌≡◌, ◌≢◌, ◌≤◌, ◌+◌, ℕ, zero, suc, arith, nat_eq, Bool, true, false, cond, List, [], ◌∷◌, ◌++◌, length, map, take, Option, Some, None, IfSome, refl, sym, ap, ◌∙◌, subst}
use Rattle.std.proofs.lemmas.List.Elements.{Contains-append_left, Contains-append_right}
use Rattle.std.specs.Cmp.Lexicographic.{bytes_decides, pointwise}
use Rattle.std.specs.FinMap.{entries}
use Rattle.std.specs.List.{AllByRecursion, slice_get}
use Rattle.std.specs.Option.{option_map}
use Rattle.std.specs.declared.cmp.Ordering.TheVariants.{Less}
use Rattle.stamp_values.specs.Operations.{writes}
use Rattle.stamp_values.specs.Order.{key_cmp, name_cmp}
use Rattle.stamp_values.specs.declared.condition.ByteRange.{ByteRange}
use Rattle.stamp_values.specs.declared.key.Key.{Key}
use Rattle.stamp_values.specs.declared.op.Op.{Op}
use Rattle.stamp_values.specs.declared.op.Op.TheVariants as op
use Rattle.stamp_types.specs.declared.args.Page.{Page}
use Rattle.stamp_types.specs.declared.committed.Committed.{Committed}
use Rattle.stamp_types.specs.declared.header.Header.{Header}
use Rattle.stamp_types.specs.declared.header.Header.TheVariants as header
use Rattle.stamp_types.specs.declared.reply.Reply.{Reply}
use Rattle.stamp_types.specs.Requests.{IsAsk}
use Rattle.stamp_types.specs.World.{Blob, Part, World, blob_in, committed_value, part_at}
use Rattle.stamp_types.proofs.WorldLemmas.{blob_in-part_value}
use Rattle.body_forms.specs.ListEntries.{ShownBlob, ShownContainer}
use Rattle.range_rows.specs.Frames.{date_headers, get_frame, kept_lines, ranged_frame}
use Rattle.range_rows.specs.SentContent.{blob_content, byte_count, ranged_bytes, sizes, with_content}
use Rattle.list_pages.specs.Containers.{before_end, end_of, of_account, or_else}
use Rattle.list_pages.specs.Laws.{own_entry, shown_at}
use Rattle.list_pages.specs.ListReplies.{blob_list_reply, containers_told, page_asked}
use Rattle.list_pages.specs.Lists.{blob_list, given, page_of_blobs, page_of_containers, shown_container, shown_part}
use Rattle.list_pages.specs.Pages.{Entry, from_marker, listed, with_value}
use Rattle.list_pages.specs.Ranges.{key_of}
use Rattle.list_pages.proofs.Bounds.{blobs_in_bounds, containers_in_bounds}
use Rattle.list_pages.proofs.FullPages.{blobs_full, containers_full}
use Rattle.list_pages.proofs.Keys.{same_account}
use Rattle.list_pages.proofs.Reached.{container_reached, entry_none, entry_reached}
use Rattle.list_pages.proofs.Shown.{shown_at-committed}
use Rattle.stamp_model.specs.Listed.{IsTold, ListsContainer, ListsNames, ListsNever, ListsOnce, leaves_blob}
use Rattle.stamp_model.specs.Responses.{answer_by, answer_of, own_answer_by}
use Rattle.stamp_model.specs.SeenContainers.{is_under}
use Rattle.stamp_model.specs.Runs.{Timed, IsOn, reply_to_one, world_after_one}
use Rattle.stamp_model.proofs.BlockLemmas.{committed-list, kept-list}
use Rattle.stamp_model.proofs.ReadLemmas.{effect-read, reply-read}
use Rattle.stamp_model.proofs.ReplyLemmas.{reply-admitted, reply-unrefused}
use Rattle.stamp_model.proofs.SeenContainerLemmas.{answer-listing, before_bound}
use Rattle.stamp_model.proofs.SuccessLemmas.{seen-before}
use Rattle.stamp_model.proofs.WrittenLemmas.{committed-deleted, committed-put, committed-set, kept-put}
use Rattle.stamp_model.specs.Overrides.{overrides_of}
use Rattle.range_rows.specs.Replaced.{nothing_replaced}

-- ---- the next marker of a page

-- no text comes before the empty text
no_text_before : (text : List ℕ) → name_cmp text [] ≢ Less
no_text_before [] less = cc
no_text_before (b ∷ text) less = cc

module _ {Y : Type 0} where
  -- a marker that is past each entry of a page is not empty, if the page may have an entry, and if no empty marker comes with an empty list
  next-filled : (max : ℕ) (items : List (Entry Y)) (next : Option (List ℕ)) → 1 ≤ max → (items ≡ [] → next ≢ Some [])
      → IfSome next (λ next. AllByRecursion (λ (entry : Entry Y). name_cmp entry.0 next ≡ Less) (take max items)) → next ≢ Some []
  next-filled zero items next some none past = absurd (omega arith)
  next-filled (suc n) [] next some none past = none refl
  next-filled (suc n) (item ∷ items) next some none past = λ empty.
      no_text_before item.0 (subst (λ o. IfSome o (λ next. AllByRecursion (λ (entry : Entry Y). name_cmp entry.0 next ≡ Less) (take (suc n) (item ∷ items)))) empty past).0

  -- an empty list leaves no entry out
  next-nothing : (max : ℕ) (items : List (Entry Y)) → items ≡ [] → option_map (λ (entry : Entry Y). entry.0) (slice_get items max) ≡ None
  next-nothing max items nothing = ap (λ items. option_map (λ (entry : Entry Y). entry.0) (slice_get items max)) nothing

-- the next marker of a page of blobs is not empty
blobs-next : (q : Page) (p : Part ℕ) → 1 ≤ q.max → (page_of_blobs q p).next ≢ Some []
blobs-next q p some =
    let items : List (Entry ShownBlob) = from_marker (given q.marker) (blob_list q p) in
    next-filled q.max items (page_of_blobs q p).next some (λ nothing empty. let never = sym (next-nothing q.max items nothing) ∙ empty in cc) (blobs_in_bounds q p).next

-- the containers of an account do not end at the empty name, if a container of the account comes before the bound
end_of-filled : (account name : List ℕ) (bound : Option Key) → IfSome bound (λ end. key_cmp (key_of account name) end ≡ Less) → end_of account bound ≢ Some []
end_of-filled account name None before = λ empty. cc
end_of-filled account name (Some end) before = by (pointwise nat_eq end.account account) refl
  where
    by : (b : Bool) → pointwise nat_eq end.account account ≡ b → cond b (Some end.container) None ≢ Some []
    by false is empty = cc
    by true is empty =
        let first : end.container ≡ [] = cc in
        no_text_before name
        (ap (name_cmp name) (sym first) ∙ sym (same_account (key_of account name) end (sym ((bytes_decides end.account account).0 is))) ∙ before)

-- the next marker of a page of containers is not empty, if a container of the account comes before the bound
containers-next : {C : Type 0} (account : List ℕ) (q : Page) (bound : Option Key) (w : World C) (name : List ℕ) → IfSome bound (λ end. key_cmp (key_of account name) end ≡ Less)
    → 1 ≤ q.max → (page_of_containers account q bound w).next ≢ Some []
containers-next account q bound w name before some =
    let end : Option (List ℕ) = end_of account bound in
    let items : List (Entry ShownContainer) = from_marker (given q.marker) (listed (given q.prefix) [] (with_value shown_container (before_end end (of_account account (entries w))))) in
    next-filled q.max items (page_of_containers account q bound w).next some
    (λ nothing empty. end_of-filled account name bound before (sym (ap (λ next. or_else next end) (next-nothing q.max items nothing)) ∙ empty))
    (containers_in_bounds account q bound w).next

-- ---- the page of a list

module _ (w : World (List ℕ)) (key : Key) (list : Timed) (lists : ListsNames key list.request) (none : (reply_to_one w list).rule ≡ None) where
  abbrev part_listed : Part ℕ
  part_listed = sizes (part_at w key)

  -- a List Blobs that no rule refuses is answered from the container as it is
  reply-listed : reply_to_one w list ≡ blob_list_reply part_listed list.request
  reply-listed =
      reply-admitted list.keys w list.request list.moment list.bound (reply-unrefused list.keys w list.request list.moment list.bound none)
      ∙ ap (λ (v : World (List ℕ)). answer_of v list.request list.bound) (effect-read list.keys w list.request list.moment (ap writes lists.op))
      ∙ ap (λ (o : Op). answer_by o w list.request list.bound) lists.op
      ∙ ap (λ (o : Op). own_answer_by o (part_at w list.request.ask.key) list.request) lists.op
      ∙ ap (λ (k : Key). blob_list_reply (sizes (part_at w k)) list.request) lists.container

  module _ (name : List ℕ) where
    -- what a list shows of a blob that readers see
    shown-seen : (c : Committed (List ℕ)) → (blob_in (part_at w key) name).committed ≡ Some c → shown_at part_listed name ≡ Some (shown_part (committed_value byte_count c))
    shown-seen c there =
        shown_at-committed part_listed name
        ∙ ap (λ (b : Blob ℕ). option_map shown_part b.committed) (blob_in-part_value byte_count (part_at w key) name)
        ∙ ap (λ (o : Option (Committed (List ℕ))). option_map shown_part (option_map (committed_value byte_count) o)) there

    -- the page has one entry of a blob that readers see
    pub lists-once : (IsTold : ShownBlob → Type 0) (c : Committed (List ℕ)) → (blob_in (part_at w key) name).committed ≡ Some c → IsTold (shown_part (committed_value byte_count c))
        → ListsOnce list.request name (reply_to_one w list) IsTold
    lists-once IsTold c there told = record {
      page = page_of_blobs (page_asked list.request) part_listed;
      body = ap (λ (r : Reply). r.body) reply-listed;
      told = ap (λ (r : Reply). r.length) reply-listed ∙ sym (ap (λ (r : Reply). length r.body) reply-listed);
      marked = blobs-next (page_asked list.request) part_listed;
      full = blobs_full (page_asked list.request) part_listed;
      once = λ reaches. (
        shown_part (committed_value byte_count c),
        entry_reached (page_asked list.request) part_listed name lists.plain reaches ∙ ap (own_entry name) (shown-seen c there),
        told,
      );
    }

    -- the page has no entry of a blob that readers do not see
    pub lists-never : (blob_in (part_at w key) name).committed ≡ None → ListsNever list.request name (reply_to_one w list)
    lists-never unseen = record {
      page = page_of_blobs (page_asked list.request) part_listed;
      body = ap (λ (r : Reply). r.body) reply-listed;
      told = ap (λ (r : Reply). r.length) reply-listed ∙ sym (ap (λ (r : Reply). length r.body) reply-listed);
      never =
          entry_none (page_asked list.request) part_listed name lists.plain
          (shown_at-committed part_listed name
          ∙ ap (λ (b : Blob ℕ). option_map shown_part b.committed) (blob_in-part_value byte_count (part_at w key) name)
          ∙ ap (λ (o : Option (Committed (List ℕ))). option_map shown_part (option_map (committed_value byte_count) o)) unseen);
    }

-- ---- what Get Blob tells

module _ (c : Committed ℕ) where
  abbrev last_lines : List Header
  last_lines = header.BlobType ∷ header.AcceptRanges ∷ date_headers c.etag c.made

  abbrev first_lines : List Header
  first_lines = kept_lines nothing_replaced c.props ++ map header.Meta c.metadata

  -- the reply to a Get Blob tells what a list shows of its blob
  told-get : (bytes : List ℕ) → IsTold (with_content (get_frame nothing_replaced c) bytes) (shown_part c)
  told-get bytes = record {
    etag = Contains-append_right first_lines last_lines (header.Etag c.etag) (2, omega arith, refl);
    made = Contains-append_right first_lines last_lines (header.LastModified c.made) (3, omega arith, refl);
    content_type = Contains-append_left first_lines last_lines (header.ContentType c.props.content_type)
        (Contains-append_left (kept_lines nothing_replaced c.props) (map header.Meta c.metadata) (header.ContentType c.props.content_type) (0, omega arith, refl));
    len = refl;
  }

-- the page of a list tells of a blob what a Get Blob tells
pub listed-told : (w : World (List ℕ)) (key : Key) (name : List ℕ) (list : Timed) → ListsNames key list.request → (reply_to_one w list).rule ≡ None
    → (get : Timed) → IsOn op.GetBlob key name get.request → get.request.ask.args.range ≡ None → overrides_of get.request.ask ≡ nothing_replaced
    → (reply_to_one w get).rule ≡ None → ListsOnce list.request name (reply_to_one w list) (IsTold (reply_to_one w get))
listed-told w key name list lists none get gets whole own free =
    let there = seen-before w key name op.GetBlob get refl gets free in
    let sized : Committed ℕ = committed_value byte_count there.0 in
    let got : reply_to_one w get ≡ with_content (get_frame nothing_replaced sized) (blob_content there.0) =
    reply-read get.keys w get.request get.moment get.bound free op.GetBlob key name there.0 refl refl gets there.1
    ∙ (λ i. with_content (ranged_frame (own i) (whole i) sized) (ranged_bytes (whole i) (blob_content there.0))) in
    lists-once w key list lists none name (IsTold (reply_to_one w get)) there.0 there.1
    (subst (λ (r : Reply). IsTold r (shown_part sized)) (sym got) (told-get sized (blob_content there.0)))

-- ---- what is written

-- readers see what an accepted write leaves of a blob, with the number and the moment of its change
written_part : (w : World (List ℕ)) (key : Key) (name : List ℕ) (o : Op) (write : Timed) → leaves_blob o ≡ true → IsAsk write.request.ask → IsOn o key name write.request
    → (reply_to_one w write).rule ≡ None
    → (c : Committed (List ℕ)) × ((blob_in (part_at (world_after_one w write) key) name).committed ≡ Some c) × (c.etag ≡ (part_at w key).count + 1) × (c.made ≡ write.moment)
written_part w key name op.PutBlob write leaves fits on none =
    let keeps = kept-put write.request key name fits on in
    (_, committed-put w key name keeps.0 write on keeps.1 none, refl, refl)
written_part w key name op.PutBlockList write leaves fits on none =
    let keeps = kept-list write.request key name fits on in
    (_, committed-list w key name write on none keeps.0 keeps.1, refl, refl)
written_part w key name op.SetMetadata write leaves fits on none = (_, committed-set w key name write on none, refl, refl)
written_part w key name other write leaves fits on none = cc

-- after a write that is accepted, a list shows the number and the moment of its change
pub listed-written : (w : World (List ℕ)) (key : Key) (name : List ℕ) (o : Op) (write : Timed) → leaves_blob o ≡ true → IsAsk write.request.ask → IsOn o key name write.request
    → (reply_to_one w write).rule ≡ None → (list : Timed) → ListsNames key list.request → (reply_to_one (world_after_one w write) list).rule ≡ None
    → ListsOnce list.request name (reply_to_one (world_after_one w write) list) (λ shown. (shown.etag ≡ (part_at w key).count + 1) × (shown.made ≡ write.moment))
listed-written w key name o write leaves fits on free list lists none =
    let there = written_part w key name o write leaves fits on free in
    lists-once (world_after_one w write) key list lists none name (λ shown. (shown.etag ≡ (part_at w key).count + 1) × (shown.made ≡ write.moment)) there.0 there.1 (there.2, there.3)

-- after an accepted Delete Blob no page has its name
pub listed-deleted : (w : World (List ℕ)) (key : Key) (name : List ℕ) (delete : Timed) → IsOn op.DeleteBlob key name delete.request → (reply_to_one w delete).rule ≡ None
    → (list : Timed) → ListsNames key list.request → (reply_to_one (world_after_one w delete) list).rule ≡ None
    → ListsNever list.request name (reply_to_one (world_after_one w delete) list)
listed-deleted w key name delete deletes free list lists none = lists-never (world_after_one w delete) key list lists none name (committed-deleted w key name delete deletes free)

-- a page of containers shows each container of the account that it reaches before the bound
pub listed-container : (w : World (List ℕ)) (name : List ℕ) (list : Timed) → IsAsk list.request.ask → list.request.ask.op ≡ op.ListContainers → (reply_to_one w list).rule ≡ None
    → is_under list.bound (key_of list.request.ask.key.account name) ≡ true
    → ListsContainer list.request list.bound name (part_at w (key_of list.request.ask.key.account name)) (reply_to_one w list)
listed-container w name list fits lists none under =
    let account : List ℕ = list.request.ask.key.account in
    let asked : Page = page_asked list.request in
    let listed : reply_to_one w list ≡ containers_told asked (page_of_containers account asked list.bound w) =
    reply-admitted list.keys w list.request list.moment list.bound (reply-unrefused list.keys w list.request list.moment list.bound none)
    ∙ answer-listing list.request fits lists list.keys w list.moment list.bound in
    let before = before_bound list.bound (key_of account name) under in record {
      page = page_of_containers account asked list.bound w;
      body = ap (λ (r : Reply). r.body) listed;
      told = ap (λ (r : Reply). r.length) listed ∙ sym (ap (λ (r : Reply). length r.body) listed);
      marked = containers-next account asked list.bound w name before;
      full = containers_full account asked list.bound w;
      once = λ reaches. container_reached account asked list.bound w name before reaches;
    }
