-- What was written last is read, whatever came between that did not write it again.
use Rattle.std.proofs.Common.{◌≡◌, ◌⊎◌, inl, inr, ℕ, true, List, ◌∷◌, ◌++◌, Option, Some, None, refl, sym, ap, ◌∙◌, map, unwrap_or}
use Rattle.std.proofs.lemmas.List.{append-nil}
use Rattle.std.specs.Prelude.{is_some}
use Rattle.std.specs.List.{flat_map}
use Rattle.std.specs.Option.{option_map, option_and_then}
use Rattle.stamp_values.specs.declared.condition.ByteRange.{ByteRange}
use Rattle.stamp_values.specs.declared.key.Key.{Key}
use Rattle.stamp_values.specs.declared.meta.Meta.{Meta}
use Rattle.stamp_values.specs.declared.op.Op.{Op}
use Rattle.stamp_values.specs.declared.op.Op.TheVariants as op
use Rattle.stamp_types.specs.declared.args.Kept.{Kept}
use Rattle.stamp_types.specs.declared.committed.Block.{Block}
use Rattle.stamp_types.specs.declared.committed.Committed.{Committed}
use Rattle.stamp_types.specs.declared.header.Header.{Header}
use Rattle.stamp_types.specs.declared.header.Header.TheVariants as header
use Rattle.stamp_types.specs.declared.props.Props.{Props}
use Rattle.stamp_types.specs.declared.reply.Reply.{Reply}
use Rattle.stamp_types.specs.declared.standing.Standing.{Standing}
use Rattle.stamp_types.specs.EffectKinds.{blocks_and_props}
use Rattle.stamp_types.specs.Pieces.{held, cut}
use Rattle.stamp_types.specs.PropsFields.{kept_fields}
use Rattle.stamp_types.specs.Replies.{denied}
use Rattle.stamp_types.specs.Requests.{Asked}
use Rattle.stamp_types.specs.World.{Blob, Part, World, no_blob, blob_in, committed_value, part_at}
use Rattle.stamp_types.proofs.Cuts.{held-cut}
use Rattle.stamp_types.proofs.EffectLemmas.{get-remove_same}
use Rattle.stamp_types.proofs.WorldLemmas.{blob_in-part_value}
use Rattle.access_rules.specs.declared.keys.Keys.{Keys}
use Rattle.range_rows.specs.NamedBlobs.{target_blob}
use Rattle.range_rows.specs.Frames.{blob_read, date_headers, empty_blob, kept_lines, ranged_frame, standing_read}
use Rattle.range_rows.specs.SentContent.{blob_content, byte_count, ranged_bytes, sizes, with_content}
use Rattle.range_rows.specs.ObjectRules.{cause_refusal, named_blob, needs_blob, needs_container}
use Rattle.range_rows.specs.ObjectRules.Cause.{BlobIsAbsent, ContainerIsAbsent}
use Rattle.range_rows.specs.Readings.{wanted_blocks}
use Rattle.range_rows.specs.RequestChanges.{put_props}
use Rattle.stamp_model.specs.Blocks.{reads_committed, wanted_bytes}
use Rattle.stamp_model.specs.Kept.{GivesNoContent, LeavesContent, LeavesSeen, SparesAbsence, SparesContent, SparesSeen}
use Rattle.stamp_model.specs.Responses.{reply, rows_answer}
use Rattle.stamp_model.specs.Runs.{Timed, IsAdmitted, IsOn, world_after_one, world_after_all, reply_to_one}
use Rattle.stamp_model.proofs.BlockLemmas.{committed-list, content-list, list_there}
use Rattle.stamp_model.proofs.KeptLemmas.{committed-left, content-left, unseen-left, left-in_turn, so-in_turn}
use Rattle.stamp_model.proofs.ObjectLemmas.{object_refusal-container}
use Rattle.stamp_model.proofs.ReadLemmas.{read_before, reply-read, reply-refused}
use Rattle.stamp_model.proofs.SeenLemmas.{answers_alike, lists_nothing, writes_nothing}
use Rattle.stamp_model.proofs.WrittenLemmas.{committed-put, committed-set, headers-set, part-deleted, put_there, reply-absent_blob, set_there}
use Rattle.stamp_model.specs.Overrides.{overrides_of}

-- if an option is mapped to what a value is mapped to, it has a value that is mapped to the same
from_mapped : {X Y : Type 0} (g : X → Y) (o : Option X) (y : Y) → option_map g o ≡ Some y → (x : X) × (o ≡ Some x) × (g x ≡ y)
from_mapped g None y h = cc
from_mapped g (Some x) y h = let same : g x ≡ y = cc in (x, refl, same)

-- the content of blocks, joined
abbrev joined : List (Block (List ℕ)) → List ℕ
joined blocks = flat_map (λ b. b.content) blocks

-- ---- a blob whose content stayed

-- In a later world readers see a blob with the content and the kept headers of `c`.
module _ (later : World (List ℕ)) (key : Key) (name : List ℕ) (c : Committed (List ℕ))
    (left : option_map blocks_and_props (blob_in (part_at later key) name).committed ≡ Some (blocks_and_props c)) where
  still : (d : Committed (List ℕ)) × ((blob_in (part_at later key) name).committed ≡ Some d) × (blocks_and_props d ≡ blocks_and_props c)
  still = from_mapped blocks_and_props (blob_in (part_at later key) name).committed (blocks_and_props c) left

  module _ (keys : Option Keys) (get : Asked) (t : ℕ) (bound : Option Key) (gets : IsOn op.GetBlob key name get) (whole : get.ask.args.range ≡ None) (free : (reply keys later get t bound).rule ≡ None) where
    read : reply keys later get t bound ≡ with_content (ranged_frame (overrides_of get.ask) None (committed_value byte_count still.0)) (ranged_bytes None (blob_content still.0))
    read =
        reply-read keys later get t bound free op.GetBlob key name still.0 refl refl gets still.1
        ∙ ap (λ (r : Option ByteRange). with_content (ranged_frame (overrides_of get.ask) r (committed_value byte_count still.0)) (ranged_bytes r (blob_content still.0))) whole

    pub body-later : (reply keys later get t bound).body ≡ joined c.blocks
    body-later = ap (λ (r : Reply). r.body) read ∙ ap (λ (kept : List (Block (List ℕ)) × Props). joined kept.0) still.2

    pub headers-later : (metadata : List Meta) × (etag : ℕ) × (made : ℕ) × ((reply keys later get t bound).headers
        ≡ kept_lines (overrides_of get.ask) c.props ++ map header.Meta metadata ++ header.BlobType ∷ header.AcceptRanges ∷ date_headers etag made)
    headers-later = (
      still.0.metadata,
      still.0.etag,
      still.0.made,
      ap (λ (r : Reply). r.headers) read
          ∙ ap (λ (kept : List (Block (List ℕ)) × Props). kept_lines (overrides_of get.ask) kept.1 ++ map header.Meta still.0.metadata ++ header.BlobType ∷ header.AcceptRanges ∷ date_headers still.0.etag still.0.made) still.2,
    )

module _ (w : World (List ℕ)) (key : Key) (name : List ℕ) (c : Committed (List ℕ)) (seen : (blob_in (part_at w key) name).committed ≡ Some c) where
  -- requests in turn leave the content, if each of them leaves it or is refused
  content_after : (middle : List Timed) → SparesContent key name w middle
      → option_map blocks_and_props (blob_in (part_at (world_after_all w middle) key) name).committed ≡ Some (blocks_and_props c)
  content_after middle all =
      left-in_turn key (λ q. LeavesContent key name q) (λ p. option_map blocks_and_props (blob_in p name).committed)
      (λ v r leaves. content-left r.keys v r.request r.moment key name leaves) w middle all
      ∙ ap (option_map blocks_and_props) seen

-- ---- Put Blob, Put Block List and Set Blob Metadata

module _ (w : World (List ℕ)) (key : Key) (name : List ℕ) (kept : Kept) (put : Timed)
    (puts : IsOn op.PutBlob key name put.request) (keeps : put.request.ask.args.kept ≡ Some kept) (none : (reply_to_one w put).rule ≡ None) where
  abbrev stored : Committed (List ℕ)
  stored = put_there w key name kept put puts keeps none

  abbrev stored_seen : (blob_in (part_at (world_after_one w put) key) name).committed ≡ Some stored
  stored_seen = committed-put w key name kept put puts keeps none

  module _ (middle : List Timed) (all : SparesContent key name (world_after_one w put) middle)
      (get : Timed) (gets : IsOn op.GetBlob key name get.request) (whole : get.request.ask.args.range ≡ None)
      (free : (reply_to_one (world_after_all w (put ∷ middle)) get).rule ≡ None) where
    pub body-put_last : (reply_to_one (world_after_all w (put ∷ middle)) get).body ≡ put.request.body
    body-put_last =
        body-later (world_after_all w (put ∷ middle)) key name stored (content_after (world_after_one w put) key name stored stored_seen middle all) get.keys get.request get.moment get.bound gets whole free
        ∙ append-nil (held (cut put.request.body)) ∙ held-cut put.request.body

    pub headers-put_last : (metadata : List Meta) × (etag : ℕ) × (made : ℕ) × ((reply_to_one (world_after_all w (put ∷ middle)) get).headers
        ≡ kept_lines (overrides_of get.request.ask) (put_props put.request kept) ++ map header.Meta metadata ++ header.BlobType ∷ header.AcceptRanges ∷ date_headers etag made)
    headers-put_last =
        headers-later (world_after_all w (put ∷ middle)) key name stored (content_after (world_after_one w put) key name stored stored_seen middle all) get.keys get.request get.moment get.bound gets whole free

module _ (w : World (List ℕ)) (key : Key) (name : List ℕ) (list : Timed)
    (lists : IsOn op.PutBlockList key name list.request) (none : (reply_to_one w list).rule ≡ None) (kept : Kept) (keeps : list.request.ask.args.kept ≡ Some kept) where
  abbrev listed : Committed (List ℕ)
  listed = list_there w key name list lists none kept keeps

  abbrev listed_seen : (blob_in (part_at (world_after_one w list) key) name).committed ≡ Some listed
  listed_seen = committed-list w key name list lists none kept keeps

  module _ (middle : List Timed) (all : SparesContent key name (world_after_one w list) middle)
      (get : Timed) (gets : IsOn op.GetBlob key name get.request) (whole : get.request.ask.args.range ≡ None)
      (free : (reply_to_one (world_after_all w (list ∷ middle)) get).rule ≡ None) where
    pub body-list_last : (reply_to_one (world_after_all w (list ∷ middle)) get).body ≡ wanted_bytes (blob_in (part_at w key) name) (wanted_blocks list.request)
    body-list_last =
        body-later (world_after_all w (list ∷ middle)) key name listed (content_after (world_after_one w list) key name listed listed_seen middle all) get.keys get.request get.moment get.bound gets whole free
        ∙ content-list w key name list lists none kept keeps

    pub headers-list_last : (metadata : List Meta) × (etag : ℕ) × (made : ℕ) × ((reply_to_one (world_after_all w (list ∷ middle)) get).headers
        ≡ kept_lines (overrides_of get.request.ask) (kept_fields kept None) ++ map header.Meta metadata ++ header.BlobType ∷ header.AcceptRanges ∷ date_headers etag made)
    headers-list_last =
        headers-later (world_after_all w (list ∷ middle)) key name listed (content_after (world_after_one w list) key name listed listed_seen middle all) get.keys get.request get.moment get.bound gets whole free

-- each later request leaves what readers see of the blob, or is refused
seen_later : (w : World (List ℕ)) (key : Key) (name : List ℕ) (middle : List Timed) → SparesSeen key name w middle
    → (blob_in (part_at (world_after_all w middle) key) name).committed ≡ (blob_in (part_at w key) name).committed
seen_later w key name middle all =
    left-in_turn key (λ q. LeavesSeen key name q) (λ p. (blob_in p name).committed) (λ v r leaves. committed-left r.keys v r.request r.moment key name leaves) w middle all

module _ (w : World (List ℕ)) (key : Key) (name : List ℕ) (set : Timed)
    (sets : IsOn op.SetMetadata key name set.request) (none : (reply_to_one w set).rule ≡ None)
    (middle : List Timed) (all : SparesSeen key name (world_after_one w set) middle) where
  pub headers-set_last : (get : Timed) → IsOn op.GetMetadata key name get.request → (reply_to_one (world_after_all w (set ∷ middle)) get).rule ≡ None
      → (reply_to_one (world_after_all w (set ∷ middle)) get).headers ≡ map header.Meta set.request.ask.args.metadata ++ (reply_to_one w set).headers
  headers-set_last get gets free =
      ap (λ (r : Reply). r.headers)
      (reply-read get.keys (world_after_all w (set ∷ middle)) get.request get.moment get.bound free op.GetMetadata key name (set_there w key name set sets none) refl refl gets
      (seen_later (world_after_one w set) key name middle all ∙ committed-set w key name set sets none))
      ∙ ap (λ (hs : List Header). map header.Meta set.request.ask.args.metadata ++ hs) (sym (headers-set w key name set sets none))

-- ---- a later read

-- Two containers in which readers see the same of the blob that a request names.
module _ (p r : Part (List ℕ)) (q : Asked) (name : List ℕ) (on : q.ask.blob ≡ Some name) (same : (blob_in p name).committed ≡ (blob_in r name).committed) where
  same_size : (blob_in (sizes p) name).committed ≡ (blob_in (sizes r) name).committed
  same_size =
      ap (λ (b : Blob ℕ). b.committed) (blob_in-part_value byte_count p name) ∙ ap (option_map (committed_value byte_count)) same
      ∙ sym (ap (λ (b : Blob ℕ). b.committed) (blob_in-part_value byte_count r name))

  same_named : {C : Type 0} (x y : Part C) → (blob_in x name).committed ≡ (blob_in y name).committed → named_blob x q.ask ≡ named_blob y q.ask
  same_named {C} x y h =
      ap (λ (o : Option (List ℕ)). option_and_then (λ n. (blob_in x n).committed) o) on ∙ h
      ∙ sym (ap (λ (o : Option (List ℕ)). option_and_then (λ n. (blob_in y n).committed) o) on)

  same_target : (target_blob (sizes p) q.ask).committed ≡ (target_blob (sizes r) q.ask).committed
  same_target =
      ap (λ (o : Option (List ℕ)). (unwrap_or (option_map (blob_in (sizes p)) o) no_blob).committed) on ∙ same_size
      ∙ sym (ap (λ (o : Option (List ℕ)). (unwrap_or (option_map (blob_in (sizes r)) o) no_blob).committed) on)

  pub reply_of-alike : reads_committed q.ask.op q.ask.args.kinds ≡ true → rows_answer p q ≡ rows_answer r q
  reply_of-alike reads =
      answers_alike q (standing_read (sizes p)) (standing_read (sizes r)) (blob_read (sizes p) q.ask) (blob_read (sizes r) q.ask) (target_blob (sizes p) q.ask) (target_blob (sizes r) q.ask)
      (blob_read p q.ask) (blob_read r q.ask)
      (ap (λ (o : Option (Committed ℕ)). unwrap_or o empty_blob) (same_named (sizes p) (sizes r) same_size)) same_target
      (ap (λ (o : Option (Committed (List ℕ))). unwrap_or o empty_blob) (same_named p r same)) q.ask.op reads

-- a later read of what is committed is answered as it would have been answered at once
pub reply-later : (w : World (List ℕ)) (name : List ℕ) (middle : List Timed) (read : Timed) → read.request.ask.blob ≡ Some name
    → reads_committed read.request.ask.op read.request.ask.args.kinds ≡ true → SparesSeen read.request.ask.key name w middle
    → (reply_to_one w read).rule ≡ None → (reply_to_one (world_after_all w middle) read).rule ≡ None
    → reply_to_one (world_after_all w middle) read ≡ reply_to_one w read
reply-later w name middle read on reads all free later_free =
    let unlisted = lists_nothing read.request.ask.op read.request.ask.args.kinds reads in
    let unwritten = writes_nothing read.request.ask.op read.request.ask.args.kinds reads in
    read_before read.keys (world_after_all w middle) read.request read.moment read.bound later_free read.request.ask.op refl unlisted unwritten
    ∙ reply_of-alike (part_at (world_after_all w middle) read.request.ask.key) (part_at w read.request.ask.key) read.request name on
    (seen_later w read.request.ask.key name middle all) reads
    ∙ sym (read_before read.keys w read.request read.moment read.bound free read.request.ask.op refl unlisted unwritten)

-- ---- Delete Blob

container_if : (o : Op) → needs_blob o ≡ true → needs_container o ≡ true
container_if op.ListContainers needs = cc
container_if op.CreateContainer needs = cc
container_if other needs = refl

-- In a later world readers see no blob of this name.
module _ (after : World (List ℕ)) (key : Key) (name : List ℕ) (unseen : (blob_in (part_at after key) name).committed ≡ None) (read : Timed)
    (at : read.request.ask.key ≡ key) (on : read.request.ask.blob ≡ Some name) (needs : needs_blob read.request.ask.op ≡ true) (admits : IsAdmitted after read) where
  -- a request that needs the blob, and that permission admits, is refused by O1 or O3
  reply-unseen : (reply_to_one after read ≡ denied (cause_refusal ContainerIsAbsent)) ⊎ (reply_to_one after read ≡ denied (cause_refusal BlobIsAbsent))
  reply-unseen = by_standing (part_at after key).standing refl
    where
      by_standing : (s : Option Standing) → (part_at after key).standing ≡ s
          → (reply_to_one after read ≡ denied (cause_refusal ContainerIsAbsent)) ⊎ (reply_to_one after read ≡ denied (cause_refusal BlobIsAbsent))
      by_standing None is =
          inl (reply-refused read.keys after read.request read.moment read.bound (cause_refusal ContainerIsAbsent) admits
          (object_refusal-container (part_at after read.request.ask.key) read.request (container_if read.request.ask.op needs) (ap (λ (k : Key). (part_at after k).standing) at ∙ is)))
      by_standing (Some s) is =
          inr (reply-absent_blob after key read at needs admits (ap (λ (o : Option Standing). is_some o) is)
          (ap (λ (o : Option (List ℕ)). option_and_then (λ n. (blob_in (part_at after key) n).committed) o) on ∙ unseen))

module _ (w : World (List ℕ)) (key : Key) (name : List ℕ) (delete : Timed)
    (deletes : IsOn op.DeleteBlob key name delete.request) (none : (reply_to_one w delete).rule ≡ None) where
  unseen_at_once : (blob_in (part_at (world_after_one w delete) key) name).committed ≡ None
  unseen_at_once =
      ap (λ (p : Part (List ℕ)). (blob_in p name).committed) (part-deleted w key name delete deletes none)
      ∙ ap (λ (o : Option (Blob (List ℕ))). (unwrap_or o no_blob).committed) (get-remove_same (part_at w key).blobs name)

  module _ (middle : List Timed) (all : SparesAbsence key name (world_after_one w delete) middle) where
    abbrev after_all : World (List ℕ)
    after_all = world_after_all w (delete ∷ middle)

    unseen_later : (blob_in (part_at after_all key) name).committed ≡ None
    unseen_later =
        so-in_turn key (λ q. GivesNoContent key name q) (λ p. (blob_in p name).committed ≡ None) (λ v r gives before. unseen-left r.keys v r.request r.moment key name gives before)
        (world_after_one w delete) middle all unseen_at_once

    pub reply-deleted_last : (read : Timed) → read.request.ask.key ≡ key → read.request.ask.blob ≡ Some name → needs_blob read.request.ask.op ≡ true → IsAdmitted after_all read
        → (reply_to_one after_all read ≡ denied (cause_refusal ContainerIsAbsent)) ⊎ (reply_to_one after_all read ≡ denied (cause_refusal BlobIsAbsent))
    reply-deleted_last read at on needs admits = reply-unseen after_all key name unseen_later read at on needs admits
