-- What is written is read by the request that comes next.
use Rattle.std.proofs.Common.{◌≡◌, ℕ, ◌+◌, true, List, ◌∷◌, ◌++◌, length, arith, Option, Some, None, refl, sym, ap, ◌∙◌, map, unwrap_or}
use Rattle.std.proofs.lemmas.List.{append-nil}
use Rattle.std.specs.Prelude.{is_some}
use Rattle.std.specs.Option.{option_map, option_and_then}
use Rattle.md5.specs.Md5.{md5}
use Rattle.stamp_values.specs.Operations.{keeps_headers}
use Rattle.stamp_values.specs.declared.condition.ByteRange.{ByteRange}
use Rattle.stamp_values.specs.declared.key.Key.{Key}
use Rattle.stamp_values.specs.declared.op.Op.{Op}
use Rattle.stamp_values.specs.declared.op.Op.TheVariants as op
use Rattle.stamp_types.specs.declared.act.Act.TheVariants as act
use Rattle.stamp_types.specs.declared.args.Kept.{Kept}
use Rattle.stamp_types.specs.declared.committed.Committed.{Committed}
use Rattle.stamp_types.specs.declared.header.Header.{Header}
use Rattle.stamp_types.specs.declared.header.Header.TheVariants as header
use Rattle.stamp_types.specs.declared.reply.Reply.{Reply}
use Rattle.stamp_types.specs.declared.standing.Standing.{Standing}
use Rattle.stamp_types.specs.Pieces.{held, cut}
use Rattle.stamp_types.specs.Replies.{denied}
use Rattle.stamp_types.specs.Requests.{Asked, IsAsk}
use Rattle.stamp_types.specs.World.{Blob, Part, World, no_blob, blob_in, part_at, committed_value, committed_with_metadata, standing_with_metadata, changed}
use Rattle.stamp_types.proofs.Cuts.{held-cut}
use Rattle.stamp_types.proofs.EffectLemmas.{blob_in-set_metadata, get-remove_same}
use Rattle.range_rows.specs.Frames.{date_headers, empty_standing, get_frame, kept_lines, metadata_headers, ranged_frame}
use Rattle.range_rows.specs.SentContent.{blob_content, byte_count, ranged_bytes, sizes, with_content}
use Rattle.range_rows.specs.ObjectRules.{needs_blob, needs_container, named_blob, cause_refusal}
use Rattle.range_rows.specs.ObjectRules.Cause.{ContainerIsAbsent, BlobIsAbsent}
use Rattle.range_rows.specs.RequestChanges.{create_container, delete_blob, put_blob, put_props, set_container_metadata, set_metadata, act_by}
use Rattle.range_rows.proofs.AnswerLemmas.{put_committed, blob_in-put}
use Rattle.stamp_model.specs.Runs.{Timed, IsAdmitted, IsIn, IsOn, world_after_one, reply_to_one}
use Rattle.stamp_model.proofs.ObjectLemmas.{container_needed, blob_needed, object_refusal-container, object_refusal-blob, named_blob-empty}
use Rattle.stamp_model.proofs.ReadLemmas.{part_at-act, reply-write, reply-read, reply-write_in, reply-read_in, reply-refused}
use Rattle.stamp_model.proofs.ReplyLemmas.{reply-unrefused, unrefused}
use Rattle.stamp_model.specs.Overrides.{overrides_of}

none_before : (bytes : List ℕ) → 0 + length bytes ≡ length bytes
none_before bytes = omega arith

-- a value that exists
pub some_of : {X : Type 0} (o : Option X) → is_some o ≡ true → (x : X) × (o ≡ Some x)
some_of None there = cc
some_of (Some x) there = (x, refl)

-- ---- Put Blob

module _ (w : World (List ℕ)) (key : Key) (name : List ℕ) (kept : Kept) (put : Timed)
    (puts : IsOn op.PutBlob key name put.request) (keeps : put.request.ask.args.kept ≡ Some kept) (none : (reply_to_one w put).rule ≡ None) where
  abbrev pub put_there : Committed (List ℕ)
  put_there = put_committed held ((part_at w key).count + 1) (put_blob put.request put.moment name kept)

  -- a Put Blob makes this act, whatever the container is
  pub put_act : (z : Part ℕ) → act_by put.request.ask.op z put.request put.moment ≡ Some (act.PutBlob (put_blob put.request put.moment name kept))
  put_act z =
      ap (λ (o : Op). act_by o z put.request put.moment) puts.op
      ∙ (λ i. option_and_then (λ name. option_map (λ kept. act.PutBlob (put_blob put.request put.moment name kept)) (keeps i)) (puts.blob i))

  -- after a Put Blob readers see what it put
  pub committed-put : (blob_in (part_at (world_after_one w put) key) name).committed ≡ Some put_there
  committed-put =
      ap (λ (p : Part (List ℕ)). (blob_in p name).committed)
      (part_at-act put.keys w put.request put.moment put.bound key (act.PutBlob (put_blob put.request put.moment name kept)) puts.container none put_act)
      ∙ blob_in-put held (put_blob put.request put.moment name kept) (part_at w key)

  -- the reply to a Put Blob has the ETag and the moment of its change
  pub headers-put : (reply_to_one w put).headers ≡ header.ContentMd5 (md5 put.request.body) ∷ date_headers ((part_at w key).count + 1) put.moment
  headers-put = ap (λ (r : Reply). r.headers) (reply-write put.keys w put.request put.moment put.bound none op.PutBlob key name put_there refl puts committed-put)

  module _ (get : Timed) (gets : IsOn op.GetBlob key name get.request) (whole : get.request.ask.args.range ≡ None)
      (free : (reply_to_one (world_after_one w put) get).rule ≡ None) where
    read : reply_to_one (world_after_one w put) get ≡ with_content (get_frame (overrides_of get.request.ask) (committed_value byte_count put_there)) (blob_content put_there)
    read =
        reply-read get.keys (world_after_one w put) get.request get.moment get.bound free op.GetBlob key name put_there refl refl gets committed-put
        ∙ ap (λ (r : Option ByteRange). with_content (ranged_frame (overrides_of get.request.ask) r (committed_value byte_count put_there)) (ranged_bytes r (blob_content put_there))) whole

    -- the reply to a Get Blob after the Put Blob has the same ETag and the same moment
    pub headers-get : (reply_to_one (world_after_one w put) get).headers
        ≡ kept_lines (overrides_of get.request.ask) (put_props put.request kept) ++ map header.Meta put.request.ask.args.metadata
        ++ header.BlobType ∷ header.AcceptRanges ∷ date_headers ((part_at w key).count + 1) put.moment
    headers-get = ap (λ (r : Reply). r.headers) read

    -- the reply to a Get Blob after the Put Blob has the body that was put
    pub body-get : (reply_to_one (world_after_one w put) get).body ≡ put.request.body
    body-get = ap (λ (r : Reply). r.body) read ∙ append-nil (held (cut put.request.body)) ∙ held-cut put.request.body

  -- the reply to a Get Blob Properties after the Put Blob has the length of the body that was put
  pub length-properties : (get : Timed) → IsOn op.BlobProperties key name get.request → (reply_to_one (world_after_one w put) get).rule ≡ None
      → (reply_to_one (world_after_one w put) get).length ≡ length put.request.body
  length-properties get gets free =
      ap (λ (r : Reply). r.length) (reply-read get.keys (world_after_one w put) get.request get.moment get.bound free op.BlobProperties key name put_there refl refl gets committed-put)
      ∙ none_before (held (cut put.request.body))
      ∙ ap (λ (bytes : List ℕ). length bytes) (held-cut put.request.body)

-- a Put Blob that fits its operation keeps headers
pub kept-put : (q : Asked) (key : Key) (name : List ℕ) → IsAsk q.ask → IsOn op.PutBlob key name q → (kept : Kept) × (q.ask.args.kept ≡ Some kept)
kept-put q key name fits puts = some_of q.ask.args.kept (fits.own.kept ∙ ap keeps_headers puts.op)

-- ---- Set Blob Metadata

module _ (w : World (List ℕ)) (key : Key) (name : List ℕ) (set : Timed)
    (sets : IsOn op.SetMetadata key name set.request) (none : (reply_to_one w set).rule ≡ None) where
  -- readers see the blob of an accepted Set Blob Metadata
  pub blob_before : (c : Committed (List ℕ)) × ((blob_in (part_at w key) name).committed ≡ Some c)
  blob_before =
      some_of (blob_in (part_at w key) name).committed
      (sym (λ i. is_some (option_and_then (λ name. (blob_in (part_at w (sets.container i)) name).committed) (sets.blob i)))
      ∙ blob_needed (part_at w set.request.ask.key) set.request
      (unrefused set.keys (sizes (part_at w set.request.ask.key)) set.request set.moment (reply-unrefused set.keys w set.request set.moment set.bound none)).unopposed (ap needs_blob sets.op))

  abbrev pub set_there : Committed (List ℕ)
  set_there = committed_with_metadata ((part_at w key).count + 1) (set_metadata set.request set.moment name) blob_before.0

  set_act : (z : Part ℕ) → act_by set.request.ask.op z set.request set.moment ≡ Some (act.SetMetadata (set_metadata set.request set.moment name))
  set_act z =
      ap (λ (o : Op). act_by o z set.request set.moment) sets.op
      ∙ ap (λ (blob : Option (List ℕ)). option_map (λ name. act.SetMetadata (set_metadata set.request set.moment name)) blob) sets.blob

  -- after a Set Blob Metadata readers see the blob with the new metadata
  pub committed-set : (blob_in (part_at (world_after_one w set) key) name).committed ≡ Some set_there
  committed-set =
      ap (λ (p : Part (List ℕ)). (blob_in p name).committed)
      (part_at-act set.keys w set.request set.moment set.bound key (act.SetMetadata (set_metadata set.request set.moment name)) sets.container none set_act)
      ∙ ap (λ (b : Blob (List ℕ)). b.committed) (blob_in-set_metadata held (part_at w key) (set_metadata set.request set.moment name))
      ∙ ap (λ (c : Option (Committed (List ℕ))). option_map (committed_with_metadata ((part_at w key).count + 1) (set_metadata set.request set.moment name)) c) blob_before.1

  -- the reply to a Set Blob Metadata has the ETag and the moment of its change
  pub headers-set : (reply_to_one w set).headers ≡ date_headers ((part_at w key).count + 1) set.moment
  headers-set = ap (λ (r : Reply). r.headers) (reply-write set.keys w set.request set.moment set.bound none op.SetMetadata key name set_there refl sets committed-set)

  -- the reply to a Get Blob Metadata after it has the metadata that were set, and the same ETag and moment
  pub headers-get_metadata : (get : Timed) → IsOn op.GetMetadata key name get.request → (reply_to_one (world_after_one w set) get).rule ≡ None
      → (reply_to_one (world_after_one w set) get).headers ≡ map header.Meta set.request.ask.args.metadata ++ (reply_to_one w set).headers
  headers-get_metadata get gets free =
      ap (λ (r : Reply). r.headers) (reply-read get.keys (world_after_one w set) get.request get.moment get.bound free op.GetMetadata key name set_there refl refl gets committed-set)
      ∙ ap (λ (hs : List Header). map header.Meta set.request.ask.args.metadata ++ hs) (sym headers-set)

-- ---- what does not exist

-- a request for a blob that readers don't see, in a container that exists, is refused by O3 if permission admits it
pub reply-absent_blob : (v : World (List ℕ)) (key : Key) (read : Timed) → read.request.ask.key ≡ key → needs_blob read.request.ask.op ≡ true → IsAdmitted v read
    → is_some (part_at v key).standing ≡ true → named_blob (part_at v key) read.request.ask ≡ None → reply_to_one v read ≡ denied (cause_refusal BlobIsAbsent)
reply-absent_blob v key read same needs admits exists unseen =
    reply-refused read.keys v read.request read.moment read.bound (cause_refusal BlobIsAbsent) admits
    (object_refusal-blob (part_at v read.request.ask.key) read.request needs
    (ap (λ (k : Key). is_some (part_at v k).standing) same ∙ exists)
    (ap (λ (k : Key). named_blob (part_at v k) read.request.ask) same ∙ unseen))

module _ (w : World (List ℕ)) (key : Key) (name : List ℕ) (delete : Timed)
    (deletes : IsOn op.DeleteBlob key name delete.request) (none : (reply_to_one w delete).rule ≡ None) where
  delete_act : (z : Part ℕ) → act_by delete.request.ask.op z delete.request delete.moment ≡ Some (act.DeleteBlob (delete_blob name))
  delete_act z =
      ap (λ (o : Op). act_by o z delete.request delete.moment) deletes.op
      ∙ ap (λ (blob : Option (List ℕ)). option_map (λ name. act.DeleteBlob (delete_blob name)) blob) deletes.blob

  -- after a Delete Blob the container is what the act makes of it
  pub part-deleted : part_at (world_after_one w delete) key ≡ changed held (act.DeleteBlob (delete_blob name)) (part_at w key)
  part-deleted = part_at-act delete.keys w delete.request delete.moment delete.bound key (act.DeleteBlob (delete_blob name)) deletes.container none delete_act

  -- the container of an accepted Delete Blob exists
  pub container_before : is_some (part_at w key).standing ≡ true
  container_before =
      sym (ap (λ (k : Key). is_some (part_at w k).standing) deletes.container)
      ∙ container_needed (part_at w delete.request.ask.key) delete.request
      (unrefused delete.keys (sizes (part_at w delete.request.ask.key)) delete.request delete.moment (reply-unrefused delete.keys w delete.request delete.moment delete.bound none)).unopposed
      (ap needs_container deletes.op)

  -- after a Delete Blob readers see no blob of its name
  pub committed-deleted : (blob_in (part_at (world_after_one w delete) key) name).committed ≡ None
  committed-deleted =
      ap (λ (p : Part (List ℕ)). (blob_in p name).committed) part-deleted
      ∙ ap (λ (o : Option (Blob (List ℕ))). (unwrap_or o no_blob).committed) (get-remove_same (part_at w key).blobs name)

  -- after a Delete Blob, each request for the blob that permission admits is refused by O3
  pub reply-deleted_blob : (read : Timed) → read.request.ask.key ≡ key → read.request.ask.blob ≡ Some name → needs_blob read.request.ask.op ≡ true
      → IsAdmitted (world_after_one w delete) read → reply_to_one (world_after_one w delete) read ≡ denied (cause_refusal BlobIsAbsent)
  reply-deleted_blob read same named needs admits =
      reply-absent_blob (world_after_one w delete) key read same needs admits
      (ap (λ (p : Part (List ℕ)). is_some p.standing) part-deleted ∙ container_before)
      (ap (λ (blob : Option (List ℕ)). option_and_then (λ name. (blob_in (part_at (world_after_one w delete) key) name).committed) blob) named
      ∙ committed-deleted)

-- ---- Delete Container

module _ (w : World (List ℕ)) (key : Key) (delete : Timed)
    (deletes : IsIn op.DeleteContainer key delete.request) (none : (reply_to_one w delete).rule ≡ None) where
  part-gone : part_at (world_after_one w delete) key ≡ changed held act.DeleteContainer (part_at w key)
  part-gone =
      part_at-act delete.keys w delete.request delete.moment delete.bound key act.DeleteContainer deletes.container none
      (λ z. ap (λ (o : Op). act_by o z delete.request delete.moment) deletes.op)

  -- after a Delete Container, each request that needs the container and that permission admits is refused by O1
  pub reply-deleted_container : (ask : Timed) → ask.request.ask.key ≡ key → needs_container ask.request.ask.op ≡ true → IsAdmitted (world_after_one w delete) ask
      → reply_to_one (world_after_one w delete) ask ≡ denied (cause_refusal ContainerIsAbsent)
  reply-deleted_container ask same needs admits =
      reply-refused ask.keys (world_after_one w delete) ask.request ask.moment ask.bound (cause_refusal ContainerIsAbsent) admits
      (object_refusal-container (part_at (world_after_one w delete) ask.request.ask.key) ask.request needs
      (ap (λ (k : Key). (part_at (world_after_one w delete) k).standing) same ∙ ap (λ (p : Part (List ℕ)). p.standing) part-gone))

  module _ (create : Timed) (creates : IsIn op.CreateContainer key create.request) (made : (reply_to_one (world_after_one w delete) create).rule ≡ None) where
    abbrev then_held : World (List ℕ)
    then_held = world_after_one (world_after_one w delete) create

    part-made : part_at then_held key ≡ changed held (act.CreateContainer (create_container create.request create.moment)) (part_at (world_after_one w delete) key)
    part-made =
        part_at-act create.keys (world_after_one w delete) create.request create.moment create.bound key (act.CreateContainer (create_container create.request create.moment)) creates.container made
        (λ z. ap (λ (o : Op). act_by o z create.request create.moment) creates.op)

    -- after a Create Container that follows it, each request for a blob that permission admits is refused by O3
    pub reply-made_again : (read : Timed) → read.request.ask.key ≡ key → needs_blob read.request.ask.op ≡ true → IsAdmitted then_held read
        → reply_to_one then_held read ≡ denied (cause_refusal BlobIsAbsent)
    reply-made_again read same needs admits =
        reply-absent_blob then_held key read same needs admits
        (ap (λ (p : Part (List ℕ)). is_some p.standing) part-made)
        (named_blob-empty (part_at then_held key) read.request
        (ap (λ (p : Part (List ℕ)). p.blobs) part-made ∙ ap (λ (p : Part (List ℕ)). p.blobs) part-gone))

-- ---- Set Container Metadata

module _ (w : World (List ℕ)) (key : Key) (set : Timed)
    (sets : IsIn op.SetContainerMetadata key set.request) (none : (reply_to_one w set).rule ≡ None) where
  container_then : (s : Standing) × ((part_at w key).standing ≡ Some s)
  container_then =
      some_of (part_at w key).standing
      (sym (ap (λ (k : Key). is_some (part_at w k).standing) sets.container)
      ∙ container_needed (part_at w set.request.ask.key) set.request
      (unrefused set.keys (sizes (part_at w set.request.ask.key)) set.request set.moment (reply-unrefused set.keys w set.request set.moment set.bound none)).unopposed
      (ap needs_container sets.op))

  abbrev set_standing : Standing
  set_standing = standing_with_metadata ((part_at w key).count + 1) (set_container_metadata set.request set.moment) container_then.0

  standing-set : (part_at (world_after_one w set) key).standing ≡ Some set_standing
  standing-set =
      ap (λ (p : Part (List ℕ)). p.standing)
      (part_at-act set.keys w set.request set.moment set.bound key (act.SetContainerMetadata (set_container_metadata set.request set.moment)) sets.container none
      (λ z. ap (λ (o : Op). act_by o z set.request set.moment) sets.op))
      ∙ ap (λ (o : Option Standing). option_map (standing_with_metadata ((part_at w key).count + 1) (set_container_metadata set.request set.moment)) o) container_then.1

  -- the reply to a Set Container Metadata has the ETag and the moment of its change
  pub headers-set_container : (reply_to_one w set).headers ≡ date_headers ((part_at w key).count + 1) set.moment
  headers-set_container =
      ap (λ (r : Reply). r.headers) (reply-write_in set.keys w set.request set.moment set.bound none op.SetContainerMetadata key refl sets)
      ∙ ap (λ (o : Option Standing). date_headers (unwrap_or o empty_standing).etag (unwrap_or o empty_standing).made) standing-set

  -- the reply to a Get Container Properties after it has the metadata that were set, and the same ETag and moment
  pub headers-properties : (get : Timed) → IsIn op.ContainerProperties key get.request → (reply_to_one (world_after_one w set) get).rule ≡ None
      → (reply_to_one (world_after_one w set) get).headers ≡ map header.Meta set.request.ask.args.metadata ++ (reply_to_one w set).headers
  headers-properties get gets free =
      ap (λ (r : Reply). r.headers) (reply-read_in get.keys (world_after_one w set) get.request get.moment get.bound free op.ContainerProperties key refl refl gets)
      ∙ ap (λ (o : Option Standing). metadata_headers (unwrap_or o empty_standing).metadata (unwrap_or o empty_standing).etag (unwrap_or o empty_standing).made) standing-set
      ∙ ap (λ (hs : List Header). map header.Meta set.request.ask.args.metadata ++ hs) (sym headers-set_container)
