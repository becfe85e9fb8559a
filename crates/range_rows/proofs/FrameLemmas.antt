-- Frames and spans of the answers to allowed requests, by their operations.
use Rattle.std.proofs.Common.{◌≡◌, ◌+◌, ℕ, true, false, List, [], Option, Some, None, refl, sym, ap, ◌∙◌, unwrap_or}
use Rattle.std.specs.Prelude.{IsSome}
use Rattle.std.specs.Option.{option_map, option_and_then}
use Rattle.md5.specs.Md5.{md5}
use Rattle.stamp_values.specs.Operations.{writes, names_blob, keeps_headers}
use Rattle.stamp_values.specs.declared.condition.ByteRange.{ByteRange}
use Rattle.stamp_values.specs.declared.op.Op.{Op}
use Rattle.stamp_values.specs.declared.op.Op.TheVariants as op
use Rattle.stamp_types.specs.declared.act.Act.{Act}
use Rattle.stamp_types.specs.declared.act.Act.TheVariants as act
use Rattle.stamp_types.specs.declared.args.Kept.{Kept}
use Rattle.stamp_types.specs.declared.committed.Committed.{Committed}
use Rattle.stamp_types.specs.declared.piece.Piece.{Piece}
use Rattle.stamp_types.specs.declared.reply.Reply.{Reply}
use Rattle.stamp_types.specs.declared.standing.Standing.{Standing}
use Rattle.stamp_types.specs.declared.status.Status.TheVariants as status
use Rattle.stamp_types.specs.Pieces.{pieces_len}
use Rattle.stamp_types.specs.Requests.{Asked, IsRequest}
use Rattle.stamp_types.specs.World.{Blob, Part, blob_in, blob_value, committed_value, committed_with_metadata, no_blob, part_value, same_pieces, standing_with_acl, standing_with_metadata}
use Rattle.stamp_types.proofs.EffectLemmas.{blob_in-set_metadata}
use Rattle.range_rows.specs.NamedBlobs.{target_blob}
use Rattle.row_trees.specs.FoundParts.{sizes_found}
use Rattle.range_rows.specs.FoundParts.{pieces_found_after, sizes_found_after}
use Rattle.range_rows.specs.Frames.{acl_frame, blob_read, date_headers, empty_blob, empty_standing, frame, frame_by, get_frame, list_frame, metadata_headers, put_reply, ranged_frame, standing_read, success_reply, write_frame}
use Rattle.range_rows.specs.Replaced.{Replaced, nothing_replaced}
use Rattle.range_rows.specs.SentContent.{blob_content, ranged_spans, spans, spans_by}
use Rattle.range_rows.specs.ObjectRules.{needs_blob, needs_container, object_refusal}
use Rattle.range_rows.specs.RequestChanges.{act_by, change_of, part_after, put_blob, put_block_list, set_acl, set_container_metadata, set_metadata}
use Rattle.range_rows.proofs.Unrefused.{needed_blob, needed_container}
use Rattle.range_rows.proofs.AnswerLemmas.{blob_in-put, blob_in-put_list, named_blob-part_value}
use Rattle.range_rows.proofs.BlockLemmas.{committed-target_blob, target_blob-part_value}

-- ---- requests that write

module _ (v : Replaced) (p : Part ℕ) (q : Asked) (t : ℕ) where
  abbrev after : Option Act → Part ℕ
  after o = part_after pieces_len (option_map (λ a. record { key = q.ask.key; act = a }) o) p

  -- the frame of the operation, from the container after the operation's change
  abbrev frame_after : Op → Reply
  frame_after o = frame_by v o q (standing_read (after (act_by o p q t))) (blob_read (after (act_by o p q t)) q.ask) (target_blob (after (act_by o p q t)) q.ask)

  -- the frame of the operation, from the number and the moment of its change
  abbrev dated_frame : Op → Reply
  dated_frame o = frame_by v o q (record empty_standing { etag = p.count + 1; made = t }) (record empty_blob { etag = p.count + 1; made = t }) no_blob

  standing_with_metadata-frame : (o : Option Standing) → IsSome o
      → success_reply status.Success (date_headers (unwrap_or (option_map (standing_with_metadata (p.count + 1) (set_container_metadata q t)) o) empty_standing).etag (unwrap_or (option_map (standing_with_metadata (p.count + 1) (set_container_metadata q t)) o) empty_standing).made) 0
      ≡ dated_frame op.SetContainerMetadata
  standing_with_metadata-frame None exists = cc
  standing_with_metadata-frame (Some s) exists = refl

  standing_with_acl-frame : (o : Option Standing) → IsSome o
      → success_reply status.Success (date_headers (unwrap_or (option_map (standing_with_acl (p.count + 1) (set_acl q t)) o) empty_standing).etag (unwrap_or (option_map (standing_with_acl (p.count + 1) (set_acl q t)) o) empty_standing).made) 0
      ≡ dated_frame op.SetAcl
  standing_with_acl-frame None exists = cc
  standing_with_acl-frame (Some s) exists = refl

  abbrev put_act : Option (List ℕ) → Option Kept → Option Act
  put_act blob kept = option_and_then (λ name. option_map (λ kept. act.PutBlob (put_blob q t name kept)) kept) blob

  abbrev seen_in : Part ℕ → Option (List ℕ) → Committed ℕ
  seen_in r blob = unwrap_or (option_and_then (λ name. (blob_in r name).committed) blob) empty_blob

  put_blob-frame : (blob : Option (List ℕ)) (kept : Option Kept) → IsSome blob → IsSome kept
      → put_reply (md5 q.body) (seen_in (after (put_act blob kept)) blob).etag (seen_in (after (put_act blob kept)) blob).made ≡ dated_frame op.PutBlob
  put_blob-frame None kept named given = cc
  put_blob-frame (Some name) None named given = cc
  put_blob-frame (Some name) (Some kept) named given =
      ap (λ (o : Option (Committed ℕ)). put_reply (md5 q.body) (unwrap_or o empty_blob).etag (unwrap_or o empty_blob).made) (blob_in-put pieces_len (put_blob q t name kept) p)

  abbrev list_act : Option (List ℕ) → Option Kept → Option Act
  list_act blob kept = option_and_then (λ name. option_map (λ kept. act.PutBlockList (put_block_list (blob_in p name) q t name kept)) kept) blob

  put_block_list-frame : (blob : Option (List ℕ)) (kept : Option Kept) → IsSome blob → IsSome kept
      → put_reply (md5 q.body) (seen_in (after (list_act blob kept)) blob).etag (seen_in (after (list_act blob kept)) blob).made ≡ dated_frame op.PutBlockList
  put_block_list-frame None kept named given = cc
  put_block_list-frame (Some name) None named given = cc
  put_block_list-frame (Some name) (Some kept) named given =
      ap (λ (o : Option (Committed ℕ)). put_reply (md5 q.body) (unwrap_or o empty_blob).etag (unwrap_or o empty_blob).made)
      (blob_in-put_list pieces_len (put_block_list (blob_in p name) q t name kept) p)

  abbrev dates_reply : Committed ℕ → Reply
  dates_reply c = success_reply status.Success (date_headers c.etag c.made) 0

  abbrev set_act : Option (List ℕ) → Option Act
  set_act blob = option_map (λ name. act.SetMetadata (set_metadata q t name)) blob

  committed_with_metadata-frame : (name : List ℕ) (o : Option (Committed ℕ)) → IsSome o
      → dates_reply (unwrap_or (option_map (committed_with_metadata (p.count + 1) (set_metadata q t name)) o) empty_blob) ≡ dated_frame op.SetMetadata
  committed_with_metadata-frame name None exists = cc
  committed_with_metadata-frame name (Some c) exists = refl

  set_metadata-frame : (blob : Option (List ℕ)) → IsSome (option_and_then (λ name. (blob_in p name).committed) blob)
      → dates_reply (seen_in (after (set_act blob)) blob) ≡ dated_frame op.SetMetadata
  set_metadata-frame None exists = cc
  set_metadata-frame (Some name) exists =
      ap (λ (b : Blob ℕ). dates_reply (unwrap_or b.committed empty_blob)) (blob_in-set_metadata pieces_len p (set_metadata q t name))
      ∙ committed_with_metadata-frame name (blob_in p name).committed exists

  module _ (valid : IsRequest q) (free : object_refusal p q ≡ None) where
    write_frame_by : (o : Op) → q.ask.op ≡ o → writes o ≡ true → frame_after o ≡ dated_frame o
    write_frame_by op.CreateContainer is writing = refl
    write_frame_by op.SetContainerMetadata is writing = standing_with_metadata-frame p.standing (needed_container p q free (ap needs_container is))
    write_frame_by op.SetAcl is writing = standing_with_acl-frame p.standing (needed_container p q free (ap needs_container is))
    write_frame_by op.DeleteContainer is writing = refl
    write_frame_by op.PutBlob is writing =
        put_blob-frame q.ask.blob q.ask.args.kept (valid.ask.names.blob ∙ ap names_blob is) (valid.ask.own.kept ∙ ap keeps_headers is)
    write_frame_by op.SetMetadata is writing = set_metadata-frame q.ask.blob (needed_blob p q free (ap needs_blob is))
    write_frame_by op.DeleteBlob is writing = refl
    write_frame_by op.PutBlock is writing = refl
    write_frame_by op.PutBlockList is writing =
        put_block_list-frame q.ask.blob q.ask.args.kept (valid.ask.names.blob ∙ ap names_blob is) (valid.ask.own.kept ∙ ap keeps_headers is)
    write_frame_by other is writing = cc

    -- a request that writes replaces no header
    frame_by_write : (o : Op) → writes o ≡ true → dated_frame o ≡ frame_by nothing_replaced o q (record empty_standing { etag = p.count + 1; made = t }) (record empty_blob { etag = p.count + 1; made = t }) no_blob
    frame_by_write op.GetBlob writing = cc
    frame_by_write op.BlobProperties writing = cc
    frame_by_write op.CreateContainer writing = refl
    frame_by_write other writing = refl

    -- the frame of a request that writes is the frame of the number and the moment of its change
    pub frame_of_write : writes q.ask.op ≡ true → frame v (part_after pieces_len (change_of p q t) p) q ≡ write_frame q (p.count + 1) t
    frame_of_write writing = write_frame_by q.ask.op refl writing ∙ frame_by_write q.ask.op writing

spans_by-others : (o : Op) (range : Option ByteRange) (c : Committed (List Piece)) → (o ≡ op.GetBlob → ⊥) → spans_by o range c ≡ []
spans_by-others op.GetBlob range c other = absurd (other refl)
spans_by-others other range c apart = refl

-- no content goes out with the reply to an operation other than Get Blob
pub spans_of_others : (p : Part (List Piece)) (q : Asked) → (q.ask.op ≡ op.GetBlob → ⊥) → spans p q ≡ []
spans_of_others p q other = spans_by-others q.ask.op q.ask.args.range (blob_read p q.ask) other

-- no content goes out with the reply to a request that writes
pub spans_of_write : (p : Part (List Piece)) (q : Asked) → writes q.ask.op ≡ true → spans p q ≡ []
spans_of_write p q writing = spans_of_others p q (λ get. cc)

-- ---- requests that read

module _ (z : Part ℕ) (q : Asked) (t : ℕ) where
  -- an operation that reads changes nothing
  pub act_by-read : (o : Op) → writes o ≡ false → act_by o z q t ≡ None
  act_by-read op.CreateContainer reads = cc
  act_by-read op.SetContainerMetadata reads = cc
  act_by-read op.SetAcl reads = cc
  act_by-read op.DeleteContainer reads = cc
  act_by-read op.PutBlob reads = cc
  act_by-read op.SetMetadata reads = cc
  act_by-read op.DeleteBlob reads = cc
  act_by-read op.PutBlock reads = cc
  act_by-read op.PutBlockList reads = cc
  act_by-read other reads = refl

  -- a request that reads leaves its container as it is
  pub part_after_read : {C : Type 0} (f : List Piece → C) (r : Part C) → writes q.ask.op ≡ false → part_after f (change_of z q t) r ≡ r
  part_after_read f r reads = ap (λ (o : Option Act). part_after f (option_map (λ a. record { key = q.ask.key; act = a }) o) r) (act_by-read q.ask.op reads)

module _ (v : Replaced) (p : Part (List Piece)) (q : Asked) where
  abbrev sized : Part ℕ
  sized = part_value pieces_len p

  -- the frame of a request that reads a blob is the frame of the blob that it names
  frame_of_read : (o : Op) (c : Committed (List Piece)) → q.ask.op ≡ o → (target_blob p q.ask).committed ≡ Some c
      → frame v sized q ≡ frame_by v o q (standing_read sized) (committed_value pieces_len c) (target_blob sized q.ask)
  frame_of_read o c is there =
      ap (λ (o : Op). frame_by v o q (standing_read sized) (blob_read sized q.ask) (target_blob sized q.ask)) is
      ∙ ap (λ (b : Option (Committed ℕ)). frame_by v o q (standing_read sized) (unwrap_or b empty_blob) (target_blob sized q.ask))
      (named_blob-part_value pieces_len p q.ask ∙ ap (option_map (committed_value pieces_len)) (sym (committed-target_blob p q.ask) ∙ there))

  pub frame_of_get_blob : (c : Committed (List Piece)) → q.ask.op ≡ op.GetBlob → (target_blob p q.ask).committed ≡ Some c → frame v sized q ≡ ranged_frame v q.ask.args.range (committed_value pieces_len c)
  frame_of_get_blob c = frame_of_read op.GetBlob c

  pub frame_of_blob_properties : (c : Committed (List Piece)) → q.ask.op ≡ op.BlobProperties → (target_blob p q.ask).committed ≡ Some c → frame v sized q ≡ get_frame v (committed_value pieces_len c)
  frame_of_blob_properties c = frame_of_read op.BlobProperties c

  pub frame_of_get_metadata : (c : Committed (List Piece)) → q.ask.op ≡ op.GetMetadata → (target_blob p q.ask).committed ≡ Some c
      → frame v sized q ≡ success_reply status.Success (metadata_headers c.metadata c.etag c.made) 0
  frame_of_get_metadata c = frame_of_read op.GetMetadata c

  -- the frame of Get Container Properties is the frame of what the container has beside its blobs
  pub frame_of_container_properties : (s : Standing) → q.ask.op ≡ op.ContainerProperties → p.standing ≡ Some s
      → frame v sized q ≡ success_reply status.Success (metadata_headers s.metadata s.etag s.made) 0
  frame_of_container_properties s is there =
      ap (λ (o : Op). frame_by v o q (standing_read sized) (blob_read sized q.ask) (target_blob sized q.ask)) is
      ∙ ap (λ (o : Option Standing). frame_by v op.ContainerProperties q (unwrap_or o empty_standing) (blob_read sized q.ask) (target_blob sized q.ask)) there

  -- the frame of Get Container ACL is the frame of what the container has beside its blobs
  pub frame_of_acl : (s : Standing) → q.ask.op ≡ op.GetAcl → p.standing ≡ Some s → frame v sized q ≡ acl_frame s
  frame_of_acl s is there =
      ap (λ (o : Op). frame_by v o q (standing_read sized) (blob_read sized q.ask) (target_blob sized q.ask)) is
      ∙ ap (λ (o : Option Standing). frame_by v op.GetAcl q (unwrap_or o empty_standing) (blob_read sized q.ask) (target_blob sized q.ask)) there

  -- the frame of Get Block List is the frame of the whole blob that it names
  pub frame_of_block_list : (b : Blob (List Piece)) → q.ask.op ≡ op.GetBlockList → b ≡ target_blob p q.ask → frame v sized q ≡ list_frame q.ask.args.kinds (blob_value pieces_len b)
  frame_of_block_list b is found =
      ap (λ (o : Op). frame_by v o q (standing_read sized) (blob_read sized q.ask) (target_blob sized q.ask)) is
      ∙ ap (list_frame q.ask.args.kinds) (target_blob-part_value pieces_len p q.ask ∙ ap (blob_value pieces_len) (sym found))

-- on a Get Blob the pieces of the blob go out, or what the range asks for
pub spans_of_get : (p : Part (List Piece)) (q : Asked) (c : Committed (List Piece)) → q.ask.op ≡ op.GetBlob → (target_blob p q.ask).committed ≡ Some c
    → spans p q ≡ ranged_spans q.ask.args.range (blob_content c)
spans_of_get p q c is there =
    ap (λ (o : Op). spans_by o q.ask.args.range (blob_read p q.ask)) is
    ∙ ap (λ (o : Option (Committed (List Piece))). spans_by op.GetBlob q.ask.args.range (unwrap_or o empty_blob)) (sym (committed-target_blob p q.ask) ∙ there)

-- ---- what was found of a container, on a request that reads

module _ (p : Part (List Piece)) (q : Asked) (t : ℕ) (reads : writes q.ask.op ≡ false) where
  -- its sizes are as before
  pub sizes_after_read : sizes_found_after p q t ≡ sizes_found p
  sizes_after_read = part_after_read (sizes_found p) q t pieces_len (sizes_found p) reads

  -- its pieces are as before
  pub pieces_after_read : pieces_found_after p q t ≡ p
  pieces_after_read = part_after_read (sizes_found p) q t same_pieces p reads
