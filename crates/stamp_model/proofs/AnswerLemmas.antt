-- If a request is answered, what the answer tells of exists.
use Rattle.std.proofs.Common.{◌≡◌, ℕ, ◌+◌, Bool, true, false, not, ◌&&◌, ◌||◌, List, length, Option, Some, None, nat_lt, refl, sym, ap, ◌∙◌}
use Rattle.std.proofs.lemmas.List.{length-map}
use Rattle.std.specs.Prelude.{is_none, is_some}
use Rattle.std.specs.FinMap.{entries}
use Rattle.std.specs.Option.{option_map, option_and_then}
use Rattle.stamp_values.specs.Maps.{entry_value}
use Rattle.stamp_values.specs.Operations.{is_op, keeps_headers, lists_names, names_blob, writes}
use Rattle.stamp_values.specs.Order.{names_exact, names_total}
use Rattle.stamp_values.specs.declared.block.BlockKinds.{BlockKinds}
use Rattle.stamp_values.specs.declared.block.BlockKinds.TheVariants as kinds
use Rattle.stamp_values.specs.declared.op.Op.{Op}
use Rattle.stamp_values.specs.declared.op.Op.TheVariants as op
use Rattle.stamp_types.specs.declared.act.Act.{Act}
use Rattle.stamp_types.specs.declared.act.Act.TheVariants as act
use Rattle.stamp_types.specs.declared.args.Kept.{Kept}
use Rattle.stamp_types.specs.declared.committed.Committed.{Committed}
use Rattle.stamp_types.specs.declared.refusal.Refusal.{Refusal}
use Rattle.stamp_types.specs.declared.standing.Standing.{Standing}
use Rattle.stamp_values.specs.declared.key.Key.{Key}
use Rattle.stamp_types.specs.Pieces.{held}
use Rattle.stamp_types.specs.Requests.{Asked, IsAsk}
use Rattle.stamp_types.specs.World.{Blob, Part, World, blob_in, blob_value, committed_value, committed_with_metadata, part_at, standing_with_acl, standing_with_metadata}
use Rattle.stamp_types.proofs.EffectLemmas.{blob_in-set_metadata}
use Rattle.access_rules.specs.declared.keys.Keys.{Keys}
use Rattle.range_rows.specs.Frames.{blob_read, frame_by, standing_read}
use Rattle.range_rows.specs.SentContent.{byte_count, bytes_by, sizes, with_content}
use Rattle.row_trees.specs.FoundParts.{has_uncommitted}
use Rattle.range_rows.specs.NamedBlobs.{has_listed, target_blob}
use Rattle.range_rows.specs.ObjectRules.{needs_container, needs_blob, named_blob, object_refusal}
use Rattle.range_rows.specs.ObjectRules.Cause.{BlobIsAbsent}
use Rattle.range_rows.specs.RequestChanges.{put_blob, put_block_list, set_acl, set_container_metadata, set_metadata, act_by, change_of, part_after}
use Rattle.range_rows.proofs.AnswerLemmas.{blob_in-put_list, blob_in-put}
use Rattle.range_rows.proofs.BlockLemmas.{target_blob-part_value}
use Rattle.stamp_types.proofs.MapEntries.{entries-map_values}
use Rattle.stamp_model.specs.Refusals.{refusal}
use Rattle.stamp_model.specs.Effects.{unless_refused, change, effect}
use Rattle.stamp_model.specs.Responses.{answer_of, tells_container, tells_blob, tells_nothing, rows_answer}
use Rattle.stamp_model.proofs.ArgumentLemmas.{no_cause}
use Rattle.stamp_model.proofs.EffectLemmas.{on_key}
use Rattle.stamp_model.proofs.ObjectLemmas.{is_some-mapped, container_needed, blob_needed}
use Rattle.stamp_model.proofs.ReadLemmas.{effect-read}
use Rattle.stamp_model.proofs.ReplyLemmas.{answer_of-rows, unrefused}
use Rattle.stamp_model.specs.Overrides.{overrides_of}

module _ (p : Part (List ℕ)) (q : Asked) (t : ℕ) where
  abbrev after_act : Option Act → Part (List ℕ)
  after_act a = part_after held (option_map (on_key q.ask.key) a) p

  abbrev named : Option (List ℕ) → Part (List ℕ) → Option (Committed (List ℕ))
  named blob r = option_and_then (λ name. (blob_in r name).committed) blob

  put : (blob : Option (List ℕ)) (kept : Option Kept) → is_some blob ≡ true → is_some kept ≡ true
      → is_some (named blob (after_act (option_and_then (λ name. option_map (λ kept. act.PutBlob (put_blob q t name kept)) kept) blob))) ≡ true
  put None kept b k = cc
  put (Some name) None b k = cc
  put (Some name) (Some kept) b k = ap (λ (o : Option (Committed (List ℕ))). is_some o) (blob_in-put held (put_blob q t name kept) p)

  list : (blob : Option (List ℕ)) (kept : Option Kept) → is_some blob ≡ true → is_some kept ≡ true
      → is_some (named blob (after_act (option_and_then (λ name. option_map (λ kept. act.PutBlockList (put_block_list (blob_in (sizes p) name) q t name kept)) kept) blob))) ≡ true
  list None kept b k = cc
  list (Some name) None b k = cc
  list (Some name) (Some kept) b k = ap (λ (o : Option (Committed (List ℕ))). is_some o) (blob_in-put_list held (put_block_list (blob_in (sizes p) name) q t name kept) p)

  set : (blob : Option (List ℕ)) → is_some (named blob p) ≡ true → is_some (named blob (after_act (option_map (λ name. act.SetMetadata (set_metadata q t name)) blob))) ≡ true
  set None there = cc
  set (Some name) there =
      ap (λ (b : Blob (List ℕ)). is_some b.committed) (blob_in-set_metadata held p (set_metadata q t name))
      ∙ is_some-mapped (committed_with_metadata (p.count + 1) (set_metadata q t name)) (blob_in p name).committed
      ∙ there

  module _ (free : object_refusal (sizes p) q ≡ None) where
    -- the container exists after the request
    container_told : (o : Op) → q.ask.op ≡ o → tells_container o ≡ true → is_some (after_act (act_by o (sizes p) q t)).standing ≡ true
    container_told op.CreateContainer is tells = refl
    container_told op.ContainerProperties is tells = container_needed p q free (ap needs_container is)
    container_told op.SetContainerMetadata is tells =
        is_some-mapped (standing_with_metadata (p.count + 1) (set_container_metadata q t)) p.standing ∙ container_needed p q free (ap needs_container is)
    container_told op.GetAcl is tells = container_needed p q free (ap needs_container is)
    container_told op.SetAcl is tells =
        is_some-mapped (standing_with_acl (p.count + 1) (set_acl q t)) p.standing ∙ container_needed p q free (ap needs_container is)
    container_told other is tells = cc

    -- readers see the blob after the request
    blob_told : (o : Op) → q.ask.op ≡ o → IsAsk q.ask → tells_blob o ≡ true → is_some (named q.ask.blob (after_act (act_by o (sizes p) q t))) ≡ true
    blob_told op.PutBlob is fits tells = put q.ask.blob q.ask.args.kept (fits.names.blob ∙ ap names_blob is) (fits.own.kept ∙ ap keeps_headers is)
    blob_told op.GetBlob is fits tells = blob_needed p q free (ap needs_blob is)
    blob_told op.BlobProperties is fits tells = blob_needed p q free (ap needs_blob is)
    blob_told op.GetMetadata is fits tells = blob_needed p q free (ap needs_blob is)
    blob_told op.SetMetadata is fits tells = set q.ask.blob (blob_needed p q free (ap needs_blob is))
    blob_told op.PutBlockList is fits tells = list q.ask.blob q.ask.args.kept (fits.names.blob ∙ ap names_blob is) (fits.own.kept ∙ ap keeps_headers is)
    blob_told other is fits tells = cc

module _ (keys : Option Keys) (p : Part (List ℕ)) (q : Asked) (t : ℕ) (free : refusal keys (sizes p) q t ≡ None) where
  -- if nothing refuses a request whose answer tells of its container, the container exists after the request
  pub standing-unrefused : tells_container q.ask.op ≡ true → is_some (change keys p q t).standing ≡ true
  standing-unrefused tells =
      ap (λ (o : Option Refusal). is_some (part_after held (unless_refused o (change_of (sizes p) q t)) p).standing) free
      ∙ container_told p q t (unrefused keys (sizes p) q t free).unopposed q.ask.op refl tells

  -- if nothing refuses a request whose answer tells of its blob, readers see the blob after the request
  pub named_blob-unrefused : IsAsk q.ask → tells_blob q.ask.op ≡ true → is_some (named_blob (change keys p q t) q.ask) ≡ true
  named_blob-unrefused fits tells =
      ap (λ (o : Option Refusal). is_some (named_blob (part_after held (unless_refused o (change_of (sizes p) q t)) p) q.ask)) free
      ∙ blob_told p q t (unrefused keys (sizes p) q t free).unopposed q.ask.op refl fits tells

-- ---- what is listed of a blob

module _ {C D : Type 0} (f : C → D) (b : Blob C) where
  has_uncommitted-read : has_uncommitted (blob_value f b) ≡ has_uncommitted b
  has_uncommitted-read =
      ap (λ (es : List (List ℕ × D)). nat_lt 0 (length es)) (entries-map_values names_total names_exact f b.uncommitted)
      ∙ ap (λ n. nat_lt 0 n) (length-map (entries b.uncommitted) (entry_value f))

  some_listed : (is_some (option_map (committed_value f) b.committed) || has_uncommitted (blob_value f b)) ≡ (is_some b.committed || has_uncommitted b)
  some_listed = λ i. is_some-mapped (committed_value f) b.committed i || has_uncommitted-read i

  -- a blob has what is listed, whether its content is read before or after
  has_listed-read : (k : Option BlockKinds) → has_listed k (blob_value f b) ≡ has_listed k b
  has_listed-read None = is_some-mapped (committed_value f) b.committed
  has_listed-read (Some kinds.Committed) = is_some-mapped (committed_value f) b.committed
  has_listed-read (Some kinds.Uncommitted) = some_listed
  has_listed-read (Some kinds.All) = some_listed

not_missing : (b : Bool) → (false || (true && not b)) ≡ false → b ≡ true
not_missing true h = refl
not_missing false h = cc

module _ (keys : Option Keys) (w : World (List ℕ)) (q : Asked) (t : ℕ) (free : refusal keys (sizes (part_at w q.ask.key)) q t ≡ None) where
  abbrev listed_in : Part (List ℕ) → Bool
  listed_in p = has_listed q.ask.args.kinds (target_blob p q.ask)

  listed_by : (o : Op) → q.ask.op ≡ o → is_op op.GetBlockList o ≡ true → listed_in (part_at w q.ask.key) ≡ true
  listed_by op.GetBlockList is tells =
      sym (has_listed-read byte_count (target_blob (part_at w q.ask.key) q.ask) q.ask.args.kinds)
      ∙ ap (λ (b : Blob ℕ). has_listed q.ask.args.kinds b) (sym (target_blob-part_value byte_count (part_at w q.ask.key) q.ask))
      ∙ not_missing (has_listed q.ask.args.kinds (target_blob (sizes (part_at w q.ask.key)) q.ask))
      (sym (ap (λ (o : Op). (needs_blob o && is_none (named_blob (sizes (part_at w q.ask.key)) q.ask)) || (is_op op.GetBlockList o && not (has_listed q.ask.args.kinds (target_blob (sizes (part_at w q.ask.key)) q.ask)))) is)
      ∙ no_cause keys (sizes (part_at w q.ask.key)) q t free BlobIsAbsent)
  listed_by other is tells = cc

  reads_by : (o : Op) → is_op op.GetBlockList o ≡ true → writes o ≡ false
  reads_by op.GetBlockList tells = refl
  reads_by other tells = cc

  -- if nothing refuses a request whose answer tells of blocks, the blob has what is listed
  pub blocks-unrefused : is_op op.GetBlockList q.ask.op ≡ true → listed_in (part_at (effect keys w q t) q.ask.key) ≡ true
  blocks-unrefused tells =
      ap (λ (v : World (List ℕ)). listed_in (part_at v q.ask.key)) (effect-read keys w q t (reads_by q.ask.op tells)) ∙ listed_by q.ask.op refl tells

module _ (q : Asked) (s r : Standing) (c d : Committed ℕ) (b g : Blob ℕ) (e h : Committed (List ℕ)) where
  nothing_told : (o : Op) → tells_nothing o ≡ true → with_content (frame_by (overrides_of q.ask) o q s c b) (bytes_by o q.ask.args.range e) ≡ with_content (frame_by (overrides_of q.ask) o q r d g) (bytes_by o q.ask.args.range h)
  nothing_told op.DeleteContainer tells = refl
  nothing_told op.DeleteBlob tells = refl
  nothing_told op.PutBlock tells = refl
  nothing_told other tells = cc

-- what rows answer is the same whatever the container is, if it tells nothing
reply_of-nothing : (p r : Part (List ℕ)) (q : Asked) → tells_nothing q.ask.op ≡ true → rows_answer p q ≡ rows_answer r q
reply_of-nothing p r q tells =
    nothing_told q (standing_read (sizes p)) (standing_read (sizes r)) (blob_read (sizes p) q.ask) (blob_read (sizes r) q.ask)
    (target_blob (sizes p) q.ask) (target_blob (sizes r) q.ask) (blob_read p q.ask) (blob_read r q.ask) q.ask.op tells

lists_none : (o : Op) → tells_nothing o ≡ true → lists_names o ≡ false
lists_none op.ListContainers tells = cc
lists_none op.ListBlobs tells = cc
lists_none other tells = refl

-- an answer that tells nothing is the same whatever containers there are
pub answer_of-nothing : (w v : World (List ℕ)) (q : Asked) (bound : Option Key) → tells_nothing q.ask.op ≡ true → answer_of w q bound ≡ answer_of v q bound
answer_of-nothing w v q bound tells =
    answer_of-rows w q bound (lists_none q.ask.op tells)
    ∙ reply_of-nothing (part_at w q.ask.key) (part_at v q.ask.key) q tells
    ∙ sym (answer_of-rows v q bound (lists_none q.ask.op tells))
