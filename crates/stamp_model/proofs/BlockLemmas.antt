-- What a Put Block and a commit leave of blocks.
use Rattle.std.proofs.Common.{◌≡◌, ℕ, ◌+◌, Bool, true, false, cond, not, ◌&&◌, ◌||◌, List, [], ◌∷◌, ◌++◌, drop, length, Option, Some, None, refl, sym, ap, ◌∙◌, map, unwrap_or}
use Rattle.std.proofs.lemmas.List.{append-nil}
use Rattle.std.specs.Prelude.{find, is_none, is_some, nat_lt, position}
use Rattle.std.specs.FinMap as finite
use Rattle.std.specs.FinMap.{FinMap, len-empty, len-entries}
use Rattle.std.specs.List.{flat_map}
use Rattle.std.specs.Option.{option_map, option_and_then, option_or, option_to_list}
use Rattle.md5.specs.Md5.{md5}
use Rattle.stamp_values.specs.Operations.{is_op, keeps_headers}
use Rattle.stamp_values.specs.Order.{name_cmp}
use Rattle.stamp_values.specs.declared.block.BlockKinds.{BlockKinds}
use Rattle.stamp_values.specs.declared.block.BlockKinds.TheVariants as kinds
use Rattle.stamp_values.specs.declared.block.Lookup.{Lookup}
use Rattle.stamp_values.specs.declared.block.Lookup.TheVariants as lookup
use Rattle.stamp_values.specs.declared.block.BlockSource.{BlockSource}
use Rattle.stamp_values.specs.declared.block.BlockSource.TheVariants as source
use Rattle.stamp_values.specs.declared.block.Taken.{Taken}
use Rattle.stamp_values.specs.declared.block.Wanted.{Wanted}
use Rattle.stamp_values.specs.declared.condition.ByteRange.{ByteRange}
use Rattle.stamp_values.specs.declared.key.Key.{Key}
use Rattle.stamp_values.specs.declared.op.Op.{Op}
use Rattle.stamp_values.specs.declared.op.Op.TheVariants as op
use Rattle.stamp_types.specs.declared.act.Act.TheVariants as act
use Rattle.stamp_types.specs.declared.act.PutBlob.{PutBlob}
use Rattle.stamp_types.specs.declared.act.PutBlock.{PutBlock}
use Rattle.stamp_types.specs.declared.act.PutBlockList.{PutBlockList}
use Rattle.stamp_types.specs.declared.args.Kept.{Kept}
use Rattle.stamp_types.specs.declared.committed.Block.{Block}
use Rattle.stamp_types.specs.declared.committed.Committed.{Committed}
use Rattle.stamp_types.specs.declared.header.Header.TheVariants as header
use Rattle.stamp_types.specs.declared.reply.Reply.{Reply}
use Rattle.stamp_types.specs.Pieces.{held}
use Rattle.stamp_types.specs.PropsFields.{kept_fields}
use Rattle.stamp_types.specs.Replies.{denied}
use Rattle.stamp_types.specs.Requests.{Asked, IsAsk}
use Rattle.stamp_types.specs.World.{Blob, Part, World, no_blob, blob_in, part_at, block_of, block_value, blob_value, committed_value, changed, content_from, taken_blocks}
use Rattle.stamp_types.proofs.Cuts.{held-cut}
use Rattle.stamp_types.proofs.EffectLemmas.{blob_in-insert, get-remove_same}
use Rattle.stamp_types.proofs.WorldLemmas.{blob_in-part_value, blob_value-no_blob, taken_blocks-blob_value}
use Rattle.block_blobs.specs.BlockLists.{first_missing, found_entries, source_of, sources_of, taken_from}
use Rattle.range_rows.specs.NamedBlobs.{has_listed, target_blob}
use Rattle.range_rows.specs.Frames.{date_headers, kept_lines, ranged_frame}
use Rattle.range_rows.specs.SentContent.{blob_content, byte_count, ranged_bytes, sizes, with_content}
use Rattle.range_rows.specs.ShownBlocks.{list_text}
use Rattle.range_rows.specs.ObjectRules.{cause_holds, cause_refusal, causes, lacks_blob, named_blob, needs_blob, needs_container, object_refusal}
use Rattle.range_rows.specs.ObjectRules.Cause.{ContainerIsAbsent, ContainerExists, BlobIsAbsent, BlockIsMissing}
use Rattle.range_rows.specs.Readings.{wanted_blocks}
use Rattle.range_rows.specs.RequestChanges.{act_by, put_blob, put_block, put_block_list}
use Rattle.range_rows.proofs.AnswerLemmas.{blob_in-put_list, listed_committed_part, put_committed}
use Rattle.stamp_model.specs.Blocks.{content_by, takes_blocks, wanted_bytes, wanted_content}
use Rattle.stamp_model.specs.Runs.{Timed, IsAdmitted, IsOn, world_after_one, reply_to_one}
use Rattle.stamp_model.proofs.ArgumentLemmas.{no_cause}
use Rattle.stamp_model.proofs.ObjectLemmas.{there_is}
use Rattle.stamp_model.proofs.PartLemmas.{sizes_of_bytes}
use Rattle.stamp_model.proofs.ReadLemmas.{part_at-act, part_at-own_act, reply-read, reply-read_in, reply-refused, reply-write}
use Rattle.stamp_model.proofs.ReplyLemmas.{reply-unrefused}
use Rattle.stamp_model.proofs.WrittenLemmas.{container_before, kept-put, part-deleted, put_act, some_of}
use Rattle.stamp_model.proofs.SeenLemmas.{alike-put_block, with_block}
use Rattle.stamp_model.specs.Overrides.{overrides_of}

-- ---- Put Block

-- after a Put Block readers see of each blob what they saw before
pub committed-put_block : (w : World (List ℕ)) (put : Timed) (key : Key) (name : List ℕ) → put.request.ask.op ≡ op.PutBlock
    → (blob_in (part_at (world_after_one w put) key) name).committed ≡ (blob_in (part_at w key) name).committed
committed-put_block w put key name puts = sym ((alike-put_block put.keys w put.request put.moment puts key).committed name)

module _ (w : World (List ℕ)) (key : Key) (name id : List ℕ) (put : Timed)
    (puts : IsOn op.PutBlock key name put.request) (has_id : put.request.ask.args.block ≡ Some id) (none : (reply_to_one w put).rule ≡ None) where
  abbrev block_put : PutBlock
  block_put = put_block put.request name id

  block_act : (z : Part ℕ) → act_by put.request.ask.op z put.request put.moment ≡ Some (act.PutBlock block_put)
  block_act z =
      ap (λ (o : Op). act_by o z put.request put.moment) puts.op
      ∙ (λ i. option_and_then (λ name. option_map (λ id. act.PutBlock (put_block put.request name id)) (has_id i)) (puts.blob i))

  -- a Put Block is one change of its container
  pub count-put_block : (part_at (world_after_one w put) key).count ≡ (part_at w key).count + 1
  count-put_block = ap (λ (p : Part (List ℕ)). p.count) (part_at-act put.keys w put.request put.moment put.bound key (act.PutBlock block_put) puts.container none block_act)

  -- after a Put Block the uncommitted blocks of its blob are those of before, with the body under the id
  pub uncommitted-put_block : (blob_in (part_at (world_after_one w put) key) name).uncommitted ≡ finite.insert (blob_in (part_at w key) name).uncommitted id put.request.body
  uncommitted-put_block =
      ap (λ (p : Part (List ℕ)). (blob_in p name).uncommitted) (part_at-act put.keys w put.request put.moment put.bound key (act.PutBlock block_put) puts.container none block_act)
      ∙ ap (λ (b : Blob (List ℕ)). b.uncommitted) (blob_in-insert held (part_at w key) ((part_at w key).count + 1) (part_at w key).standing name (with_block (part_at w key) block_put))
      ∙ ap (λ (bytes : List ℕ). finite.insert (blob_in (part_at w key) name).uncommitted id bytes) (held-cut put.request.body)

-- ---- wanted blocks, whether content is read before or after

there_both : {C D : Type 0} (f : C → D) (id : List ℕ) (x : Option D) (y : Option C)
    → option_to_list (option_map (block_of id) x) ++ [] ≡ map (block_value f) (option_to_list (option_map (block_of id) y) ++ []) → is_some x ≡ is_some y
there_both f id None None h = refl
there_both f id None (Some y) h = cc
there_both f id (Some x) None h = cc
there_both f id (Some x) (Some y) h = refl

module _ {C D : Type 0} (f : C → D) (b : Blob C) where
  there-read : (s : BlockSource) (id : List ℕ) → is_some (content_from s id (blob_value f b)) ≡ is_some (content_from s id b)
  there-read s id =
      there_both f id (content_from s id (blob_value f b)) (content_from s id b) (taken_blocks-blob_value f b (record { id = id; from = s } ∷ []))

  source_of-read : (w : Wanted) → source_of (blob_value f b) w ≡ source_of b w
  source_of-read w = λ i. find (λ s. there-read s w.id i) (sources_of w.lookup)

  -- the same entries are found
  pub found_entries-read : (ws : List Wanted) → found_entries (blob_value f b) ws ≡ found_entries b ws
  found_entries-read ws = λ i. flat_map (λ w. option_to_list (option_map (taken_from w) (source_of-read w i))) ws

  first_missing-read : (ws : List Wanted) → first_missing (blob_value f b) ws ≡ first_missing b ws
  first_missing-read ws = λ i. position (λ w. is_none (source_of-read w i)) ws

-- ---- the content of wanted blocks

module _ {C : Type 0} (content : BlockSource → Option C) where
  abbrev there : BlockSource → Bool
  there s = is_some (content s)

  at_last_source : (s : BlockSource) (o : Option C) → content s ≡ o → option_and_then content (cond (is_some o) (Some s) None) ≡ o
  at_last_source s None is = refl
  at_last_source s (Some c) is = is

  at_source : (s : BlockSource) (more : List BlockSource) (rest o : Option C) → content s ≡ o → option_and_then content (find there more) ≡ rest
      → option_and_then content (cond (is_some o) (Some s) (find there more)) ≡ option_or o rest
  at_source s more rest None is later = later
  at_source s more rest (Some c) is later = is

-- the content of a wanted block is the content in the source in which it is found
pub content-source : {C : Type 0} (b : Blob C) (w : Wanted) → option_and_then (λ s. content_from s w.id b) (source_of b w) ≡ wanted_content b w
content-source {C} b w = by_lookup w.lookup
  where
    content : BlockSource → Option C
    content s = content_from s w.id b

    by_lookup : (l : Lookup) → option_and_then content (find (λ s. is_some (content s)) (sources_of l)) ≡ content_by l w.id b
    by_lookup lookup.Latest =
        at_source content source.Uncommitted (source.Committed ∷ []) (content source.Committed) (content source.Uncommitted) refl
        (at_last_source content source.Committed (content source.Committed) refl)
    by_lookup lookup.Committed = at_last_source content source.Committed (content source.Committed) refl
    by_lookup lookup.Uncommitted = at_last_source content source.Uncommitted (content source.Uncommitted) refl

-- the content of blocks, joined
abbrev content_of : List (Block (List ℕ)) → List ℕ
content_of blocks = flat_map (λ block. block.content) blocks

module _ (b : Blob (List ℕ)) where
  one_taken : (w : Wanted) (o : Option BlockSource) (rest : List Taken)
      → content_of (taken_blocks b (option_to_list (option_map (taken_from w) o) ++ rest)) ≡ unwrap_or (option_and_then (λ s. content_from s w.id b) o) [] ++ content_of (taken_blocks b rest)
  one_taken w None rest = refl
  one_taken w (Some s) rest =
      elim (content_from s w.id b) as (λ c. content_of (option_to_list (option_map (block_of w.id) c) ++ taken_blocks b rest) ≡ unwrap_or c [] ++ content_of (taken_blocks b rest)) [
        | None ↦ refl
        | Some content ↦ refl
      ]

  -- the content of the blocks that are taken is the content of the wanted blocks
  content-taken : (ws : List Wanted) → content_of (taken_blocks b (found_entries b ws)) ≡ wanted_bytes b ws
  content-taken [] = refl
  content-taken (w ∷ ws) = one_taken w (source_of b w) (found_entries b ws) ∙ (λ i. unwrap_or (content-source b w i) [] ++ content-taken ws i)

-- ---- Put Block List

none_if : {X : Type 0} (o : Option X) → is_some o ≡ false → o ≡ None
none_if None h = refl
none_if (Some x) h = cc

-- a Put Block List that fits its operation keeps headers
pub kept-list : (q : Asked) (key : Key) (name : List ℕ) → IsAsk q.ask → IsOn op.PutBlockList key name q → (kept : Kept) × (q.ask.args.kept ≡ Some kept)
kept-list q key name fits lists = some_of q.ask.args.kept (fits.own.kept ∙ ap keeps_headers lists.op)

module _ (w : World (List ℕ)) (key : Key) (name : List ℕ) (list : Timed)
    (lists : IsOn op.PutBlockList key name list.request) (none : (reply_to_one w list).rule ≡ None) where
  abbrev wanted : List Wanted
  wanted = wanted_blocks list.request

  abbrev blob_before : Blob (List ℕ)
  blob_before = blob_in (part_at w key) name

  -- each block that an accepted Put Block List wants is found in the blob as it was before
  pub first_missing-accepted : first_missing blob_before wanted ≡ None
  first_missing-accepted =
      none_if (first_missing blob_before wanted)
      (sym (ap (λ (o : Option ℕ). is_some o) (first_missing-read byte_count blob_before wanted))
      ∙ sym (ap (λ (b : Blob ℕ). is_some (first_missing b wanted)) (blob_in-part_value byte_count (part_at w key) name))
      ∙ sym (λ i. is_some (first_missing (unwrap_or (option_map (blob_in (sizes (part_at w (lists.container i)))) (lists.blob i)) no_blob) wanted))
      ∙ no_cause list.keys (sizes (part_at w list.request.ask.key)) list.request list.moment (reply-unrefused list.keys w list.request list.moment list.bound none) BlockIsMissing)

  module _ (kept : Kept) (keeps : list.request.ask.args.kept ≡ Some kept) where
    abbrev list_put : PutBlockList
    list_put = put_block_list (blob_in (sizes (part_at w key)) name) list.request list.moment name kept

    list_act : act_by list.request.ask.op (sizes (part_at w key)) list.request list.moment ≡ Some (act.PutBlockList list_put)
    list_act =
        ap (λ (o : Op). act_by o (sizes (part_at w key)) list.request list.moment) lists.op
        ∙ (λ i. option_and_then (λ name. option_map (λ kept. act.PutBlockList (put_block_list (blob_in (sizes (part_at w key)) name) list.request list.moment name kept)) (keeps i)) (lists.blob i))

    -- the container after an accepted Put Block List is what its act makes of the container
    pub part-listed : part_at (world_after_one w list) key ≡ changed held (act.PutBlockList list_put) (part_at w key)
    part-listed = part_at-own_act list.keys w list.request list.moment list.bound key (act.PutBlockList list_put) lists.container none list_act

    abbrev pub list_there : Committed (List ℕ)
    list_there = listed_committed_part held ((part_at w key).count + 1) list_put (part_at w key)

    -- after a Put Block List readers see the blocks that it commits
    pub committed-list : (blob_in (part_at (world_after_one w list) key) name).committed ≡ Some list_there
    committed-list = ap (λ (p : Part (List ℕ)). (blob_in p name).committed) part-listed ∙ blob_in-put_list held list_put (part_at w key)

    -- the content of these blocks is that of the wanted blocks
    pub content-list : blob_content list_there ≡ wanted_bytes blob_before wanted
    content-list =
        ap (λ (b : Blob ℕ). content_of (taken_blocks blob_before (found_entries b wanted))) (blob_in-part_value byte_count (part_at w key) name)
        ∙ ap (λ (ts : List Taken). content_of (taken_blocks blob_before ts)) (found_entries-read byte_count blob_before wanted)
        ∙ content-taken blob_before wanted

    -- the reply to a Get Blob after the Put Block List has the content of the wanted blocks, as the blob had it before
    pub body-list : (get : Timed) → IsOn op.GetBlob key name get.request → get.request.ask.args.range ≡ None
        → (reply_to_one (world_after_one w list) get).rule ≡ None
        → (reply_to_one (world_after_one w list) get).body ≡ wanted_bytes blob_before wanted
    body-list get gets whole free =
        ap (λ (r : Reply). r.body)
        (reply-read get.keys (world_after_one w list) get.request get.moment get.bound free op.GetBlob key name list_there refl refl gets committed-list
        ∙ ap (λ (r : Option ByteRange). with_content (ranged_frame (overrides_of get.request.ask) r (committed_value byte_count list_there)) (ranged_bytes r (blob_content list_there))) whole)
        ∙ content-list

    -- the reply to a Get Blob Properties after the Put Block List has the length of that content
    pub length-list : (get : Timed) → IsOn op.BlobProperties key name get.request → (reply_to_one (world_after_one w list) get).rule ≡ None
        → (reply_to_one (world_after_one w list) get).length ≡ length (wanted_bytes blob_before wanted)
    length-list get gets free =
        ap (λ (r : Reply). r.length) (reply-read get.keys (world_after_one w list) get.request get.moment get.bound free op.BlobProperties key name list_there refl refl gets committed-list)
        ∙ sizes_of_bytes list_there.blocks
        ∙ ap (λ (bytes : List ℕ). length bytes) content-list

    -- the reply to a Put Block List has the ETag and the moment of its change
    pub headers-list : (reply_to_one w list).headers ≡ header.ContentMd5 (md5 list.request.body) ∷ date_headers ((part_at w key).count + 1) list.moment
    headers-list = ap (λ (r : Reply). r.headers) (reply-write list.keys w list.request list.moment list.bound none op.PutBlockList key name list_there refl lists committed-list)

    -- the reply to a Get Blob after the Put Block List has the same ETag and the same moment
    pub headers-get_list : (get : Timed) → IsOn op.GetBlob key name get.request → get.request.ask.args.range ≡ None
        → (reply_to_one (world_after_one w list) get).rule ≡ None
        → (reply_to_one (world_after_one w list) get).headers
        ≡ kept_lines (overrides_of get.request.ask) (kept_fields kept None) ++ map header.Meta list.request.ask.args.metadata
        ++ header.BlobType ∷ header.AcceptRanges ∷ date_headers ((part_at w key).count + 1) list.moment
    headers-get_list get gets whole free =
        ap (λ (r : Reply). r.headers)
        (reply-read get.keys (world_after_one w list) get.request get.moment get.bound free op.GetBlob key name list_there refl refl gets committed-list
        ∙ ap (λ (r : Option ByteRange). with_content (ranged_frame (overrides_of get.request.ask) r (committed_value byte_count list_there)) (ranged_bytes r (blob_content list_there))) whole)

-- ---- a blob without uncommitted blocks

module _ (w : World (List ℕ)) (key : Key) (name : List ℕ) (commit : Timed)
    (fits : IsAsk commit.request.ask) (none : (reply_to_one w commit).rule ≡ None) where
  abbrev uncommitted_in : Part (List ℕ) → FinMap name_cmp (List ℕ)
  uncommitted_in p = (blob_in p name).uncommitted

  -- what the blob of the name is, if this committed part is all that it has
  abbrev all_committed : Committed (List ℕ) → Blob (List ℕ)
  all_committed c = record { committed = Some c; uncommitted = finite.empty }

  inserted_last : (c : Committed (List ℕ)) → uncommitted_in (record { count = (part_at w key).count + 1; standing = (part_at w key).standing; blobs = finite.insert (part_at w key).blobs name (all_committed c) }) ≡ finite.empty
  inserted_last c = ap (λ (b : Blob (List ℕ)). b.uncommitted) (blob_in-insert held (part_at w key) ((part_at w key).count + 1) (part_at w key).standing name (all_committed c))

  -- after a Put Blob, a Put Block List or a Delete Blob that is accepted, its blob has no uncommitted block
  pub uncommitted-taken : (o : Op) → takes_blocks o ≡ true → IsOn o key name commit.request → uncommitted_in (part_at (world_after_one w commit) key) ≡ finite.empty
  uncommitted-taken op.PutBlob takes on =
      let keeps = kept-put commit.request key name fits on in
      let put : PutBlob = put_blob commit.request commit.moment name keeps.0 in
      ap uncommitted_in (part_at-act commit.keys w commit.request commit.moment commit.bound key (act.PutBlob put) on.container none (put_act w key name keeps.0 commit on keeps.1 none))
      ∙ inserted_last (put_committed held ((part_at w key).count + 1) put)
  uncommitted-taken op.PutBlockList takes on =
      let keeps = kept-list commit.request key name fits on in
      ap uncommitted_in (part-listed w key name commit on none keeps.0 keeps.1)
      ∙ inserted_last (list_there w key name commit on none keeps.0 keeps.1)
  uncommitted-taken op.DeleteBlob takes on =
      ap uncommitted_in (part-deleted w key name commit on none)
      ∙ ap (λ (o : Option (Blob (List ℕ))). (unwrap_or o no_blob).uncommitted) (get-remove_same (part_at w key).blobs name)
  uncommitted-taken other takes on = cc

-- the reply to a Get Block List has the block lists of the blob in its body
pub body-block_list : (v : World (List ℕ)) (key : Key) (name : List ℕ) (list : Timed) → IsOn op.GetBlockList key name list.request → (reply_to_one v list).rule ≡ None
    → (reply_to_one v list).body ≡ list_text list.request.ask.args.kinds (blob_in (sizes (part_at v key)) name)
body-block_list v key name list lists free =
    ap (λ (r : Reply). r.body) (reply-read_in list.keys v list.request list.moment list.bound free op.GetBlockList key refl refl (record { op = lists.op; container = lists.container }))
    ∙ append-nil (list_text list.request.ask.args.kinds (target_blob (sizes (part_at v key)) list.request.ask))
    ∙ ap (λ (blob : Option (List ℕ)). list_text list.request.ask.args.kinds (unwrap_or (option_map (blob_in (sizes (part_at v key))) blob) no_blob)) lists.blob

-- ---- Get Block List of a blob that was deleted

nothing_listed : (k : Option BlockKinds) → has_listed k (no_blob {C = ℕ}) ≡ false
nothing_listed None = refl
nothing_listed (Some kinds.Committed) = refl
nothing_listed (Some kinds.Uncommitted) = ap (λ n. nat_lt 0 n) (sym (len-entries (finite.empty {X = ℕ} {R = name_cmp})) ∙ len-empty name_cmp ℕ)
nothing_listed (Some kinds.All) = ap (λ n. nat_lt 0 n) (sym (len-entries (finite.empty {X = ℕ} {R = name_cmp})) ∙ len-empty name_cmp ℕ)

-- the refusal of a Get Block List, if its container exists and its blob is as if its name was never used
object_refusal-list : (p : Part (List ℕ)) (q : Asked) (name : List ℕ) → q.ask.op ≡ op.GetBlockList → q.ask.blob ≡ Some name → is_some p.standing ≡ true → blob_in p name ≡ no_blob
    → object_refusal (sizes p) q ≡ Some (cause_refusal BlobIsAbsent)
object_refusal-list p q name is named exists none =
    let target : target_blob (sizes p) q.ask ≡ no_blob =
    ap (λ (blob : Option (List ℕ)). unwrap_or (option_map (blob_in (sizes p)) blob) no_blob) named
    ∙ blob_in-part_value byte_count p name ∙ ap (λ (b : Blob (List ℕ)). blob_value byte_count b) none ∙ blob_value-no_blob byte_count in
    let lacks : lacks_blob (sizes p) q.ask ≡ true =
    (λ i. (needs_blob (is i) && is_none (named_blob (sizes p) q.ask)) || (is_op op.GetBlockList (is i) && not (has_listed q.ask.args.kinds (target i))))
    ∙ ap (λ b. not b) (nothing_listed q.ask.args.kinds) in
    let makes : (is_op op.CreateContainer q.ask.op && is_some p.standing) ≡ false = ap (λ (o : Op). is_op op.CreateContainer o && is_some p.standing) is in
    λ i. option_map cause_refusal (cond (there_is (needs_container q.ask.op) p.standing exists i) (Some ContainerIsAbsent)
    (cond (makes i) (Some ContainerExists) (cond (lacks i) (Some BlobIsAbsent) (find (cause_holds (sizes p) q) (drop 3 causes)))))

-- after a Delete Blob, a Get Block List of the blob that permission admits is refused by O3
pub reply-deleted_list : (w : World (List ℕ)) (key : Key) (name : List ℕ) (delete list : Timed)
    → IsOn op.DeleteBlob key name delete.request → (reply_to_one w delete).rule ≡ None → IsOn op.GetBlockList key name list.request
    → IsAdmitted (world_after_one w delete) list → reply_to_one (world_after_one w delete) list ≡ denied (cause_refusal BlobIsAbsent)
reply-deleted_list w key name delete list deletes none lists admits =
    let v = world_after_one w delete in
    let gone = part-deleted w key name delete deletes none in
    reply-refused list.keys v list.request list.moment list.bound (cause_refusal BlobIsAbsent) admits
    (object_refusal-list (part_at v list.request.ask.key) list.request name lists.op lists.blob
    (ap (λ (k : Key). is_some (part_at v k).standing) lists.container ∙ ap (λ (p : Part (List ℕ)). is_some p.standing) gone ∙ container_before w key name delete deletes none)
    (ap (λ (k : Key). blob_in (part_at v k) name) lists.container ∙ ap (λ (p : Part (List ℕ)). blob_in p name) gone
    ∙ ap (λ (o : Option (Blob (List ℕ))). unwrap_or o no_blob) (get-remove_same (part_at w key).blobs name)))
