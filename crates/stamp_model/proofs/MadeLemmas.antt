-- What a Create Container makes, and what replies say of blocks.
use Rattle.std.proofs.Common.{◌≡◌, ℕ, ◌+◌, true, cond, ◌&&◌, drop, List, [], ◌∷◌, ◌++◌, length, map, Option, Some, None, refl, sym, ap, ◌∙◌, unwrap_or}
use Rattle.std.specs.Prelude.{codes, find, is_none, is_some}
use Rattle.std.specs.Option.{option_map}
use Rattle.md5.specs.Md5.{md5}
use Rattle.stamp_values.specs.Operations.{is_op}
use Rattle.stamp_values.specs.declared.block.BlockKinds.{BlockKinds}
use Rattle.stamp_values.specs.declared.block.BlockKinds.TheVariants as kinds
use Rattle.stamp_values.specs.declared.key.Key.{Key}
use Rattle.stamp_values.specs.declared.level.Level.TheVariants as level
use Rattle.stamp_values.specs.declared.op.Op.{Op}
use Rattle.stamp_values.specs.declared.op.Op.TheVariants as op
use Rattle.stamp_types.specs.declared.act.Act.TheVariants as act
use Rattle.stamp_types.specs.declared.committed.Committed.{Committed}
use Rattle.stamp_types.specs.declared.header.Header.{Header}
use Rattle.stamp_types.specs.declared.header.Header.TheVariants as header
use Rattle.stamp_types.specs.declared.reply.Reply.{Reply}
use Rattle.stamp_types.specs.declared.standing.Standing.{Standing}
use Rattle.stamp_types.specs.Replies.{denied}
use Rattle.stamp_types.specs.Requests.{IsAsk}
use Rattle.stamp_types.specs.World.{Blob, Part, World, no_blob, blob_in, part_at, committed_value}
use Rattle.stamp_types.proofs.WorldLemmas.{blob_in-part_value}
use Rattle.body_forms.specs.WrittenLists.{ListedBlock, block_list_text}
use Rattle.range_rows.specs.Frames.{committed_headers, date_headers, empty_standing, metadata_headers}
use Rattle.range_rows.specs.SentContent.{byte_count, sizes}
use Rattle.range_rows.specs.ShownBlocks.{list_text, listed_committed, listed_uncommitted}
use Rattle.range_rows.specs.ObjectRules.{cause_holds, cause_refusal, causes, needs_container, object_refusal}
use Rattle.range_rows.specs.ObjectRules.Cause.{ContainerIsAbsent, ContainerExists}
use Rattle.range_rows.specs.RequestChanges.{act_by, create_container}
use Rattle.stamp_model.specs.Blocks.{wanted_bytes}
use Rattle.stamp_model.specs.Runs.{Timed, IsAdmitted, IsIn, IsOn, world_after_one, reply_to_one}
use Rattle.stamp_model.proofs.BlockLemmas.{body-block_list, committed-list, content-list, kept-list, list_there}
use Rattle.stamp_model.proofs.PartLemmas.{sizes_of_bytes}
use Rattle.stamp_model.proofs.ReadLemmas.{part_at-act, reply-read_in, reply-refused, reply-write_in}
use Rattle.range_rows.specs.Readings.{wanted_blocks}

-- ---- Create Container

module _ (w : World (List ℕ)) (key : Key) (create : Timed) (creates : IsIn op.CreateContainer key create.request) (none : (reply_to_one w create).rule ≡ None) where
  -- what a Create Container makes: the metadata and the level that it asks for, and no policies
  abbrev pub made : Standing
  made = record {
    etag = (part_at w key).count + 1;
    made = create.moment;
    metadata = create.request.ask.args.metadata;
    acl = record { level = unwrap_or create.request.ask.args.level level.Closed; policies = [] };
  }

  pub standing-made : (part_at (world_after_one w create) key).standing ≡ Some made
  standing-made =
      ap (λ (p : Part (List ℕ)). p.standing)
      (part_at-act create.keys w create.request create.moment create.bound key (act.CreateContainer (create_container create.request create.moment)) creates.container none
      (λ z. ap (λ (o : Op). act_by o z create.request create.moment) creates.op))

  -- the reply to a Create Container has the ETag and the moment of its change
  pub headers-made : (reply_to_one w create).headers ≡ date_headers ((part_at w key).count + 1) create.moment
  headers-made =
      ap (λ (r : Reply). r.headers) (reply-write_in create.keys w create.request create.moment create.bound none op.CreateContainer key refl creates)
      ∙ ap (λ (o : Option Standing). date_headers (unwrap_or o empty_standing).etag (unwrap_or o empty_standing).made) standing-made

  -- the reply to a Get Container Properties after it has the metadata that it asks for, and the same ETag and moment
  pub headers-made_properties : (get : Timed) → IsIn op.ContainerProperties key get.request → (reply_to_one (world_after_one w create) get).rule ≡ None
      → (reply_to_one (world_after_one w create) get).headers ≡ map header.Meta create.request.ask.args.metadata ++ (reply_to_one w create).headers
  headers-made_properties get gets free =
      ap (λ (r : Reply). r.headers) (reply-read_in get.keys (world_after_one w create) get.request get.moment get.bound free op.ContainerProperties key refl refl gets)
      ∙ ap (λ (o : Option Standing). metadata_headers (unwrap_or o empty_standing).metadata (unwrap_or o empty_standing).etag (unwrap_or o empty_standing).made) standing-made
      ∙ ap (λ (hs : List Header). map header.Meta create.request.ask.args.metadata ++ hs) (sym headers-made)

-- a Create Container of a container that exists is refused by O2, if permission admits it
pub reply-exists : (w : World (List ℕ)) (key : Key) (create : Timed) → IsIn op.CreateContainer key create.request → is_some (part_at w key).standing ≡ true → IsAdmitted w create
    → reply_to_one w create ≡ denied (cause_refusal ContainerExists)
reply-exists w key create creates exists admits =
    let p : Part (List ℕ) = part_at w create.request.ask.key in
    let there : is_some p.standing ≡ true = ap (λ (k : Key). is_some (part_at w k).standing) creates.container ∙ exists in
    let refused : object_refusal (sizes p) create.request ≡ Some (cause_refusal ContainerExists) =
    λ i. option_map cause_refusal (cond (needs_container (creates.op i) && is_none p.standing) (Some ContainerIsAbsent)
    (cond (is_op op.CreateContainer (creates.op i) && there i) (Some ContainerExists) (find (cause_holds (sizes p) create.request) (drop 2 causes)))) in
    reply-refused create.keys w create.request create.moment create.bound (cause_refusal ContainerExists) admits refused

-- ---- blocks

-- the reply to a Put Block has the MD5 of its body, and no other header
pub headers-put_block : (w : World (List ℕ)) (key : Key) (put : Timed) → IsIn op.PutBlock key put.request → (reply_to_one w put).rule ≡ None
    → (reply_to_one w put).headers ≡ header.ContentMd5 (md5 put.request.body) ∷ []
headers-put_block w key put puts none = ap (λ (r : Reply). r.headers) (reply-write_in put.keys w put.request put.moment put.bound none op.PutBlock key refl puts)

module _ (w : World (List ℕ)) (key : Key) (name : List ℕ) (list read : Timed) (fits : IsAsk list.request.ask) (lists : IsOn op.PutBlockList key name list.request)
    (none : (reply_to_one w list).rule ≡ None) (reads : IsOn op.GetBlockList key name read.request) (free : (reply_to_one (world_after_one w list) read).rule ≡ None) where
  -- the reply to a Get Block List after the Put Block List has the length of the committed content, the ETag and the moment of the list
  pub headers-listed : (reply_to_one (world_after_one w list) read).headers
      ≡ header.ContentType (codes "application/xml") ∷ header.BlobLength (length (wanted_bytes (blob_in (part_at w key) name) (wanted_blocks list.request)))
      ∷ date_headers ((part_at w key).count + 1) list.moment
  headers-listed =
      let v : World (List ℕ) = world_after_one w list in
      let keeps = kept-list list.request key name fits lists in
      let there : Committed (List ℕ) = list_there w key name list lists none keeps.0 keeps.1 in
      let listed : Option (Committed ℕ) → List Header = λ c. header.ContentType (codes "application/xml") ∷ committed_headers c in
      ap (λ (r : Reply). r.headers) (reply-read_in read.keys v read.request read.moment read.bound free op.GetBlockList key refl refl (record { op = reads.op; container = reads.container }))
      ∙ ap (λ (blob : Option (List ℕ)). listed (unwrap_or (option_map (blob_in (sizes (part_at v key))) blob) no_blob).committed) reads.blob
      ∙ ap (λ (b : Blob ℕ). listed b.committed) (blob_in-part_value byte_count (part_at v key) name)
      ∙ ap (λ (c : Option (Committed (List ℕ))). listed (option_map (committed_value byte_count) c)) (committed-list w key name list lists none keeps.0 keeps.1)
      ∙ ap (λ n. header.ContentType (codes "application/xml") ∷ header.BlobLength n ∷ date_headers ((part_at w key).count + 1) list.moment)
      (sizes_of_bytes there.blocks ∙ ap (λ (bytes : List ℕ). length bytes) (content-list w key name list lists none keeps.0 keeps.1))

module _ (w : World (List ℕ)) (key : Key) (name : List ℕ) (read : Timed) (reads : IsOn op.GetBlockList key name read.request) (free : (reply_to_one w read).rule ≡ None) where
  abbrev committed_shown : List ListedBlock
  committed_shown = listed_committed (blob_in (sizes (part_at w key)) name).committed

  abbrev uncommitted_shown : List ListedBlock
  uncommitted_shown = listed_uncommitted (blob_in (sizes (part_at w key)) name).uncommitted

  body-kinds : (k : Option BlockKinds) → read.request.ask.args.kinds ≡ k → (reply_to_one w read).body ≡ list_text k (blob_in (sizes (part_at w key)) name)
  body-kinds k asks = body-block_list w key name read reads free ∙ ap (λ (k : Option BlockKinds). list_text k (blob_in (sizes (part_at w key)) name)) asks

  -- a Get Block List of the committed blocks shows the list of these blocks alone
  pub committed-alone : read.request.ask.args.kinds ≡ Some kinds.Committed → (blocks : List ListedBlock) × ((reply_to_one w read).body ≡ block_list_text (Some blocks) None)
  committed-alone asks = (committed_shown, body-kinds (Some kinds.Committed) asks)

  -- a Get Block List of the uncommitted blocks shows the list of these blocks alone
  pub uncommitted-alone : read.request.ask.args.kinds ≡ Some kinds.Uncommitted → (blocks : List ListedBlock) × ((reply_to_one w read).body ≡ block_list_text None (Some blocks))
  uncommitted-alone asks = (uncommitted_shown, body-kinds (Some kinds.Uncommitted) asks)

  -- a Get Block List of all blocks shows both lists
  pub both_lists : read.request.ask.args.kinds ≡ Some kinds.All → (committed : List ListedBlock) × (uncommitted : List ListedBlock) × ((reply_to_one w read).body ≡ block_list_text (Some committed) (Some uncommitted))
  both_lists asks = (committed_shown, uncommitted_shown, body-kinds (Some kinds.All) asks)
