-- The record of a change whose content is at places fits one block of a stream.
use Rattle.std.proofs.Common.{◌≡◌, ℕ, ◌+◌, ◌*◌, ◌≤◌, ◌==◌, ◌&&◌, ◌||◌, Bool, true, false, cond, List, [], ◌∷◌, ◌++◌, length, replicate, Option, Some, None, All, IfSome, IsTrue, refl, ap, subst, ◌∙◌, arith, nat_le, is_some, is_none}
use Rattle.std.specs.List.{flat_map, list_all}
use Rattle.std.proofs.lemmas.Bool.{eqb-true}
use Rattle.std.proofs.lemmas.List.{length-append, length-replicate}
use Rattle.std.proofs.lemmas.List.Concat.{flat_map-cons}
use Rattle.std.proofs.lemmas.List.Elements.{All-head, All-tail, All-nil, All-cons}
use Rattle.std.proofs.lemmas.List.Sums.{sum_by-cons, AllPass-from_list_all}
use Rattle.base64.specs.Rfc4648.{encode_symbols, unpadded_len, padding_len}
use Rattle.base64.specs.GeneralPurpose.{engine_symbols}
use Rattle.base64.proofs.RoundTrip.{length-encode_symbols}
use Rattle.base64_text.specs.Base64.{standard, encode_of}
use Rattle.stamp_values.specs.Names.{is_container, is_blob, is_policy_id, is_metadata_name}
use Rattle.stamp_values.specs.MetadataLists.{is_metadata, metadata_len, meta_len}
use Rattle.stamp_values.specs.Policies.{is_policies}
use Rattle.stamp_values.specs.Letters.{Permissions, letters_text}
use Rattle.stamp_values.specs.declared.meta.Meta.{Meta}
use Rattle.stamp_values.specs.declared.policy.Policy.{Policy}
use Rattle.stamp_values.specs.declared.block.Taken.{Taken}
use Rattle.stamp_types.specs.declared.piece.Piece.{Piece}
use Rattle.stamp_types.specs.declared.piece.Piece.TheVariants.{Bytes, At}
use Rattle.stamp_types.specs.Pieces.{is_pieces, is_placed, is_placed_piece}
use Rattle.stamp_types.specs.PropsFields.{PropsFields, is_kept_text}
use Rattle.stamp_types.specs.declared.standing.Standing.{Standing}
use Rattle.stamp_types.specs.declared.committed.Block.{Block}
use Rattle.stamp_types.specs.declared.committed.Committed.{Committed}
use Rattle.stamp_types.specs.declared.committed.UncommittedBlock.{UncommittedBlock}
use Rattle.stamp_types.specs.declared.act.CreateContainer.{CreateContainer}
use Rattle.stamp_types.specs.declared.act.SetContainerMetadata.{SetContainerMetadata}
use Rattle.stamp_types.specs.declared.act.SetAcl.{SetAcl}
use Rattle.stamp_types.specs.declared.act.PutBlob.{PutBlob}
use Rattle.stamp_types.specs.declared.act.SetMetadata.{SetMetadata}
use Rattle.stamp_types.specs.declared.act.PutBlock.{PutBlock}
use Rattle.stamp_types.specs.declared.act.PutBlockList.{PutBlockList}
use Rattle.stamp_types.specs.declared.act.ContainerRow.{ContainerRow}
use Rattle.stamp_types.specs.declared.act.StoredBlob.{StoredBlob}
use Rattle.stamp_types.specs.declared.act.Act.{Act}
use Rattle.stamp_types.specs.declared.act.Act.TheVariants as acts
use Rattle.stamp_types.specs.Changes.{KeyedAct, is_in_one_piece, is_block, has_ids_or_one, are_blocks, is_committed, are_uncommitted, is_stored_blob, is_act, is_change}
use Rattle.stamp_types.specs.Contents.{EachCommittedContent, EachActContent}
use Rattle.log_record.specs.Fits.{FitsText, FitsMetadata, FitsMd5, FitsProps, FitsPolicies, FitsPolicy, FitsId, FitsBlock, FitsCommitted, FitsUncommitted, FitsStanding, FitsTaken, FitsPieces, FitsCreateContainer, FitsSetContainerMetadata, FitsSetAcl, FitsPutBlob, FitsSetMetadata, FitsPutBlock, FitsPutBlockList, FitsContainerRow, FitsStoredBlob, FitsAct, IsRecorded}
use Rattle.log_record.specs.Forms.{short_bytes, long_bytes, string_bytes, option_bytes, list_bytes, FitsOption}
use Rattle.log_record.specs.Records.{moment_bytes, level_bytes, meta_bytes, metadata_bytes, md5_text, props_bytes, letters_bytes, policy_bytes, policies_bytes, piece_bytes, pieces_bytes, id_text, block_bytes, committed_bytes, uncommitted_bytes, standing_bytes, source_bytes, taken_bytes, create_container_bytes, set_container_metadata_bytes, set_acl_bytes, put_blob_bytes, set_metadata_bytes, put_block_bytes, put_block_list_bytes, container_row_bytes, stored_blob_bytes, act_bytes, epoch_bytes, key_bytes, record_bytes}
use Rattle.log_record.specs.Sizes.{IsPlacedChange, PlacedRecordsFit}
use Rattle.log_record.proofs.LengthLemmas.{both_true, at_most, length-short_bytes, long_within, short_within, string_within, then_within, option_within, list_within, text_within}

-- ---- names, metadata, headers and policies

blob_within : (t : List ℕ) → FitsText t → is_blob t ≡ true → length (string_bytes t) ≤ 4100
blob_within t fits good =
    let within = both_true _ _ (both_true _ _ good).0 in
    string_within t 4096 (text_within t 1024 fits (at_most _ _ within.1))

meta_within : (m : Meta) → is_metadata_name m.name ≡ true → length (meta_bytes m) ≤ 9 * meta_len m
meta_within m good =
    let least = named m.name good in
    let name = string_within m.name (length m.name) (omega arith) in
    let value = string_within m.value (length m.value) (omega arith) in
    omega (arith, length-append (string_bytes m.name) (string_bytes m.value), name, value, least)
  where
    named : (t : List ℕ) → is_metadata_name t ≡ true → 1 ≤ length t
    named [] h = absurd cc
    named (b ∷ t) h = omega arith

metas_within : (ms : List Meta) → list_all (λ m. is_metadata_name m.name) ms ≡ true → length (flat_map meta_bytes ms) ≤ 9 * metadata_len ms
metas_within [] good = omega arith
metas_within (m ∷ ms) good =
    let parts = both_true _ _ good in
    let first = meta_within m parts.0 in
    let others = metas_within ms parts.1 in
    omega (arith, ap length (flat_map-cons meta_bytes m ms), length-append (meta_bytes m) (flat_map meta_bytes ms), sum_by-cons meta_len m ms, first, others)

metadata_good : (ms : List Meta) → is_metadata ms ≡ true → (list_all (λ m. is_metadata_name m.name) ms ≡ true) × (metadata_len ms ≤ 8192)
metadata_good ms e =
    let good = both_true _ _ e in
    let names = both_true _ _ good.0 in
    (names.0, at_most _ _ good.1)

metadata_within : (ms : List Meta) → FitsMetadata ms → length (metadata_bytes ms) ≤ 73732
unfolding list_bytes
metadata_within ms fits =
    let good = metadata_good ms fits.1 in
    let most = good.1 in
    omega (arith, length-append (short_bytes (length ms)) (flat_map meta_bytes ms), length-short_bytes (length ms), metas_within ms good.0, most)

abbrev pads : ℕ → List ℕ
pads n = replicate n 61

md5_within : (o : Option (List ℕ)) → FitsMd5 o → length (string_bytes (md5_text o)) ≤ 28
md5_within None fits = string_within [] 24 (omega arith)
md5_within (Some sum) fits = string_within (encode_of standard sum) 24 (omega (arith, length-append (encode_symbols (engine_symbols standard) sum) (pads (padding_len (length sum))), symbols, padding))
  where
    symbols : length (encode_symbols (engine_symbols standard) sum) ≡ 22
    symbols = length-encode_symbols (engine_symbols standard) sum ∙ ap unpadded_len fits.1.0

    padding : length (pads (padding_len (length sum))) ≡ 2
    padding = length-replicate (padding_len (length sum)) 61 ∙ ap padding_len fits.1.0

kept_within : (t : List ℕ) → is_kept_text t ≡ true → length (string_bytes t) ≤ 16388
kept_within t good = string_within t 16384 (at_most _ _ good)

props_within : (p : PropsFields) → FitsProps p → length (props_bytes p) ≤ 65580
props_within p fits =
    let cache = both_true _ _ fits.1 in
    let language = both_true _ _ cache.0 in
    let encoding = both_true _ _ language.0 in
    let content = both_true _ _ encoding.0 in
    then_within _ _ 16388 49192 (kept_within p.content_type content.1)
    (then_within _ _ 16388 32804 (kept_within p.encoding encoding.1)
    (then_within _ _ 16388 16416 (kept_within p.language language.1) (then_within _ _ 28 16388 (md5_within p.md5 fits.0.1.1.1.0) (kept_within p.cache_control cache.1))))

letters_within : (p : Permissions) → length (letters_bytes p) ≤ 8
letters_within p = string_within (letters_text p) 4 (short p.read p.write p.delete p.list)
  where
    short : (r w d l : Bool) → length (letters_text (record { read = r; write = w; delete = d; list = l })) ≤ 4
    short true true true true = omega arith
    short true true true false = omega arith
    short true true false true = omega arith
    short true true false false = omega arith
    short true false true true = omega arith
    short true false true false = omega arith
    short true false false true = omega arith
    short true false false false = omega arith
    short false true true true = omega arith
    short false true true false = omega arith
    short false true false true = omega arith
    short false true false false = omega arith
    short false false true true = omega arith
    short false false true false = omega arith
    short false false false true = omega arith
    short false false false false = omega arith

moment_option_within : (o : Option ℕ) → length (option_bytes moment_bytes o) ≤ 9
moment_option_within o = option_within moment_bytes 8 o (λ m is. long_within m)

policy_within : (p : Policy) → FitsPolicy p × (is_policy_id p.id ≡ true) → length (policy_bytes p) ≤ 287
policy_within p fits =
    let within = both_true _ _ (both_true _ _ fits.1).0 in
    then_within _ _ 260 27 (string_within p.id 256 (text_within p.id 64 fits.0.0 (at_most _ _ within.1)))
    (then_within _ _ 9 18 (moment_option_within p.start) (then_within _ _ 9 9 (moment_option_within p.expiry) (option_within letters_bytes 8 p.letters (λ l is. letters_within l))))

-- what holds of each item by two lists of facts
All-both : {A : Type 0} (P Q : A → Type 0) (items : List A) → All P items → All Q items → All (λ a. P a × Q a) items
All-both P Q [] p q = All-nil (λ a. P a × Q a)
All-both P Q (a ∷ items) p q =
    All-cons (λ a. P a × Q a) a items (All-head P a items p, All-head Q a items q) (All-both P Q items (All-tail P a items p) (All-tail Q a items q))

policies_good : (ps : List Policy) → is_policies ps ≡ true → (length ps ≤ 5) × (list_all (λ p. is_policy_id p.id) ps ≡ true)
policies_good ps e = let good = both_true _ _ (both_true _ _ e).0 in (at_most _ _ good.0, good.1)

policies_within : (ps : List Policy) → FitsPolicies ps → length (policies_bytes ps) ≤ 1439
policies_within ps fits =
    let good = policies_good ps fits.1 in
    let most = good.0 in
    let each : All (λ p. FitsPolicy p × (is_policy_id p.id ≡ true)) ps = All-both FitsPolicy (λ p. is_policy_id p.id ≡ true) ps fits.0.1 (AllPass-from_list_all (λ p. is_policy_id p.id) ps good.1) in
    let listed = list_within policy_bytes (λ n. 287 * n) 287 (λ n. omega arith) (λ p. FitsPolicy p × (is_policy_id p.id ≡ true)) policy_within ps each in
    omega (arith, listed, most)

standing_within : (s : Standing) → FitsStanding s → length (standing_bytes s) ≤ 75188
standing_within s fits =
    then_within _ _ 8 75180 (long_within s.etag)
    (then_within _ _ 8 75172 (long_within s.made) (then_within (level_bytes s.acl.level) _ 1 75171 (omega arith) (then_within _ _ 73732 1439 (metadata_within s.metadata fits.1.1.1.0) (policies_within s.acl.policies fits.1.1.1.1))))

-- ---- content at places, and blocks

piece_within : (p : Piece) → is_placed_piece p ≡ true → length (piece_bytes p) ≤ 21
piece_within (Bytes bs) placed = absurd cc
piece_within (At place n) placed =
    let parts = then_within (long_bytes place.extent) _ 8 12 (long_within place.extent) (then_within (long_bytes place.index) _ 8 4 (long_within place.index) (short_within n)) in
    omega (arith, parts)

placed_within : (ps : List Piece) → IsTrue (is_placed ps) → length (pieces_bytes ps) ≤ 4 + 21 * length ps
placed_within ps placed = list_within piece_bytes (λ n. 21 * n) 21 (λ n. omega arith) (λ p. is_placed_piece p ≡ true) piece_within ps (AllPass-from_list_all is_placed_piece ps placed)

pieces_good : (ps : List Piece) → is_pieces ps ≡ true → length ps ≤ 16
pieces_good ps e = at_most _ _ (both_true _ _ e).0

content_within : (ps : List Piece) → FitsPieces ps → IsTrue (is_placed ps) → length (pieces_bytes ps) ≤ 340
content_within ps fits placed = omega (arith, placed_within ps placed, pieces_good ps fits.1)

one_within : (ps : List Piece) → is_in_one_piece ps ≡ true → IsTrue (is_placed ps) → length (pieces_bytes ps) ≤ 25
one_within ps one placed = omega (arith, placed_within ps placed, at_most (length ps) 1 one)

id_within : (o : Option (List ℕ)) → FitsOption FitsId o → length (string_bytes (id_text o)) ≤ 68
id_within None fits = string_within [] 64 (omega arith)
id_within (Some id) fits = string_within id 64 fits.1

-- a block that fits, and whose content is at places
abbrev IsPlacedBlock : Block (List Piece) → Type 0
IsPlacedBlock b = FitsBlock b × IsTrue (is_placed b.content)

block_within : (b : Block (List Piece)) → IsPlacedBlock b → length (block_bytes b) ≤ 408
block_within b fits = then_within _ _ 68 340 (id_within b.id fits.0.0) (content_within b.content fits.0.1 fits.1)

-- such a block that has an id, and is in one piece
abbrev IsNamedBlock : Block (List Piece) → Type 0
IsNamedBlock b = IsPlacedBlock b × ((is_block b ≡ true) × (is_some b.id ≡ true))

named_within : (b : Block (List Piece)) → IsNamedBlock b → length (block_bytes b) ≤ 93
named_within b fits = then_within _ _ 68 25 (id_within b.id fits.0.0.0) (one_within b.content (in_one b.id fits.1.1 fits.1.0) fits.0.1)
  where
    in_one : (o : Option (List ℕ)) → is_some o ≡ true → (is_none o || is_in_one_piece b.content) ≡ true → is_in_one_piece b.content ≡ true
    in_one (Some id) there one = one
    in_one None there one = absurd cc

-- at most 50,000 blocks, each in one piece if it has an id, and each with an id or only one block
record AreBlocks (bs : List (Block (List Piece))) : Type 0 where
  most : length bs ≤ 50000
  each : list_all is_block bs ≡ true
  ids : has_ids_or_one bs ≡ true

blocks_good : (bs : List (Block (List Piece))) → are_blocks bs ≡ true → AreBlocks bs
blocks_good bs e =
    let front = both_true _ _ (both_true _ _ e).0 in
    let blocks = both_true _ _ front.0 in
    record { most = at_most _ _ blocks.0; each = blocks.1; ids = front.1 }

named_blocks : (bs : List (Block (List Piece))) → AreBlocks bs → All IsPlacedBlock bs → list_all (λ b. is_some b.id) bs ≡ true → All IsNamedBlock bs
named_blocks bs good placed ids =
    All-both IsPlacedBlock (λ b. (is_block b ≡ true) × (is_some b.id ≡ true)) bs placed
    (All-both (λ b. is_block b ≡ true) (λ b. is_some b.id ≡ true) bs (AllPass-from_list_all is_block bs good.each) (AllPass-from_list_all (λ b. is_some b.id) bs ids))

one_block_within : (bs : List (Block (List Piece))) → All IsPlacedBlock bs → length bs ≡ 1 → length (list_bytes block_bytes bs) ≤ 4650004
one_block_within bs placed one =
    let listed = list_within block_bytes (λ n. 408 * n) 408 (λ n. omega arith) IsPlacedBlock block_within bs placed in
    omega (arith, listed, one)

named_blocks_within : (bs : List (Block (List Piece))) → All IsNamedBlock bs → length bs ≤ 50000 → length (list_bytes block_bytes bs) ≤ 4650004
named_blocks_within bs named most =
    let listed = list_within block_bytes (λ n. 93 * n) 93 (λ n. omega arith) IsNamedBlock named_within bs named in
    omega (arith, listed, most)

blocks_within : (bs : List (Block (List Piece))) → are_blocks bs ≡ true → All IsPlacedBlock bs → length (list_bytes block_bytes bs) ≤ 4650004
blocks_within bs e placed = by (length bs == 1) refl (blocks_good bs e).ids
  where
    by : (one : Bool) → (length bs == 1) ≡ one → (one || list_all (λ b. is_some b.id) bs) ≡ true → length (list_bytes block_bytes bs) ≤ 4650004
    by true is h = one_block_within bs placed (eqb-true (length bs) 1 is)
    by false is h = named_blocks_within bs (named_blocks bs (blocks_good bs e) placed h) (blocks_good bs e).most

committed_within : (c : Committed (List Piece)) → FitsCommitted c → are_blocks c.blocks ≡ true → EachCommittedContent (λ ps. IsTrue (is_placed ps)) c → length (committed_bytes c) ≤ 4789332
committed_within c fits good placed =
    then_within _ _ 8 4789324 (long_within c.etag)
    (then_within _ _ 8 4789316 (long_within c.made)
    (then_within _ _ 65580 4723736 (props_within c.props fits.1.1.0)
    (then_within _ _ 73732 4650004 (metadata_within c.metadata fits.1.1.1.0)
    (blocks_within c.blocks good (All-both FitsBlock (λ b. IsTrue (is_placed b.content)) c.blocks fits.1.1.1.1.1 placed)))))

-- an uncommitted block that fits, in one piece that is at a place
abbrev IsPlacedUncommitted : UncommittedBlock → Type 0
IsPlacedUncommitted u = FitsUncommitted u × (IsTrue (is_placed u.content) × (is_in_one_piece u.content ≡ true))

uncommitted_within : (u : UncommittedBlock) → IsPlacedUncommitted u → length (uncommitted_bytes u) ≤ 93
uncommitted_within u fits = then_within _ _ 68 25 (string_within u.id 64 fits.0.0.1) (one_within u.content fits.1.1 fits.1.0)

uncommitted_good : (us : List UncommittedBlock) → are_uncommitted us ≡ true → (length us ≤ 50000) × (list_all (λ u. is_in_one_piece u.content) us ≡ true)
uncommitted_good us e =
    let front = both_true _ _ (both_true _ _ (both_true _ _ e).0).0 in
    (at_most _ _ front.0, front.1)

uncommitted_list_within : (us : List UncommittedBlock) → are_uncommitted us ≡ true → All FitsUncommitted us → All (λ u. IsTrue (is_placed u.content)) us → length (list_bytes uncommitted_bytes us) ≤ 4650004
uncommitted_list_within us e fits placed =
    let good = uncommitted_good us e in
    let most = good.0 in
    let one = AllPass-from_list_all (λ u. is_in_one_piece u.content) us good.1 in
    let each = All-both (λ u. IsTrue (is_placed u.content)) (λ u. is_in_one_piece u.content ≡ true) us placed one in
    let all : All IsPlacedUncommitted us = All-both FitsUncommitted (λ u. IsTrue (is_placed u.content) × (is_in_one_piece u.content ≡ true)) us fits each in
    let listed = list_within uncommitted_bytes (λ n. 93 * n) 93 (λ n. omega arith) IsPlacedUncommitted uncommitted_within us all in
    omega (arith, listed, most)

taken_within : (t : Taken) → FitsTaken t → length (taken_bytes t) ≤ 69
taken_within t fits = then_within (string_bytes t.id) (source_bytes t.from) 68 1 (string_within t.id 64 fits.0.1) (omega arith)

-- ---- what changes do, and records

create_container_within : (a : CreateContainer) → FitsCreateContainer a → length (create_container_bytes a) ≤ 73741
create_container_within a fits =
    then_within _ _ 8 73733 (long_within a.moment) (then_within (level_bytes a.level) _ 1 73732 (omega arith) (metadata_within a.metadata fits.1.1))

set_container_metadata_within : (a : SetContainerMetadata) → FitsSetContainerMetadata a → length (set_container_metadata_bytes a) ≤ 73740
set_container_metadata_within a fits = then_within _ _ 8 73732 (long_within a.moment) (metadata_within a.metadata fits.1)

set_acl_within : (a : SetAcl) → FitsSetAcl a → length (set_acl_bytes a) ≤ 1448
set_acl_within a fits =
    then_within _ _ 8 1440 (long_within a.moment) (then_within (level_bytes a.acl.level) _ 1 1439 (omega arith) (policies_within a.acl.policies fits.1.1))

put_blob_within : (a : PutBlob) → FitsPutBlob a → is_blob a.blob ≡ true → IsTrue (is_placed a.content) → length (put_blob_bytes a) ≤ 143760
put_blob_within a fits good placed =
    then_within _ _ 4100 139660 (blob_within a.blob fits.0 good)
    (then_within _ _ 8 139652 (long_within a.moment)
    (then_within _ _ 65580 74072 (props_within a.props fits.1.1.0)
    (then_within _ _ 73732 340 (metadata_within a.metadata fits.1.1.1.0) (content_within a.content fits.1.1.1.1 placed))))

set_metadata_within : (a : SetMetadata) → FitsSetMetadata a → is_blob a.blob ≡ true → length (set_metadata_bytes a) ≤ 77840
set_metadata_within a fits good =
    then_within _ _ 4100 73740 (blob_within a.blob fits.0 good) (then_within _ _ 8 73732 (long_within a.moment) (metadata_within a.metadata fits.1.1))

put_block_within : (a : PutBlock) → FitsPutBlock a → is_blob a.blob ≡ true → IsTrue (is_placed a.content) → length (put_block_bytes a) ≤ 4508
put_block_within a fits good placed =
    then_within _ _ 4100 408 (blob_within a.blob fits.0 good) (then_within _ _ 68 340 (string_within a.id 64 fits.1.0.1) (content_within a.content fits.1.1 placed))

entries_within : (ts : List Taken) → All FitsTaken ts → length ts ≤ 50000 → length (list_bytes taken_bytes ts) ≤ 3450004
entries_within ts fits most =
    let listed = list_within taken_bytes (λ n. 69 * n) 69 (λ n. omega arith) FitsTaken taken_within ts fits in
    omega (arith, listed, most)

put_block_list_within : (a : PutBlockList) → FitsPutBlockList a → (is_blob a.blob && nat_le (length a.entries) 50000) ≡ true → length (put_block_list_bytes a) ≤ 3593424
put_block_list_within a fits good =
    let parts = both_true (is_blob a.blob) (nat_le (length a.entries) 50000) good in
    then_within _ _ 4100 3589324 (blob_within a.blob fits.0 parts.0)
    (then_within _ _ 8 3589316 (long_within a.moment)
    (then_within _ _ 65580 3523736 (props_within a.props fits.1.1.0)
    (then_within _ _ 73732 3450004 (metadata_within a.metadata fits.1.1.1.0)
    (entries_within a.entries fits.1.1.1.1.1 (at_most (length a.entries) 50000 parts.1)))))

container_row_within : (a : ContainerRow) → FitsContainerRow a → length (container_row_bytes a) ≤ 75197
container_row_within a fits =
    then_within _ _ 8 75189 (long_within a.count)
    (option_within standing_bytes 75188 a.standing (λ s is. standing_within s (subst (FitsOption FitsStanding) is fits.1)))

stored_blob_within : (a : StoredBlob) → FitsStoredBlob a → is_stored_blob a ≡ true → EachActContent (λ ps. IsTrue (is_placed ps)) (acts.StoredBlob a) → length (stored_blob_bytes a) ≤ 9443437
stored_blob_within a fits good placed =
    let parts = both_true _ _ good in
    let front = both_true _ _ parts.0 in
    let name = both_true _ _ front.0 in
    then_within _ _ 4100 9439337 (blob_within a.blob fits.0 name.0)
    (then_within _ _ 4789333 4650004
    (option_within committed_bytes 4789332 a.committed (λ c is.
    committed_within c (subst (FitsOption FitsCommitted) is fits.1.0) (subst (λ o. is_committed o ≡ true) is front.1)
    (subst (λ o. IfSome o (EachCommittedContent (λ ps. IsTrue (is_placed ps)))) is placed.0)))
    (uncommitted_list_within a.uncommitted parts.1 fits.1.1.1 placed.1))

-- a number that is at most a small number is at most a large one
small : (n m : ℕ) → n ≤ m → m ≤ 9443437 → n ≤ 9443437
small n m below most = omega (arith, below, most)

act_within : (a : Act) → FitsAct a → is_act a ≡ true → EachActContent (λ ps. IsTrue (is_placed ps)) a → length (act_bytes a) ≤ 9443437
act_within (acts.CreateContainer a) fits good placed = small _ 73741 (create_container_within a fits) (omega arith)
act_within (acts.SetContainerMetadata a) fits good placed = small _ 73740 (set_container_metadata_within a fits) (omega arith)
act_within (acts.SetAcl a) fits good placed = small _ 1448 (set_acl_within a fits) (omega arith)
act_within acts.DeleteContainer fits good placed = omega arith
act_within (acts.PutBlob a) fits good placed = small _ 143760 (put_blob_within a fits good placed) (omega arith)
act_within (acts.SetMetadata a) fits good placed = small _ 77840 (set_metadata_within a fits good) (omega arith)
act_within (acts.DeleteBlob a) fits good placed = small _ 4100 (blob_within a.blob fits good) (omega arith)
act_within (acts.PutBlock a) fits good placed = small _ 4508 (put_block_within a fits (both_true _ _ good).0 placed) (omega arith)
act_within (acts.PutBlockList a) fits good placed = small _ 3593424 (put_block_list_within a fits good) (omega arith)
act_within (acts.ContainerRow a) fits good placed = small _ 75197 (container_row_within a fits) (omega arith)
act_within (acts.StoredBlob a) fits good placed = stored_blob_within a fits good placed

container_short : (t : List ℕ) → is_container t ≡ true → length t ≤ 63
container_short t good = at_most _ _ (both_true _ _ (both_true _ _ (both_true _ _ (both_true _ _ (both_true _ _ good).0).0).0).0).1

key_within : (c : KeyedAct) → is_change c ≡ true → length (key_bytes c.key) ≤ 95
key_within c good =
    let names = both_true _ _ (both_true _ _ good).0 in
    let account = both_true _ _ (both_true _ _ names.0).0 in
    then_within _ _ 28 67 (string_within c.key.account 24 (at_most _ _ account.1)) (string_within c.key.container 63 (container_short c.key.container names.1))

act_good : (c : KeyedAct) → is_change c ≡ true → is_act c.act ≡ true
act_good c good = (both_true _ _ good).1

epoch_within : (v epoch : ℕ) → length (epoch_bytes v epoch) ≤ 8
epoch_within v epoch = by (v == 1)
  where
    by : (b : Bool) → length (cond b [] (long_bytes epoch)) ≤ 8
    by true = omega arith
    by false = long_within epoch

pub record_within : PlacedRecordsFit
record_within v c epoch recorded placed =
    let all = then_within (key_bytes c.key) (act_bytes c.act) 95 9443437 (key_within c recorded.good) (act_within c.act recorded.act (act_good c recorded.good) placed) in
    let more = then_within (epoch_bytes v epoch) (key_bytes c.key ++ act_bytes c.act) 8 9443532 (epoch_within v epoch) all in
    omega (arith, more)

-- the same, of the bytes that a writer gave
pub written_within : (c : KeyedAct) (epoch : ℕ) (bytes : List ℕ) → bytes ≡ record_bytes 2 c epoch → IsRecorded c → IsPlacedChange c → length bytes ≤ 16777216
written_within c epoch bytes is recorded placed = omega (arith, ap length is, record_within 2 c epoch recorded placed)
