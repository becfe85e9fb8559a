-- The records of a log in versions 1 and 2: the bytes of each change (the profile's own form: docs/formats/records.md).
use Rattle.std.specs.Prelude.{◌≡◌, ◌==◌, ◌||◌, ℕ, Bool, true, if◌then◌else◌, List, [], ◌∷◌, ◌++◌, Option, Some, None}
use Rattle.base64_text.specs.Base64.{standard, encode_of}
use Rattle.stamp_values.specs.Levels.{level_number}
use Rattle.stamp_values.specs.Letters.{Permissions, letters_text}
use Rattle.stamp_values.specs.declared.level.Level.{Level}
use Rattle.stamp_values.specs.declared.meta.Meta.{Meta}
use Rattle.stamp_values.specs.declared.policy.Policy.{Policy}
use Rattle.stamp_values.specs.declared.acl.Acl.{Acl}
use Rattle.stamp_values.specs.declared.place.Place.{Place}
use Rattle.stamp_values.specs.declared.key.Key.{Key}
use Rattle.stamp_values.specs.declared.block.Taken.{Taken}
use Rattle.stamp_values.specs.declared.block.BlockSource.{BlockSource}
use Rattle.stamp_values.specs.declared.block.BlockSource.TheVariants as source
use Rattle.stamp_types.specs.declared.piece.Piece.{Piece}
use Rattle.stamp_types.specs.declared.piece.Piece.TheVariants.{Bytes, At}
use Rattle.stamp_types.specs.PropsFields.{PropsFields}
use Rattle.stamp_types.specs.declared.standing.Standing.{Standing}
use Rattle.stamp_types.specs.declared.committed.Block.{Block}
use Rattle.stamp_types.specs.declared.committed.Committed.{Committed}
use Rattle.stamp_types.specs.declared.committed.UncommittedBlock.{UncommittedBlock}
use Rattle.stamp_types.specs.declared.act.CreateContainer.{CreateContainer}
use Rattle.stamp_types.specs.declared.act.SetContainerMetadata.{SetContainerMetadata}
use Rattle.stamp_types.specs.declared.act.SetAcl.{SetAcl}
use Rattle.stamp_types.specs.declared.act.PutBlob.{PutBlob}
use Rattle.stamp_types.specs.declared.act.SetMetadata.{SetMetadata}
use Rattle.stamp_types.specs.declared.act.DeleteBlob.{DeleteBlob}
use Rattle.stamp_types.specs.declared.act.PutBlock.{PutBlock}
use Rattle.stamp_types.specs.declared.act.PutBlockList.{PutBlockList}
use Rattle.stamp_types.specs.declared.act.ContainerRow.{ContainerRow}
use Rattle.stamp_types.specs.declared.act.StoredBlob.{StoredBlob}
use Rattle.stamp_types.specs.declared.act.Act.{Act}
use Rattle.stamp_types.specs.declared.act.Act.TheVariants as acts
use Rattle.stamp_types.specs.Changes.{KeyedAct}
use Rattle.log_record.specs.Forms.{short_bytes, long_bytes, string_bytes, option_bytes, list_bytes}

-- ---- the values of which changes are made

-- a moment: its steps of 100 ns since the start of 1970
abbrev pub moment_bytes : ℕ → List ℕ
moment_bytes m = long_bytes m

-- a level: 0 closed, 1 blob, 2 container
abbrev pub level_bytes : Level → List ℕ
level_bytes l = level_number l ∷ []

-- a name of metadata and its value
abbrev pub meta_bytes : Meta → List ℕ
meta_bytes m = string_bytes m.name ++ string_bytes m.value

-- metadata
abbrev pub metadata_bytes : List Meta → List ℕ
metadata_bytes ms = list_bytes meta_bytes ms

-- an MD5 as text: its Base64, or the empty text if there is no MD5
abbrev pub md5_text : Option (List ℕ) → List ℕ
md5_text None = []
md5_text (Some sum) = encode_of standard sum

-- the headers that are kept with a blob
abbrev pub props_bytes : PropsFields → List ℕ
props_bytes p =
    string_bytes p.content_type
    ++ (string_bytes p.encoding ++ (string_bytes p.language ++ (string_bytes (md5_text p.md5) ++ string_bytes p.cache_control)))

-- permissions, by their letters
abbrev pub letters_bytes : Permissions → List ℕ
letters_bytes p = string_bytes (letters_text p)

-- a stored policy
abbrev pub policy_bytes : Policy → List ℕ
policy_bytes p =
    string_bytes p.id ++ (option_bytes moment_bytes p.start ++ (option_bytes moment_bytes p.expiry ++ option_bytes letters_bytes p.letters))

-- the stored policies of a container
abbrev pub policies_bytes : List Policy → List ℕ
policies_bytes ps = list_bytes policy_bytes ps

-- the level and the policies of a container
abbrev pub acl_bytes : Acl → List ℕ
acl_bytes a = level_bytes a.level ++ policies_bytes a.policies

-- a place, and how many bytes are there
abbrev pub placed_bytes : Place → ℕ → List ℕ
placed_bytes place n = long_bytes place.extent ++ (long_bytes place.index ++ short_bytes n)

-- a piece of content: 0 and its bytes, or 1 and its place
abbrev pub piece_bytes : Piece → List ℕ
piece_bytes (Bytes bs) = 0 ∷ string_bytes bs
piece_bytes (At place n) = 1 ∷ placed_bytes place n

-- content
abbrev pub pieces_bytes : List Piece → List ℕ
pieces_bytes ps = list_bytes piece_bytes ps

-- an id as text: the empty text if a block has no id
abbrev pub id_text : Option (List ℕ) → List ℕ
id_text None = []
id_text (Some id) = id

-- a block of a committed part
abbrev pub block_bytes : Block (List Piece) → List ℕ
block_bytes b = string_bytes (id_text b.id) ++ pieces_bytes b.content

-- a committed part
abbrev pub committed_bytes : Committed (List Piece) → List ℕ
committed_bytes c =
    long_bytes c.etag ++ (moment_bytes c.made ++ (props_bytes c.props ++ (metadata_bytes c.metadata ++ list_bytes block_bytes c.blocks)))

-- an uncommitted block
abbrev pub uncommitted_bytes : UncommittedBlock → List ℕ
uncommitted_bytes u = string_bytes u.id ++ pieces_bytes u.content

-- what a container has beside its blobs
abbrev pub standing_bytes : Standing → List ℕ
standing_bytes s =
    long_bytes s.etag ++ (moment_bytes s.made ++ (level_bytes s.acl.level ++ (metadata_bytes s.metadata ++ policies_bytes s.acl.policies)))

-- where a block was found: 1 uncommitted, 2 committed
abbrev pub source_number : BlockSource → ℕ
source_number source.Uncommitted = 1
source_number source.Committed = 2

-- the byte for where a block was found
abbrev pub source_bytes : BlockSource → List ℕ
source_bytes s = source_number s ∷ []

-- an entry of a Put Block List
abbrev pub taken_bytes : Taken → List ℕ
taken_bytes t = string_bytes t.id ++ source_bytes t.from

-- the account and the name of a container
abbrev pub key_bytes : Key → List ℕ
key_bytes k = string_bytes k.account ++ string_bytes k.container

-- ---- the fields of each kind

abbrev pub create_container_bytes : CreateContainer → List ℕ
create_container_bytes a = moment_bytes a.moment ++ (level_bytes a.level ++ metadata_bytes a.metadata)

abbrev pub set_container_metadata_bytes : SetContainerMetadata → List ℕ
set_container_metadata_bytes a = moment_bytes a.moment ++ metadata_bytes a.metadata

abbrev pub set_acl_bytes : SetAcl → List ℕ
set_acl_bytes a = moment_bytes a.moment ++ acl_bytes a.acl

abbrev pub put_blob_bytes : PutBlob → List ℕ
put_blob_bytes a =
    string_bytes a.blob ++ (moment_bytes a.moment ++ (props_bytes a.props ++ (metadata_bytes a.metadata ++ pieces_bytes a.content)))

abbrev pub set_metadata_bytes : SetMetadata → List ℕ
set_metadata_bytes a = string_bytes a.blob ++ (moment_bytes a.moment ++ metadata_bytes a.metadata)

abbrev pub delete_blob_bytes : DeleteBlob → List ℕ
delete_blob_bytes a = string_bytes a.blob

abbrev pub put_block_bytes : PutBlock → List ℕ
put_block_bytes a = string_bytes a.blob ++ (string_bytes a.id ++ pieces_bytes a.content)

abbrev pub put_block_list_bytes : PutBlockList → List ℕ
put_block_list_bytes a =
    string_bytes a.blob ++ (moment_bytes a.moment ++ (props_bytes a.props ++ (metadata_bytes a.metadata ++ list_bytes taken_bytes a.entries)))

abbrev pub container_row_bytes : ContainerRow → List ℕ
container_row_bytes a = long_bytes a.count ++ option_bytes standing_bytes a.standing

abbrev pub stored_blob_bytes : StoredBlob → List ℕ
stored_blob_bytes a =
    string_bytes a.blob ++ (option_bytes committed_bytes a.committed ++ list_bytes uncommitted_bytes a.uncommitted)

-- ---- records

-- the number of what a change does
abbrev pub kind_of : Act → ℕ
kind_of (acts.CreateContainer a) = 1
kind_of (acts.SetContainerMetadata a) = 2
kind_of (acts.SetAcl a) = 3
kind_of acts.DeleteContainer = 4
kind_of (acts.PutBlob a) = 5
kind_of (acts.SetMetadata a) = 6
kind_of (acts.DeleteBlob a) = 7
kind_of (acts.PutBlock a) = 8
kind_of (acts.PutBlockList a) = 9
kind_of (acts.ContainerRow a) = 10
kind_of (acts.StoredBlob a) = 11

-- the fields of what a change does
abbrev pub act_bytes : Act → List ℕ
act_bytes (acts.CreateContainer a) = create_container_bytes a
act_bytes (acts.SetContainerMetadata a) = set_container_metadata_bytes a
act_bytes (acts.SetAcl a) = set_acl_bytes a
act_bytes acts.DeleteContainer = []
act_bytes (acts.PutBlob a) = put_blob_bytes a
act_bytes (acts.SetMetadata a) = set_metadata_bytes a
act_bytes (acts.DeleteBlob a) = delete_blob_bytes a
act_bytes (acts.PutBlock a) = put_block_bytes a
act_bytes (acts.PutBlockList a) = put_block_list_bytes a
act_bytes (acts.ContainerRow a) = container_row_bytes a
act_bytes (acts.StoredBlob a) = stored_blob_bytes a

-- the versions of records that are read; the second one is written
abbrev pub is_version : ℕ → Bool
is_version v = v == 1 || v == 2

-- the epoch, which records of version 1 do not have
abbrev pub epoch_bytes : ℕ → ℕ → List ℕ
epoch_bytes v epoch = if v == 1 then [] else long_bytes epoch

-- the record of a change and of its epoch in a version: the version, the kind, the epoch, the account and the container, and then the
-- fields of the kind
abbrev pub record_bytes : ℕ → KeyedAct → ℕ → List ℕ
record_bytes v c epoch = v ∷ kind_of c.act ∷ (epoch_bytes v epoch ++ (key_bytes c.key ++ act_bytes c.act))

-- the bytes are a record of this change and of this epoch, in one of the versions that are read; in version 1 the epoch is 0
pub record IsRecordOf (bytes : List ℕ) (c : KeyedAct) (epoch : ℕ) : Type 0 where
  pub version : ℕ
  pub known : is_version version ≡ true
  pub zero : (version == 1) ≡ true → epoch ≡ 0
  pub written : bytes ≡ record_bytes version c epoch
