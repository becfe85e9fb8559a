-- Which plain values are values of the program's types, with lengths that four bytes can write (docs/formats/records.md).
use Rattle.std.specs.Prelude.{◌≡◌, ◌==◌, ℕ, ◌<◌, ◌≤◌, ◌^◌, Bool, true, ◌&&◌, List, length, Option}
use Rattle.base64_text.specs.Base64.{IsBytes}
use Rattle.stamp_values.specs.Texts.{is_utf8, is_clean, is_visible}
use Rattle.stamp_values.specs.MetadataLists.{is_metadata}
use Rattle.stamp_values.specs.Letters.{Permissions, has_permission}
use Rattle.stamp_values.specs.Policies.{is_policies}
use Rattle.stamp_values.specs.declared.level.Level.{Level}
use Rattle.stamp_values.specs.declared.meta.Meta.{Meta}
use Rattle.stamp_values.specs.declared.policy.Policy.{Policy}
use Rattle.stamp_values.specs.declared.acl.Acl.{Acl}
use Rattle.stamp_values.specs.declared.place.Place.{Place}
use Rattle.stamp_values.specs.declared.key.Key.{Key}
use Rattle.stamp_values.specs.declared.block.Taken.{Taken}
use Rattle.stamp_values.specs.declared.block.BlockSource.{BlockSource}
use Rattle.stamp_types.specs.declared.piece.Piece.{Piece}
use Rattle.stamp_types.specs.declared.piece.Piece.TheVariants.{Bytes, At}
use Rattle.stamp_types.specs.Pieces.{is_pieces}
use Rattle.stamp_types.specs.PropsFields.{PropsFields, is_props}
use Rattle.stamp_types.specs.declared.standing.Standing.{Standing}
use Rattle.stamp_types.specs.declared.committed.Block.{Block}
use Rattle.stamp_types.specs.declared.committed.Committed.{Committed}
use Rattle.stamp_types.specs.declared.committed.UncommittedBlock.{UncommittedBlock}
use Rattle.stamp_types.specs.declared.act.CreateContainer.{CreateContainer}
use Rattle.stamp_types.specs.declared.act.SetContainerMetadata.{SetContainerMetadata}
use Rattle.stamp_types.specs.declared.act.SetAcl.{SetAcl}
use Rattle.stamp_types.specs.declared.act.PutBlob.{PutBlob}
use Rattle.stamp_types.specs.declared.act.SetMetadata.{SetMetadata}
use Rattle.stamp_types.specs.declared.act.DeleteBlob.{DeleteBlob}
use Rattle.stamp_types.specs.declared.act.PutBlock.{PutBlock}
use Rattle.stamp_types.specs.declared.act.PutBlockList.{PutBlockList}
use Rattle.stamp_types.specs.declared.act.ContainerRow.{ContainerRow}
use Rattle.stamp_types.specs.declared.act.StoredBlob.{StoredBlob}
use Rattle.stamp_types.specs.declared.act.Act.{Act}
use Rattle.stamp_types.specs.declared.act.Act.TheVariants as acts
use Rattle.stamp_types.specs.Changes.{KeyedAct, is_change}
use Rattle.log_record.specs.Forms.{FitsOption, FitsList}
use Rattle.log_record.specs.Records.{md5_text}

-- the last moment of the year 9999
abbrev pub last_moment : ℕ
last_moment = 2534023007999999999

-- a text in UTF-8 without control characters
abbrev pub is_text : List ℕ → Bool
is_text t = is_utf8 t && is_clean t

abbrev pub FitsMoment : ℕ → Type 0
FitsMoment m = m ≤ last_moment

-- each level fits
abbrev pub FitsLevel : Level → Type 0
FitsLevel l = Unit {0}

-- each place where a block can be found fits
abbrev pub FitsSource : BlockSource → Type 0
FitsSource s = Unit {0}

-- 1 to 64 bytes
abbrev pub FitsId : List ℕ → Type 0
FitsId t = (1 ≤ length t) × (length t ≤ 64)

abbrev pub FitsText : List ℕ → Type 0
FitsText t = (length t < 2 ^ 32) × (is_text t ≡ true)

abbrev pub FitsVisible : List ℕ → Type 0
FitsVisible t = FitsText t × (is_visible t ≡ true)

abbrev pub FitsMeta : Meta → Type 0
FitsMeta m = FitsText m.name × FitsVisible m.value

abbrev pub FitsMetadata : List Meta → Type 0
FitsMetadata ms = FitsList FitsMeta ms × (is_metadata ms ≡ true)

-- 16 bytes
abbrev pub IsSum : List ℕ → Type 0
IsSum sum = (length sum ≡ 16) × IsBytes sum

abbrev pub FitsMd5 : Option (List ℕ) → Type 0
FitsMd5 md5 = (length (md5_text md5) < 2 ^ 32) × FitsOption IsSum md5

abbrev pub FitsProps : PropsFields → Type 0
FitsProps p =
    (FitsVisible p.content_type × (FitsVisible p.encoding × (FitsVisible p.language × (FitsMd5 p.md5 × FitsVisible p.cache_control))))
    × (is_props p ≡ true)

abbrev pub FitsLetters : Permissions → Type 0
FitsLetters p = has_permission p ≡ true

abbrev pub FitsPolicy : Policy → Type 0
FitsPolicy p = FitsText p.id × (FitsOption FitsMoment p.start × (FitsOption FitsMoment p.expiry × FitsOption FitsLetters p.letters))

abbrev pub FitsPolicies : List Policy → Type 0
FitsPolicies ps = FitsList FitsPolicy ps × (is_policies ps ≡ true)

abbrev pub FitsAcl : Acl → Type 0
FitsAcl a = FitsLevel a.level × FitsPolicies a.policies

abbrev pub FitsPlaced : Place → ℕ → Type 0
FitsPlaced place n = (place.extent < 2 ^ 64) × ((place.index < 2 ^ 64) × (n < 2 ^ 32))

abbrev pub FitsPiece : Piece → Type 0
FitsPiece (Bytes bs) = length bs < 2 ^ 32
FitsPiece (At place n) = FitsPlaced place n

abbrev pub FitsPieces : List Piece → Type 0
FitsPieces ps = FitsList FitsPiece ps × (is_pieces ps ≡ true)

abbrev pub FitsBlock : Block (List Piece) → Type 0
FitsBlock b = FitsOption FitsId b.id × FitsPieces b.content

abbrev pub FitsCommitted : Committed (List Piece) → Type 0
FitsCommitted c =
    (c.etag < 2 ^ 64) × (FitsMoment c.made × (FitsProps c.props × (FitsMetadata c.metadata × FitsList FitsBlock c.blocks)))

abbrev pub FitsUncommitted : UncommittedBlock → Type 0
FitsUncommitted u = FitsId u.id × FitsPieces u.content

abbrev pub FitsStanding : Standing → Type 0
FitsStanding s =
    (s.etag < 2 ^ 64) × (FitsMoment s.made × (FitsLevel s.acl.level × (FitsMetadata s.metadata × FitsPolicies s.acl.policies)))

abbrev pub FitsTaken : Taken → Type 0
FitsTaken t = FitsId t.id × FitsSource t.from

abbrev pub FitsKey : Key → Type 0
FitsKey k = FitsText k.account × FitsText k.container

abbrev pub FitsCreateContainer : CreateContainer → Type 0
FitsCreateContainer a = FitsMoment a.moment × (FitsLevel a.level × FitsMetadata a.metadata)

abbrev pub FitsSetContainerMetadata : SetContainerMetadata → Type 0
FitsSetContainerMetadata a = FitsMoment a.moment × FitsMetadata a.metadata

abbrev pub FitsSetAcl : SetAcl → Type 0
FitsSetAcl a = FitsMoment a.moment × FitsAcl a.acl

abbrev pub FitsPutBlob : PutBlob → Type 0
FitsPutBlob a = FitsText a.blob × (FitsMoment a.moment × (FitsProps a.props × (FitsMetadata a.metadata × FitsPieces a.content)))

abbrev pub FitsSetMetadata : SetMetadata → Type 0
FitsSetMetadata a = FitsText a.blob × (FitsMoment a.moment × FitsMetadata a.metadata)

abbrev pub FitsDeleteBlob : DeleteBlob → Type 0
FitsDeleteBlob a = FitsText a.blob

abbrev pub FitsPutBlock : PutBlock → Type 0
FitsPutBlock a = FitsText a.blob × (FitsId a.id × FitsPieces a.content)

abbrev pub FitsPutBlockList : PutBlockList → Type 0
FitsPutBlockList a = FitsText a.blob × (FitsMoment a.moment × (FitsProps a.props × (FitsMetadata a.metadata × FitsList FitsTaken a.entries)))

abbrev pub FitsContainerRow : ContainerRow → Type 0
FitsContainerRow a = (a.count < 2 ^ 64) × FitsOption FitsStanding a.standing

abbrev pub FitsStoredBlob : StoredBlob → Type 0
FitsStoredBlob a = FitsText a.blob × (FitsOption FitsCommitted a.committed × FitsList FitsUncommitted a.uncommitted)

abbrev pub FitsAct : Act → Type 0
FitsAct (acts.CreateContainer a) = FitsCreateContainer a
FitsAct (acts.SetContainerMetadata a) = FitsSetContainerMetadata a
FitsAct (acts.SetAcl a) = FitsSetAcl a
FitsAct acts.DeleteContainer = Unit {0}
FitsAct (acts.PutBlob a) = FitsPutBlob a
FitsAct (acts.SetMetadata a) = FitsSetMetadata a
FitsAct (acts.DeleteBlob a) = FitsDeleteBlob a
FitsAct (acts.PutBlock a) = FitsPutBlock a
FitsAct (acts.PutBlockList a) = FitsPutBlockList a
FitsAct (acts.ContainerRow a) = FitsContainerRow a
FitsAct (acts.StoredBlob a) = FitsStoredBlob a

-- the plain value of a change of the program's types, with lengths that four bytes can write
pub record IsRecorded (c : KeyedAct) : Type 0 where
  pub key : FitsKey c.key
  pub act : FitsAct c.act
  pub good : is_change c ≡ true

-- the epoch is a number of eight bytes, and in version 1 it is 0
abbrev pub FitsEpoch : ℕ → ℕ → Type 0
FitsEpoch v epoch = (epoch < 2 ^ 64) × ((v == 1) ≡ true → epoch ≡ 0)
