-- What `==` says of changes and their parts: whether they are equal.
use Rattle.std.proofs.Common.{rules, ◌≡◌, Bool, ◌&&◌, List, Option, Some, None, refl, ap, Decides, nat_eq}
use Rattle.std.proofs.lemmas.Bool.Decides.{Decides-and, Decides-like, Decides-eqb}
use Rattle.std.proofs.lemmas.Slice.Eq.{slice_eq-Decides, bytes_eq-Decides}
use Rattle.std.specs.Str.{bytes_eq}
use Rattle.std.specs.Cmp.{booleans_Decides}
use Rattle.std.specs.Option.{option_eq}
use Rattle.std.specs.Cmp.Lexicographic.{pointwise}
use mathlib.Core.Bool.{beq}
use denote.Enum.Bare.{sameb, same_true, true_same}
use Rattle.stamp_values.specs.contracts.level.Level as level
use Rattle.stamp_values.specs.contracts.block.BlockSource as source
use Rattle.stamp_types.specs.contracts.act.ActPartialEq.TheImpl as act_impl
use Rattle.stamp_types.specs.contracts.piece.PiecePartialEq.TheImpl as piece_impl
use Rattle.stamp_values.specs.declared.level.Level.{Level}
use Rattle.stamp_values.specs.declared.block.BlockSource.{BlockSource}
use Rattle.stamp_values.specs.declared.block.Taken.{Taken}
use Rattle.stamp_values.specs.declared.key.Key.{Key}
use Rattle.stamp_values.specs.declared.meta.Meta.{Meta}
use Rattle.stamp_values.specs.declared.place.Place.{Place}
use Rattle.stamp_values.specs.declared.policy.Policy.{Policy}
use Rattle.stamp_values.specs.declared.acl.Acl.{Acl}
use Rattle.stamp_types.specs.declared.standing.Standing.{Standing}
use Rattle.stamp_types.specs.declared.piece.Piece.{Piece}
use Rattle.stamp_types.specs.declared.piece.Piece.TheVariants as pieces
use Rattle.stamp_types.specs.declared.committed.Block.{Block}
use Rattle.stamp_types.specs.declared.committed.Committed.{Committed}
use Rattle.stamp_types.specs.declared.committed.UncommittedBlock.{UncommittedBlock}
use Rattle.stamp_types.specs.declared.act.CreateContainer.{CreateContainer}
use Rattle.stamp_types.specs.declared.act.SetContainerMetadata.{SetContainerMetadata}
use Rattle.stamp_types.specs.declared.act.SetAcl.{SetAcl}
use Rattle.stamp_types.specs.declared.act.PutBlob.{PutBlob}
use Rattle.stamp_types.specs.declared.act.SetMetadata.{SetMetadata}
use Rattle.stamp_types.specs.declared.act.DeleteBlob.{DeleteBlob}
use Rattle.stamp_types.specs.declared.act.PutBlock.{PutBlock}
use Rattle.stamp_types.specs.declared.act.PutBlockList.{PutBlockList}
use Rattle.stamp_types.specs.declared.act.ContainerRow.{ContainerRow}
use Rattle.stamp_types.specs.declared.act.StoredBlob.{StoredBlob}
use Rattle.stamp_types.specs.declared.act.Act.{Act}
use Rattle.stamp_types.specs.declared.act.Act.TheVariants as acts
use Rattle.stamp_values.specs.Letters.{Permissions}
use Rattle.stamp_types.specs.Pieces.{pieces_len}
use Rattle.stamp_types.specs.PropsFields.{PropsFields}
use Rattle.stamp_types.specs.Changes.{KeyedAct}

-- `==` of lists says whether the lists are equal, if `==` of the items says whether the items are equal
lists_decide : {A : Type 0} {E : A → A → Bool} → ((a b : A) → Decides (E a b) (a ≡ b)) → (xs ys : List A) → Decides (pointwise E xs ys) (xs ≡ ys)
lists_decide each xs ys = slice_eq-Decides each xs ys _ refl

options_decide : {A : Type 0} {E : A → A → Bool} → ((a b : A) → Decides (E a b) (a ≡ b)) → (x y : Option A) → Decides (option_eq E x y) (x ≡ y)
options_decide each None None = (λ e. refl, λ e. refl)
options_decide each None (Some y) = (λ e. cc, λ e. cc)
options_decide each (Some x) None = (λ e. cc, λ e. cc)
options_decide each (Some x) (Some y) = Decides-like _ (λ e i. Some (e i)) (λ e. cc) (each x y)

level_decides : (a b : Level) → Decides (sameb level.the_type a b) (a ≡ b)
level_decides a b = (same_true level.the_type (search rules) a b, true_same level.the_type a b)

source_decides : (a b : BlockSource) → Decides (sameb source.the_type a b) (a ≡ b)
source_decides a b = (same_true source.the_type (search rules) a b, true_same source.the_type a b)

abbrev taken_eq : Taken → Taken → Bool
taken_eq a b = bytes_eq a.id b.id && sameb source.the_type a.from b.from

taken_decides : (a b : Taken) → Decides (taken_eq a b) (a ≡ b)
taken_decides a b =
    Decides-like _ (λ e i. record { id = e.0 i; from = e.1 i }) (λ e. (λ i. (e i).id, λ i. (e i).from))
    (Decides-and _ _ (bytes_eq-Decides a.id b.id) (source_decides a.from b.from))

abbrev meta_eq : Meta → Meta → Bool
meta_eq a b = bytes_eq a.name b.name && bytes_eq a.value b.value

meta_decides : (a b : Meta) → Decides (meta_eq a b) (a ≡ b)
meta_decides a b =
    Decides-like _ (λ e i. record { name = e.0 i; value = e.1 i }) (λ e. (λ i. (e i).name, λ i. (e i).value))
    (Decides-and _ _ (bytes_eq-Decides a.name b.name) (bytes_eq-Decides a.value b.value))

abbrev letters_eq : Permissions → Permissions → Bool
letters_eq a b = beq a.read b.read && (beq a.write b.write && (beq a.delete b.delete && beq a.list b.list))

letters_decide : (a b : Permissions) → Decides (letters_eq a b) (a ≡ b)
letters_decide a b =
    Decides-like _ (λ e i. record { read = e.0 i; write = e.1.0 i; delete = e.1.1.0 i; list = e.1.1.1 i })
    (λ e. (λ i. (e i).read, (λ i. (e i).write, (λ i. (e i).delete, λ i. (e i).list))))
    (Decides-and _ _ (booleans_Decides a.read b.read) (Decides-and _ _ (booleans_Decides a.write b.write) (Decides-and _ _ (booleans_Decides a.delete b.delete) (booleans_Decides a.list b.list))))

abbrev policy_eq : Policy → Policy → Bool
policy_eq a b =
    bytes_eq a.id b.id && (option_eq nat_eq a.start b.start && (option_eq nat_eq a.expiry b.expiry && option_eq letters_eq a.letters b.letters))

policy_decides : (a b : Policy) → Decides (policy_eq a b) (a ≡ b)
policy_decides a b =
    Decides-like _ (λ e i. record { id = e.0 i; start = e.1.0 i; expiry = e.1.1.0 i; letters = e.1.1.1 i })
    (λ e. (λ i. (e i).id, (λ i. (e i).start, (λ i. (e i).expiry, λ i. (e i).letters))))
    (Decides-and _ _ (bytes_eq-Decides a.id b.id) (Decides-and _ _ (options_decide Decides-eqb a.start b.start) (Decides-and _ _ (options_decide Decides-eqb a.expiry b.expiry) (options_decide letters_decide a.letters b.letters))))

abbrev acl_eq : Acl → Acl → Bool
acl_eq a b = sameb level.the_type a.level b.level && pointwise policy_eq a.policies b.policies

acl_decides : (a b : Acl) → Decides (acl_eq a b) (a ≡ b)
acl_decides a b =
    Decides-like _ (λ e i. record { level = e.0 i; policies = e.1 i }) (λ e. (λ i. (e i).level, λ i. (e i).policies))
    (Decides-and _ _ (level_decides a.level b.level) (lists_decide policy_decides a.policies b.policies))

abbrev props_eq : PropsFields → PropsFields → Bool
props_eq a b =
    bytes_eq a.content_type b.content_type && (bytes_eq a.encoding b.encoding && (bytes_eq a.language b.language && (bytes_eq a.cache_control b.cache_control && option_eq bytes_eq a.md5 b.md5)))

props_decide : (a b : PropsFields) → Decides (props_eq a b) (a ≡ b)
props_decide a b =
    Decides-like _ (λ e i. record { content_type = e.0 i; encoding = e.1.0 i; language = e.1.1.0 i; cache_control = e.1.1.1.0 i; md5 = e.1.1.1.1 i })
    (λ e. (λ i. (e i).content_type, (λ i. (e i).encoding, (λ i. (e i).language, (λ i. (e i).cache_control, λ i. (e i).md5)))))
    (Decides-and _ _ (bytes_eq-Decides a.content_type b.content_type) (Decides-and _ _ (bytes_eq-Decides a.encoding b.encoding) (Decides-and _ _ (bytes_eq-Decides a.language b.language) (Decides-and _ _ (bytes_eq-Decides a.cache_control b.cache_control) (options_decide bytes_eq-Decides a.md5 b.md5)))))

abbrev place_eq : Place → Place → Bool
place_eq a b = nat_eq a.extent b.extent && nat_eq a.index b.index

place_decides : (a b : Place) → Decides (place_eq a b) (a ≡ b)
place_decides a b =
    Decides-like _ (λ e i. record { extent = e.0 i; index = e.1 i }) (λ e. (λ i. (e i).extent, λ i. (e i).index))
    (Decides-and _ _ (Decides-eqb a.extent b.extent) (Decides-eqb a.index b.index))

abbrev piece_eq : Piece → Piece → Bool
piece_eq = (piece_impl.eq-value).it

piece_decides : (a b : Piece) → Decides (piece_eq a b) (a ≡ b)
piece_decides (pieces.Bytes bs) (pieces.Bytes cs) =
    Decides-like _ (λ e i. pieces.Bytes (e i)) (λ e. cc) (bytes_eq-Decides bs cs)
piece_decides (pieces.At p n) (pieces.At q m) =
    Decides-like _ (λ e i. pieces.At (e.0 i) (e.1 i)) (λ e. (cc, cc)) (Decides-and _ _ (place_decides p q) (Decides-eqb n m))
piece_decides a b = (λ e. cc, λ e. cc)

-- `==` also compares the lengths of all pieces together
abbrev content_eq : List Piece → List Piece → Bool
content_eq ps qs = pointwise piece_eq ps qs && nat_eq (pieces_len ps) (pieces_len qs)

content_decides : (ps qs : List Piece) → Decides (content_eq ps qs) (ps ≡ qs)
content_decides ps qs =
    Decides-like _ (λ e. e.0) (λ e. (e, ap pieces_len e))
    (Decides-and _ _ (lists_decide piece_decides ps qs) (Decides-eqb (pieces_len ps) (pieces_len qs)))

abbrev block_eq : Block (List Piece) → Block (List Piece) → Bool
block_eq a b = option_eq bytes_eq a.id b.id && content_eq a.content b.content

block_decides : (a b : Block (List Piece)) → Decides (block_eq a b) (a ≡ b)
block_decides a b =
    Decides-like _ (λ e i. record { id = e.0 i; content = e.1 i }) (λ e. (λ i. (e i).id, λ i. (e i).content))
    (Decides-and _ _ (options_decide bytes_eq-Decides a.id b.id) (content_decides a.content b.content))

abbrev uncommitted_eq : UncommittedBlock → UncommittedBlock → Bool
uncommitted_eq a b = bytes_eq a.id b.id && content_eq a.content b.content

uncommitted_decides : (a b : UncommittedBlock) → Decides (uncommitted_eq a b) (a ≡ b)
uncommitted_decides a b =
    Decides-like _ (λ e i. record { id = e.0 i; content = e.1 i }) (λ e. (λ i. (e i).id, λ i. (e i).content))
    (Decides-and _ _ (bytes_eq-Decides a.id b.id) (content_decides a.content b.content))

abbrev committed_eq : Committed (List Piece) → Committed (List Piece) → Bool
committed_eq a b =
    nat_eq a.etag b.etag && (nat_eq a.made b.made && (props_eq a.props b.props && (pointwise meta_eq a.metadata b.metadata && pointwise block_eq a.blocks b.blocks)))

committed_decides : (a b : Committed (List Piece)) → Decides (committed_eq a b) (a ≡ b)
committed_decides a b =
    Decides-like _ (λ e i. record { etag = e.0 i; made = e.1.0 i; props = e.1.1.0 i; metadata = e.1.1.1.0 i; blocks = e.1.1.1.1 i })
    (λ e. (λ i. (e i).etag, (λ i. (e i).made, (λ i. (e i).props, (λ i. (e i).metadata, λ i. (e i).blocks)))))
    (Decides-and _ _ (Decides-eqb a.etag b.etag) (Decides-and _ _ (Decides-eqb a.made b.made) (Decides-and _ _ (props_decide a.props b.props) (Decides-and _ _ (lists_decide meta_decides a.metadata b.metadata) (lists_decide block_decides a.blocks b.blocks)))))

abbrev standing_eq : Standing → Standing → Bool
standing_eq a b =
    nat_eq a.etag b.etag && (nat_eq a.made b.made && (pointwise meta_eq a.metadata b.metadata && acl_eq a.acl b.acl))

standing_decides : (a b : Standing) → Decides (standing_eq a b) (a ≡ b)
standing_decides a b =
    Decides-like _ (λ e i. record { etag = e.0 i; made = e.1.0 i; metadata = e.1.1.0 i; acl = e.1.1.1 i })
    (λ e. (λ i. (e i).etag, (λ i. (e i).made, (λ i. (e i).metadata, λ i. (e i).acl))))
    (Decides-and _ _ (Decides-eqb a.etag b.etag) (Decides-and _ _ (Decides-eqb a.made b.made) (Decides-and _ _ (lists_decide meta_decides a.metadata b.metadata) (acl_decides a.acl b.acl))))

abbrev create_eq : CreateContainer → CreateContainer → Bool
create_eq a b = nat_eq a.moment b.moment && (sameb level.the_type a.level b.level && pointwise meta_eq a.metadata b.metadata)

create_decides : (a b : CreateContainer) → Decides (create_eq a b) (a ≡ b)
create_decides a b =
    Decides-like _ (λ e i. record { moment = e.0 i; level = e.1.0 i; metadata = e.1.1 i }) (λ e. (λ i. (e i).moment, (λ i. (e i).level, λ i. (e i).metadata)))
    (Decides-and _ _ (Decides-eqb a.moment b.moment) (Decides-and _ _ (level_decides a.level b.level) (lists_decide meta_decides a.metadata b.metadata)))

abbrev set_container_eq : SetContainerMetadata → SetContainerMetadata → Bool
set_container_eq a b = nat_eq a.moment b.moment && pointwise meta_eq a.metadata b.metadata

set_container_decides : (a b : SetContainerMetadata) → Decides (set_container_eq a b) (a ≡ b)
set_container_decides a b =
    Decides-like _ (λ e i. record { moment = e.0 i; metadata = e.1 i }) (λ e. (λ i. (e i).moment, λ i. (e i).metadata))
    (Decides-and _ _ (Decides-eqb a.moment b.moment) (lists_decide meta_decides a.metadata b.metadata))

abbrev set_acl_eq : SetAcl → SetAcl → Bool
set_acl_eq a b = nat_eq a.moment b.moment && acl_eq a.acl b.acl

set_acl_decides : (a b : SetAcl) → Decides (set_acl_eq a b) (a ≡ b)
set_acl_decides a b =
    Decides-like _ (λ e i. record { moment = e.0 i; acl = e.1 i }) (λ e. (λ i. (e i).moment, λ i. (e i).acl))
    (Decides-and _ _ (Decides-eqb a.moment b.moment) (acl_decides a.acl b.acl))

abbrev put_blob_eq : PutBlob → PutBlob → Bool
put_blob_eq a b =
    bytes_eq a.blob b.blob && (nat_eq a.moment b.moment && (props_eq a.props b.props && (pointwise meta_eq a.metadata b.metadata && content_eq a.content b.content)))

put_blob_decides : (a b : PutBlob) → Decides (put_blob_eq a b) (a ≡ b)
put_blob_decides a b =
    Decides-like _ (λ e i. record { blob = e.0 i; moment = e.1.0 i; props = e.1.1.0 i; metadata = e.1.1.1.0 i; content = e.1.1.1.1 i })
    (λ e. (λ i. (e i).blob, (λ i. (e i).moment, (λ i. (e i).props, (λ i. (e i).metadata, λ i. (e i).content)))))
    (Decides-and _ _ (bytes_eq-Decides a.blob b.blob) (Decides-and _ _ (Decides-eqb a.moment b.moment) (Decides-and _ _ (props_decide a.props b.props) (Decides-and _ _ (lists_decide meta_decides a.metadata b.metadata) (content_decides a.content b.content)))))

abbrev set_metadata_eq : SetMetadata → SetMetadata → Bool
set_metadata_eq a b = bytes_eq a.blob b.blob && (nat_eq a.moment b.moment && pointwise meta_eq a.metadata b.metadata)

set_metadata_decides : (a b : SetMetadata) → Decides (set_metadata_eq a b) (a ≡ b)
set_metadata_decides a b =
    Decides-like _ (λ e i. record { blob = e.0 i; moment = e.1.0 i; metadata = e.1.1 i }) (λ e. (λ i. (e i).blob, (λ i. (e i).moment, λ i. (e i).metadata)))
    (Decides-and _ _ (bytes_eq-Decides a.blob b.blob) (Decides-and _ _ (Decides-eqb a.moment b.moment) (lists_decide meta_decides a.metadata b.metadata)))

delete_blob_decides : (a b : DeleteBlob) → Decides (bytes_eq a.blob b.blob) (a ≡ b)
delete_blob_decides a b = Decides-like _ (λ e i. record { blob = e i }) (λ e i. (e i).blob) (bytes_eq-Decides a.blob b.blob)

abbrev put_block_eq : PutBlock → PutBlock → Bool
put_block_eq a b = bytes_eq a.blob b.blob && (bytes_eq a.id b.id && content_eq a.content b.content)

put_block_decides : (a b : PutBlock) → Decides (put_block_eq a b) (a ≡ b)
put_block_decides a b =
    Decides-like _ (λ e i. record { blob = e.0 i; id = e.1.0 i; content = e.1.1 i }) (λ e. (λ i. (e i).blob, (λ i. (e i).id, λ i. (e i).content)))
    (Decides-and _ _ (bytes_eq-Decides a.blob b.blob) (Decides-and _ _ (bytes_eq-Decides a.id b.id) (content_decides a.content b.content)))

abbrev put_block_list_eq : PutBlockList → PutBlockList → Bool
put_block_list_eq a b =
    bytes_eq a.blob b.blob && (nat_eq a.moment b.moment && (props_eq a.props b.props && (pointwise meta_eq a.metadata b.metadata && pointwise taken_eq a.entries b.entries)))

put_block_list_decides : (a b : PutBlockList) → Decides (put_block_list_eq a b) (a ≡ b)
put_block_list_decides a b =
    Decides-like _ (λ e i. record { blob = e.0 i; moment = e.1.0 i; props = e.1.1.0 i; metadata = e.1.1.1.0 i; entries = e.1.1.1.1 i })
    (λ e. (λ i. (e i).blob, (λ i. (e i).moment, (λ i. (e i).props, (λ i. (e i).metadata, λ i. (e i).entries)))))
    (Decides-and _ _ (bytes_eq-Decides a.blob b.blob) (Decides-and _ _ (Decides-eqb a.moment b.moment) (Decides-and _ _ (props_decide a.props b.props) (Decides-and _ _ (lists_decide meta_decides a.metadata b.metadata) (lists_decide taken_decides a.entries b.entries)))))

abbrev container_row_eq : ContainerRow → ContainerRow → Bool
container_row_eq a b = nat_eq a.count b.count && option_eq standing_eq a.standing b.standing

container_row_decides : (a b : ContainerRow) → Decides (container_row_eq a b) (a ≡ b)
container_row_decides a b =
    Decides-like _ (λ e i. record { count = e.0 i; standing = e.1 i }) (λ e. (λ i. (e i).count, λ i. (e i).standing))
    (Decides-and _ _ (Decides-eqb a.count b.count) (options_decide standing_decides a.standing b.standing))

abbrev stored_blob_eq : StoredBlob → StoredBlob → Bool
stored_blob_eq a b =
    bytes_eq a.blob b.blob && (option_eq committed_eq a.committed b.committed && pointwise uncommitted_eq a.uncommitted b.uncommitted)

stored_blob_decides : (a b : StoredBlob) → Decides (stored_blob_eq a b) (a ≡ b)
stored_blob_decides a b =
    Decides-like _ (λ e i. record { blob = e.0 i; committed = e.1.0 i; uncommitted = e.1.1 i }) (λ e. (λ i. (e i).blob, (λ i. (e i).committed, λ i. (e i).uncommitted)))
    (Decides-and _ _ (bytes_eq-Decides a.blob b.blob) (Decides-and _ _ (options_decide committed_decides a.committed b.committed) (lists_decide uncommitted_decides a.uncommitted b.uncommitted)))

abbrev act_eq : Act → Act → Bool
act_eq = (act_impl.eq-value).it

act_decides : (a b : Act) → Decides (act_eq a b) (a ≡ b)
act_decides (acts.CreateContainer a) (acts.CreateContainer b) = Decides-like _ (λ e i. acts.CreateContainer (e i)) (λ e. cc) (create_decides a b)
act_decides (acts.SetContainerMetadata a) (acts.SetContainerMetadata b) = Decides-like _ (λ e i. acts.SetContainerMetadata (e i)) (λ e. cc) (set_container_decides a b)
act_decides (acts.SetAcl a) (acts.SetAcl b) = Decides-like _ (λ e i. acts.SetAcl (e i)) (λ e. cc) (set_acl_decides a b)
act_decides acts.DeleteContainer acts.DeleteContainer = (λ e. refl, λ e. refl)
act_decides (acts.PutBlob a) (acts.PutBlob b) = Decides-like _ (λ e i. acts.PutBlob (e i)) (λ e. cc) (put_blob_decides a b)
act_decides (acts.SetMetadata a) (acts.SetMetadata b) = Decides-like _ (λ e i. acts.SetMetadata (e i)) (λ e. cc) (set_metadata_decides a b)
act_decides (acts.DeleteBlob a) (acts.DeleteBlob b) = Decides-like _ (λ e i. acts.DeleteBlob (e i)) (λ e. cc) (delete_blob_decides a b)
act_decides (acts.PutBlock a) (acts.PutBlock b) = Decides-like _ (λ e i. acts.PutBlock (e i)) (λ e. cc) (put_block_decides a b)
act_decides (acts.PutBlockList a) (acts.PutBlockList b) = Decides-like _ (λ e i. acts.PutBlockList (e i)) (λ e. cc) (put_block_list_decides a b)
act_decides (acts.ContainerRow a) (acts.ContainerRow b) = Decides-like _ (λ e i. acts.ContainerRow (e i)) (λ e. cc) (container_row_decides a b)
act_decides (acts.StoredBlob a) (acts.StoredBlob b) = Decides-like _ (λ e i. acts.StoredBlob (e i)) (λ e. cc) (stored_blob_decides a b)
act_decides a b = (λ e. cc, λ e. cc)

abbrev key_eq : Key → Key → Bool
key_eq a b = bytes_eq a.account b.account && bytes_eq a.container b.container

key_decides : (a b : Key) → Decides (key_eq a b) (a ≡ b)
key_decides a b =
    Decides-like _ (λ e i. record { account = e.0 i; container = e.1 i }) (λ e. (λ i. (e i).account, λ i. (e i).container))
    (Decides-and _ _ (bytes_eq-Decides a.account b.account) (bytes_eq-Decides a.container b.container))

pub change_decides : (a b : KeyedAct) → Decides (key_eq a.key b.key && act_eq a.act b.act) (a ≡ b)
change_decides a b =
    Decides-like _ (λ e i. record { key = e.0 i; act = e.1 i }) (λ e. (λ i. (e i).key, λ i. (e i).act))
    (Decides-and _ _ (key_decides a.key b.key) (act_decides a.act b.act))
