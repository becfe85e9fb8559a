-- The change whose record bytes are (docs/formats/records.md).
use Rattle.std.specs.Prelude.{◌≡◌, ◌<◌, ◌^◌, ℕ, true, ◌==◌, List, [], ◌∷◌, ◌++◌, Option, Some, None, Result, Ok, Err, if◌then◌else◌}
use Rattle.std.specs.Int.{w64}
use Rattle.stamp_values.specs.declared.level.Level.{Level}
use Rattle.stamp_values.specs.declared.meta.Meta.{Meta}
use Rattle.stamp_values.specs.declared.acl.Acl.{Acl}
use Rattle.stamp_values.specs.declared.key.Key.{Key}
use Rattle.stamp_values.specs.declared.block.Taken.{Taken}
use Rattle.stamp_types.specs.declared.piece.Piece.{Piece}
use Rattle.stamp_types.specs.PropsFields.{PropsFields}
use Rattle.stamp_types.specs.declared.standing.Standing.{Standing}
use Rattle.stamp_types.specs.declared.committed.Committed.{Committed}
use Rattle.stamp_types.specs.declared.committed.UncommittedBlock.{UncommittedBlock}
use Rattle.stamp_types.specs.declared.act.CreateContainer.{CreateContainer}
use Rattle.stamp_types.specs.declared.act.SetContainerMetadata.{SetContainerMetadata}
use Rattle.stamp_types.specs.declared.act.SetAcl.{SetAcl}
use Rattle.stamp_types.specs.declared.act.PutBlob.{PutBlob}
use Rattle.stamp_types.specs.declared.act.SetMetadata.{SetMetadata}
use Rattle.stamp_types.specs.declared.act.DeleteBlob.{DeleteBlob}
use Rattle.stamp_types.specs.declared.act.PutBlock.{PutBlock}
use Rattle.stamp_types.specs.declared.act.PutBlockList.{PutBlockList}
use Rattle.stamp_types.specs.declared.act.ContainerRow.{ContainerRow}
use Rattle.stamp_types.specs.declared.act.StoredBlob.{StoredBlob}
use Rattle.stamp_types.specs.declared.act.Act.{Act}
use Rattle.stamp_types.specs.declared.act.Act.TheVariants as acts
use Rattle.stamp_types.specs.Changes.{KeyedAct, is_change}
use Rattle.log_record.specs.declared.record_fault.RecordFault.{RecordFault}
use Rattle.log_record.specs.declared.record_fault.RecordFault.TheVariants as fault
use Rattle.log_record.specs.Fits.{FitsEpoch, IsRecorded}
use Rattle.log_record.specs.Outcomes.{Tells}
use Rattle.log_record.specs.Reading.{Read, ◌>>=◌, number_at, option_at, list_at, both_at, made_at}
use Rattle.log_record.specs.ReadFields.{moment_at, level_at, text_at, id_at, metadata_at, props_at, acl_at, pieces_at, committed_at, uncommitted_at, standing_at, taken_at, key_at}
use Rattle.log_record.specs.Records.{IsRecordOf, is_version, record_bytes}

-- ---- the fields of each kind

abbrev pub create_container_of : ℕ × (Level × List Meta) → CreateContainer
create_container_of p = record { moment = p.0; level = p.1.0; metadata = p.1.1 }

unfoldable pub create_container_at : List ℕ → Read CreateContainer
create_container_at = made_at create_container_of (both_at moment_at (both_at level_at metadata_at))

abbrev pub set_container_metadata_of : ℕ × List Meta → SetContainerMetadata
set_container_metadata_of p = record { moment = p.0; metadata = p.1 }

unfoldable pub set_container_metadata_at : List ℕ → Read SetContainerMetadata
set_container_metadata_at = made_at set_container_metadata_of (both_at moment_at metadata_at)

abbrev pub set_acl_of : ℕ × Acl → SetAcl
set_acl_of p = record { moment = p.0; acl = p.1 }

unfoldable pub set_acl_at : List ℕ → Read SetAcl
set_acl_at = made_at set_acl_of (both_at moment_at acl_at)

abbrev pub put_blob_of : List ℕ × (ℕ × (PropsFields × (List Meta × List Piece))) → PutBlob
put_blob_of p = record { blob = p.0; moment = p.1.0; props = p.1.1.0; metadata = p.1.1.1.0; content = p.1.1.1.1 }

unfoldable pub put_blob_at : List ℕ → Read PutBlob
put_blob_at = made_at put_blob_of (both_at text_at (both_at moment_at (both_at props_at (both_at metadata_at pieces_at))))

abbrev pub set_metadata_of : List ℕ × (ℕ × List Meta) → SetMetadata
set_metadata_of p = record { blob = p.0; moment = p.1.0; metadata = p.1.1 }

unfoldable pub set_metadata_at : List ℕ → Read SetMetadata
set_metadata_at = made_at set_metadata_of (both_at text_at (both_at moment_at metadata_at))

abbrev pub delete_blob_of : List ℕ → DeleteBlob
delete_blob_of p = record { blob = p }

unfoldable pub delete_blob_at : List ℕ → Read DeleteBlob
delete_blob_at = made_at delete_blob_of text_at

abbrev pub put_block_of : List ℕ × (List ℕ × List Piece) → PutBlock
put_block_of p = record { blob = p.0; id = p.1.0; content = p.1.1 }

unfoldable pub put_block_at : List ℕ → Read PutBlock
put_block_at = made_at put_block_of (both_at text_at (both_at id_at pieces_at))

abbrev pub put_block_list_of : List ℕ × (ℕ × (PropsFields × (List Meta × List Taken))) → PutBlockList
put_block_list_of p = record { blob = p.0; moment = p.1.0; props = p.1.1.0; metadata = p.1.1.1.0; entries = p.1.1.1.1 }

unfoldable pub put_block_list_at : List ℕ → Read PutBlockList
put_block_list_at = made_at put_block_list_of (both_at text_at (both_at moment_at (both_at props_at (both_at metadata_at (list_at taken_at)))))

abbrev pub container_row_of : ℕ × Option Standing → ContainerRow
container_row_of p = record { count = p.0; standing = p.1 }

unfoldable pub container_row_at : List ℕ → Read ContainerRow
container_row_at = made_at container_row_of (both_at (number_at w64) (option_at standing_at))

abbrev pub stored_blob_of : List ℕ × (Option (Committed (List Piece)) × List UncommittedBlock) → StoredBlob
stored_blob_of p = record { blob = p.0; committed = p.1.0; uncommitted = p.1.1 }

unfoldable pub stored_blob_at : List ℕ → Read StoredBlob
stored_blob_at = made_at stored_blob_of (both_at text_at (both_at (option_at committed_at) (list_at uncommitted_at)))

-- the fields of the kind of this number
unfoldable pub act_at : ℕ → List ℕ → Read Act
act_at k t =
    if k == 1 then made_at acts.CreateContainer create_container_at t
    else if k == 2 then made_at acts.SetContainerMetadata set_container_metadata_at t
    else if k == 3 then made_at acts.SetAcl set_acl_at t
    else if k == 4 then Some (acts.DeleteContainer, t)
    else if k == 5 then made_at acts.PutBlob put_blob_at t
    else if k == 6 then made_at acts.SetMetadata set_metadata_at t
    else if k == 7 then made_at acts.DeleteBlob delete_blob_at t
    else if k == 8 then made_at acts.PutBlock put_block_at t
    else if k == 9 then made_at acts.PutBlockList put_block_list_at t
    else if k == 10 then made_at acts.ContainerRow container_row_at t
    else if k == 11 then made_at acts.StoredBlob stored_blob_at t
    else None

-- ---- records

-- what was read, if no byte is left
abbrev pub whole : {A : Type 0} → Read A → Option A
whole None = None
whole (Some (a, [])) = Some a
whole (Some (a, b ∷ t)) = None

abbrev pub keyed : Key → Act → KeyedAct
keyed key act = record { key = key; act = act }

-- the account and the container, and the fields of the kind
unfoldable pub keyed_at : ℕ → List ℕ → Read KeyedAct
keyed_at k t = key_at t >>= (λ key. act_at k key.1 >>= (λ act. Some (keyed key.0 act.0, act.1)))

-- the epoch, which records of version 1 do not have
abbrev pub epoch_at : ℕ → List ℕ → Read ℕ
epoch_at v t = if v == 1 then Some (0, t) else number_at w64 t

-- the epoch, the account and the container, and the fields of the kind
unfoldable pub parts_at : ℕ → ℕ → List ℕ → Read (KeyedAct × ℕ)
parts_at v k t = epoch_at v t >>= (λ e. keyed_at k e.1 >>= (λ c. Some ((c.0, e.0), c.1)))

-- the kind, the epoch, the account and the container, the fields, and no byte after them
unfoldable pub fields_of : ℕ → List ℕ → Option (KeyedAct × ℕ)
fields_of v [] = None
fields_of v (k ∷ t) = whole (parts_at v k t)

-- the change and the epoch that the bytes after the version say
unfoldable pub change_of : ℕ → List ℕ → Option (KeyedAct × ℕ)
change_of v t = fields_of v t >>= (λ c. if is_change c.0 then Some c else None)

-- the change with its epoch; Form if there is no change
abbrev pub ok_or_form : Option (KeyedAct × ℕ) → Result (KeyedAct × ℕ) RecordFault
ok_or_form (Some c) = Ok c
ok_or_form None = Err fault.Form

-- the change and the epoch whose record the bytes are, or why the bytes are not a record
unfoldable pub record_of : List ℕ → Result (KeyedAct × ℕ) RecordFault
record_of [] = Err fault.Form
record_of (v ∷ t) = if is_version v then ok_or_form (change_of v t) else Err fault.Version

-- if the bytes are a record of a change of the program's types, then that change and its epoch are read, unless memory ran out
abbrev pub ReadsAgain : List ℕ → Result (KeyedAct × ℕ) RecordFault → Type 0
ReadsAgain bytes result = (c : KeyedAct) (epoch : ℕ) → IsRecorded c → epoch < 2 ^ 64 → IsRecordOf bytes c epoch → Tells result (Ok (c, epoch))

-- if two records are at the front of the same bytes, then they are records of one change and of one epoch, and the same bytes are after
-- them; the versions may be any
abbrev pub IsPrefixFree : Type 0
IsPrefixFree = (v w : ℕ) (c d : KeyedAct) (m n : ℕ) (x y : List ℕ) → is_version v ≡ true → IsRecorded c → IsRecorded d → FitsEpoch v m → FitsEpoch w n
    → record_bytes v c m ++ x ≡ record_bytes w d n ++ y → (c ≡ d) × (m ≡ n) × (x ≡ y)

-- two changes with the same record are the same change, of the same epoch
abbrev pub SaysOneChange : Type 0
SaysOneChange = (v w : ℕ) (c d : KeyedAct) (m n : ℕ) → is_version v ≡ true → IsRecorded c → IsRecorded d → FitsEpoch v m → FitsEpoch w n
    → record_bytes v c m ≡ record_bytes w d n → (c ≡ d) × (m ≡ n)
