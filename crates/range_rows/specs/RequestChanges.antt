-- What writing requests do (Blob service REST reference, 2012-02-12, "Create Container", "Set Container Metadata", "Set Container ACL",
-- "Delete Container", "Put Blob", "Set Blob Metadata", "Delete Blob", "Put Block", "Put Block List"; RFC 1321).
use Rattle.std.specs.Prelude.{ℕ, List, Option, Some, None, unwrap_or}
use Rattle.std.specs.Option.{option_map, option_and_then}
use Rattle.md5.specs.Md5.{md5}
use Rattle.stamp_values.specs.declared.block.Taken.{Taken}
use Rattle.stamp_values.specs.declared.level.Level.TheVariants as level
use Rattle.stamp_values.specs.declared.op.Op.{Op}
use Rattle.stamp_values.specs.declared.op.Op.TheVariants as op
use Rattle.stamp_types.specs.declared.act.Act.{Act}
use Rattle.stamp_types.specs.declared.act.Act.TheVariants as act
use Rattle.stamp_types.specs.declared.act.CreateContainer.{CreateContainer}
use Rattle.stamp_types.specs.declared.act.DeleteBlob.{DeleteBlob}
use Rattle.stamp_types.specs.declared.act.PutBlob.{PutBlob}
use Rattle.stamp_types.specs.declared.act.PutBlock.{PutBlock}
use Rattle.stamp_types.specs.declared.act.PutBlockList.{PutBlockList}
use Rattle.stamp_types.specs.declared.act.SetAcl.{SetAcl}
use Rattle.stamp_types.specs.declared.act.SetContainerMetadata.{SetContainerMetadata}
use Rattle.stamp_types.specs.declared.act.SetMetadata.{SetMetadata}
use Rattle.stamp_types.specs.declared.args.Kept.{Kept}
use Rattle.stamp_types.specs.Changes.{KeyedAct}
use Rattle.stamp_types.specs.Pieces.{cut, pieces_len}
use Rattle.stamp_types.specs.PropsFields.{PropsFields, kept_fields}
use Rattle.stamp_types.specs.Requests.{Asked}
use Rattle.stamp_types.specs.World.{Blob, Part, World, blob_in, changed, part_at, same_pieces}
use Rattle.stamp_types.specs.declared.piece.Piece.{Piece}
use Rattle.block_blobs.specs.BlockLists.{found_entries}
use Rattle.range_rows.specs.ObjectRules.{sizes_named}
use Rattle.range_rows.specs.Readings.{sent_policies, wanted_blocks}

-- what is kept of the headers that a request asks to be kept, with the body's MD5 if the request gives no MD5
abbrev pub put_props : Asked → Kept → PropsFields
put_props q kept = kept_fields kept (Some (md5 q.body))

-- what a Create Container does: the container gets the metadata, and the level that is asked for, or else it is closed
abbrev pub create_container : Asked → ℕ → CreateContainer
create_container q t = record { moment = t; level = unwrap_or q.ask.args.level level.Closed; metadata = q.ask.args.metadata }

-- what a Set Container Metadata does: the metadata of the request replaces all metadata
abbrev pub set_container_metadata : Asked → ℕ → SetContainerMetadata
set_container_metadata q t = record { moment = t; metadata = q.ask.args.metadata }

-- what a Set Container ACL does: the level that is asked for, or else closed, and the policies that are sent replace what there was
abbrev pub set_acl : Asked → ℕ → SetAcl
set_acl q t = record { moment = t; acl = record { level = unwrap_or q.ask.args.level level.Closed; policies = sent_policies q } }

-- what a Put Blob does: the blob gets the body in pieces, the kept headers and the metadata
abbrev pub put_blob : Asked → ℕ → List ℕ → Kept → PutBlob
put_blob q t name kept = record { blob = name; moment = t; props = put_props q kept; metadata = q.ask.args.metadata; content = cut q.body }

-- what a Set Blob Metadata does: the metadata of the request replaces all metadata
abbrev pub set_metadata : Asked → ℕ → List ℕ → SetMetadata
set_metadata q t name = record { blob = name; moment = t; metadata = q.ask.args.metadata }

-- what a Delete Blob does
abbrev pub delete_blob : List ℕ → DeleteBlob
delete_blob name = record { blob = name }

-- what a Put Block does: the body is the content of the uncommitted block of the id
abbrev pub put_block : Asked → List ℕ → List ℕ → PutBlock
put_block q name id = record { blob = name; id = id; content = cut q.body }

-- what a Put Block List does that takes the blocks of these entries: the blob gets them, the kept headers with the MD5 that they give, if
-- they give one, and the metadata
abbrev pub put_block_list_of : List Taken → Asked → ℕ → List ℕ → Kept → PutBlockList
put_block_list_of entries q t name kept = record {
  blob = name;
  moment = t;
  props = kept_fields kept None;
  metadata = q.ask.args.metadata;
  entries = entries;
}

-- what a Put Block List does: it takes the blocks that are found
abbrev pub put_block_list : Blob ℕ → Asked → ℕ → List ℕ → Kept → PutBlockList
put_block_list b q t name kept = put_block_list_of (found_entries b (wanted_blocks q)) q t name kept

-- what a request of the operation does to a container at a moment; an operation that reads changes nothing
abbrev pub act_by : Op → Part ℕ → Asked → ℕ → Option Act
act_by op.CreateContainer p q t = Some (act.CreateContainer (create_container q t))
act_by op.SetContainerMetadata p q t = Some (act.SetContainerMetadata (set_container_metadata q t))
act_by op.SetAcl p q t = Some (act.SetAcl (set_acl q t))
act_by op.DeleteContainer p q t = Some act.DeleteContainer
act_by op.PutBlob p q t = option_and_then (λ name. option_map (λ kept. act.PutBlob (put_blob q t name kept)) q.ask.args.kept) q.ask.blob
act_by op.SetMetadata p q t = option_map (λ name. act.SetMetadata (set_metadata q t name)) q.ask.blob
act_by op.DeleteBlob p q t = option_map (λ name. act.DeleteBlob (delete_blob name)) q.ask.blob
act_by op.PutBlock p q t = option_and_then (λ name. option_map (λ id. act.PutBlock (put_block q name id)) q.ask.args.block) q.ask.blob
act_by op.PutBlockList p q t =
    option_and_then (λ name. option_map (λ kept. act.PutBlockList (put_block_list (blob_in p name) q t name kept)) q.ask.args.kept) q.ask.blob
act_by _ p q t = None

-- the change that an allowed request makes at a moment, in the container that it names; the sizes of content decide the change
abbrev pub change_of : Part ℕ → Asked → ℕ → Option KeyedAct
change_of p q t = option_map (λ a. record { key = q.ask.key; act = a }) (act_by q.ask.op p q t)

-- the container after the change, or the same container if there is no change
abbrev pub part_after : {C : Type 0} → (List Piece → C) → Option KeyedAct → Part C → Part C
part_after f None p = p
part_after f (Some c) p = changed f c.act p

-- the container that a request names, with the sizes of its content, after the request's change at a moment
abbrev pub sizes_after : World (List Piece) → Asked → ℕ → Part ℕ
sizes_after w q t = part_after pieces_len (change_of (sizes_named w q) q t) (sizes_named w q)

-- the container that a request names, with its pieces, after the request's change at a moment
abbrev pub pieces_after : World (List Piece) → Asked → ℕ → Part (List Piece)
pieces_after w q t = part_after same_pieces (change_of (sizes_named w q) q t) (part_at w q.ask.key)
