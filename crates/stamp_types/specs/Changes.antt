-- Changes of a container, which the container's log keeps (Blob service REST reference, 2012-02-12, the operations that write).
use Rattle.std.specs.Prelude.{ℕ, Bool, true, ◌&&◌, ◌||◌, ◌==◌, nat_le, nat_lt, is_some, is_none, List, [], ◌∷◌, Option, Some, None, length, sum_by}
use Rattle.std.specs.List.{list_all}
use Rattle.std.specs.Ordering.{nat_cmp, is_lt}
use Rattle.std.specs.Cmp.Lexicographic.{slice_cmp}
use Rattle.stamp_values.specs.declared.key.Key.{Key}
use Rattle.stamp_types.specs.declared.piece.Piece.{Piece}
use Rattle.stamp_types.specs.declared.committed.Block.{Block}
use Rattle.stamp_types.specs.declared.committed.Committed.{Committed}
use Rattle.stamp_types.specs.declared.committed.UncommittedBlock.{UncommittedBlock}
use Rattle.stamp_types.specs.declared.act.StoredBlob.{StoredBlob}
use Rattle.stamp_types.specs.declared.act.Act.{Act}
use Rattle.stamp_types.specs.declared.act.Act.TheVariants as acts
use Rattle.stamp_values.specs.Names.{is_account, is_container, is_blob}
use Rattle.stamp_types.specs.Pieces.{pieces_len}
use Rattle.stamp_values.specs.Limits.{entries_limit, uncommitted_limit, blob_limit}

-- what is done, and the container to which it is done
pub record KeyedAct : Type 0 where
  pub key : Key
  pub act : Act

-- content has at most one piece: the content of a block has at most 4 MiB, so it is in one piece, or in no piece if it is empty
abbrev pub is_in_one_piece : List Piece → Bool
is_in_one_piece ps = nat_le (length ps) 1

-- a block with an id is in one piece; Put Blob wrote a block without an id, which may be in more pieces
abbrev pub is_block : Block (List Piece) → Bool
is_block b = is_none b.id || is_in_one_piece b.content

-- each block has an id, or there is only one block
abbrev pub has_ids_or_one : List (Block (List Piece)) → Bool
has_ids_or_one bs = length bs == 1 || list_all (λ b. is_some b.id) bs

-- how many bytes blocks have together
abbrev pub blocks_len : List (Block (List Piece)) → ℕ
blocks_len bs = sum_by (λ b. pieces_len b.content) bs

-- the blocks of a blob: at most 50,000, of at most 268,435,456 bytes together
abbrev pub are_blocks : List (Block (List Piece)) → Bool
are_blocks bs =
    nat_le (length bs) entries_limit && list_all is_block bs && has_ids_or_one bs && nat_le (blocks_len bs) blob_limit

-- the committed part has blocks of a blob, if there is a committed part
abbrev pub is_committed : Option (Committed (List Piece)) → Bool
is_committed None = true
is_committed (Some c) = are_blocks c.blocks

-- the id of the block comes before the id of the next block, if there is a next block
abbrev pub is_id_before_next : UncommittedBlock → List UncommittedBlock → Bool
is_id_before_next u [] = true
is_id_before_next u (v ∷ us) = is_lt (slice_cmp nat_cmp u.id v.id)

-- the ids rise by their bytes, so no id occurs twice
abbrev pub has_rising_ids : List UncommittedBlock → Bool
has_rising_ids [] = true
has_rising_ids (u ∷ us) = is_id_before_next u us && has_rising_ids us

-- all ids are as long as the first id ("Put Block": the ids of a blob have one length)
abbrev pub has_ids_of_one_length : List UncommittedBlock → Bool
has_ids_of_one_length [] = true
has_ids_of_one_length (u ∷ us) = list_all (λ v. length v.id == length u.id) us

-- the uncommitted blocks of a blob: at most 50,000, in the order of their ids
abbrev pub are_uncommitted : List UncommittedBlock → Bool
are_uncommitted us =
    nat_le (length us) uncommitted_limit && list_all (λ u. is_in_one_piece u.content) us && has_rising_ids us
    && has_ids_of_one_length us

-- the row has a good name and good blocks, and says something: a blob of which nothing is left has no row
abbrev pub is_stored_blob : StoredBlob → Bool
is_stored_blob r =
    is_blob r.blob && (is_some r.committed || nat_lt 0 (length r.uncommitted)) && is_committed r.committed
    && are_uncommitted r.uncommitted

-- the blob has a good name, a block is in one piece, a block list has at most 50,000 entries, and a row says that something changed
abbrev pub is_act : Act → Bool
is_act (acts.PutBlob a) = is_blob a.blob
is_act (acts.SetMetadata a) = is_blob a.blob
is_act (acts.DeleteBlob a) = is_blob a.blob
is_act (acts.PutBlock a) = is_blob a.blob && is_in_one_piece a.content
is_act (acts.PutBlockList a) = is_blob a.blob && nat_le (length a.entries) entries_limit
is_act (acts.ContainerRow a) = nat_le 1 a.count
is_act (acts.StoredBlob a) = is_stored_blob a
is_act _ = true

-- the account and the container have good names, and the act is good
abbrev pub is_change : KeyedAct → Bool
is_change c = is_account c.key.account && is_container c.key.container && is_act c.act

-- the content that comes with Put Blob and with Put Block
abbrev pub content_of : Act → Option (List Piece)
content_of (acts.PutBlob a) = Some a.content
content_of (acts.PutBlock a) = Some a.content
content_of _ = None

-- the act with other content, if it comes with content
abbrev pub act_with : Act → List Piece → Act
act_with (acts.PutBlob a) ps = acts.PutBlob (record a { content = ps })
act_with (acts.PutBlock a) ps = acts.PutBlock (record a { content = ps })
act_with a ps = a

-- the change with other content, if its act comes with content
abbrev pub change_with : KeyedAct → List Piece → KeyedAct
change_with c ps = record c { act = act_with c.act ps }
