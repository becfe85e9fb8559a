-- What holds of each content of containers holds of the contents of their rows.
use Rattle.std.proofs.Common.{◌≡◌, ◌==◌, Bool, true, false, cond, List, [], ◌∷◌, ℕ, All, IfSome, Option, Some, None, map, subst, unwrap_or}
use Rattle.std.proofs.lemmas.List.{map-append}
use Rattle.std.specs.FinMap as finite
use Rattle.std.specs.FinMap.{entries}
use Rattle.std.proofs.lemmas.List.Concat.{flat_map-cons}
use Rattle.std.proofs.lemmas.List.Elements.{All-nil, All-cons, All-head, All-tail, All-append, All-same, All-weaker}
use Rattle.extent_node.specs.Copies.{Block}
use Rattle.stamp_values.specs.Order.{keys_total, names_total}
use Rattle.stamp_values.specs.declared.key.Key.{Key}
use Rattle.stamp_types.specs.Contents.{EachActContent, EachBlobContent, EachContent, EachWorldContent}
use Rattle.stamp_types.specs.World.{Blob, Part, World, no_blob, no_part}
use Rattle.stamp_types.specs.declared.act.Act.TheVariants as act
use Rattle.stamp_types.specs.declared.committed.UncommittedBlock.{UncommittedBlock}
use Rattle.stamp_types.specs.declared.piece.Piece.{Piece}
use Rattle.block_blobs.specs.StoredRows.{listed_block}
use Rattle.row_trees.specs.RowRecords.{blob_row_of, container_row_of}
use Rattle.partition_stream.specs.Changes.{Recorded}
use Rattle.partition_stream.specs.Contents.{AreStored}
use Rattle.partition_stream.proofs.ContentLemmas.{change_placed}
use Rattle.checkpoint_rows.specs.Writing.{AreReady, AreReadyParts, AreWritable, IsPlacedRow, IsWritable, IsWritableBlob, all_records, container_records, own_acts, recorded}
use Rattle.checkpoint_rows.proofs.EntryLemmas.{each_entry, of_found}

module _ (P : List Piece → Type 0) where
  -- the contents of the row of a blob
  pub row_content : (name : List ℕ) (b : Blob (List Piece)) → EachBlobContent P b → EachActContent P (blob_row_of (name, b))
  row_content name b each =
      (each.committed, listed (entries b.uncommitted) (each_entry names_total (λ id content. P content) b.uncommitted each.uncommitted))
    where
      listed : (es : List (List ℕ × List Piece)) → All (λ e. P e.1) es → All (λ (u : UncommittedBlock). P u.content) (map listed_block es)
      listed [] all = All-nil (λ (u : UncommittedBlock). P u.content)
      listed (e ∷ es) all =
          All-cons (λ (u : UncommittedBlock). P u.content) (listed_block e) (map listed_block es) (All-head (λ (e : List ℕ × List Piece). P e.1) e es all)
          (listed es (All-tail (λ (e : List ℕ × List Piece). P e.1) e es all))

  -- the contents of the rows of each blob of a container
  pub rows_content : (p : Part (List Piece)) → EachContent P p → All (λ e. EachActContent P (blob_row_of e)) (entries p.blobs)
  rows_content p each =
      each_entry names_total (λ name b. EachActContent P (blob_row_of (name, b))) p.blobs
      (λ name. of_row name (finite.get p.blobs name) (of_found (EachBlobContent P) (finite.get p.blobs name) no_blob (each name)))
    where
      of_row : (name : List ℕ) (o : Option (Blob (List Piece))) → IfSome o (EachBlobContent P) → IfSome o (λ b. EachActContent P (blob_row_of (name, b)))
      of_row name None is = tt
      of_row name (Some b) is = row_content name b is

  abbrev Of : Recorded → Type 0
  Of c = EachActContent P c.0.act

  own_content : (key : Key) (p : Part (List Piece)) (b : Bool) → All Of (map (recorded key) (cond b [] (act.ContainerRow (container_row_of p) ∷ [])))
  own_content key p true = All-nil Of
  own_content key p false = All-cons Of (recorded key (act.ContainerRow (container_row_of p))) [] tt (All-nil Of)

  blobs_content : (key : Key) (es : List (List ℕ × Blob (List Piece))) → All (λ e. EachActContent P (blob_row_of e)) es → All Of (map (recorded key) (map blob_row_of es))
  blobs_content key [] all = All-nil Of
  blobs_content key (e ∷ es) all =
      All-cons Of (recorded key (blob_row_of e)) (map (recorded key) (map blob_row_of es)) (All-head (λ (e : List ℕ × Blob (List Piece)). EachActContent P (blob_row_of e)) e es all)
      (blobs_content key es (All-tail (λ (e : List ℕ × Blob (List Piece)). EachActContent P (blob_row_of e)) e es all))

  container_content : (e : Key × Part (List Piece)) → EachContent P e.1 → All Of (container_records e)
  container_content e each =
      All-same Of _ _ (map-append (recorded e.0) (own_acts e.1) (map blob_row_of (entries e.1.blobs)))
      (All-append Of (map (recorded e.0) (own_acts e.1)) (map (recorded e.0) (map blob_row_of (entries e.1.blobs)))
      (own_content e.0 e.1 (e.1.count == 0)) (blobs_content e.0 (entries e.1.blobs) (rows_content e.1 each)))

  all_content : (es : List (Key × Part (List Piece))) → All (λ e. EachContent P e.1) es → All Of (all_records es)
  all_content [] all = All-nil Of
  all_content (e ∷ es) all =
      All-same Of _ _ (flat_map-cons container_records e es)
      (All-append Of (container_records e) (all_records es) (container_content e (All-head (λ (e : Key × Part (List Piece)). EachContent P e.1) e es all))
      (all_content es (All-tail (λ (e : Key × Part (List Piece)). EachContent P e.1) e es all)))

  parts_content : (w : World (List Piece)) → EachWorldContent P w → All (λ e. EachContent P e.1) (entries w)
  parts_content w each = each_entry keys_total (λ key p. EachContent P p) w (λ key. of_found (EachContent P) (finite.get w key) no_part (each key))

  -- the contents of the rows of all containers of a world
  pub world_content : (w : World (List Piece)) → EachWorldContent P w → All (λ c. EachActContent P c.0.act) (all_records (entries w))
  world_content w each = all_content (entries w) (parts_content w each)

-- the entries of a world whose containers can be written
pub writable_entries : (w : World (List Piece)) → AreWritable w → All (λ e. IsWritable e.0 e.1) (entries w)
writable_entries w writable = each_entry keys_total IsWritable w (λ key. of_found (IsWritable key) (finite.get w key) no_part (writable key))

ready_part : (es : List (List Block)) (key : Key) (p : Part (List Piece)) → IsWritable key p → EachContent (AreStored es) p → AreReady key (entries p.blobs)
ready_part es key p writable stored = record {
  writable = each_entry names_total (IsWritableBlob key) p.blobs writable.blobs;
  placed = All-weaker (λ e. EachActContent (AreStored es) (blob_row_of e)) IsPlacedRow
      (λ e own. change_placed es (record { key = key; act = blob_row_of e }) own) (entries p.blobs) (rows_content (AreStored es) p stored);
}

-- a world whose containers can be written, and whose contents are stored
pub ready_world : (es : List (List Block)) (w : World (List Piece)) → AreWritable w → EachWorldContent (AreStored es) w → AreReadyParts (entries w)
ready_world es w writable stored = record {
  writable = writable_entries w writable;
  ready = each_entry keys_total (λ key p. AreReady key (entries p.blobs)) w (λ key. of_both key (finite.get w key) (writable key) (stored key));
}
  where
    of_both : (key : Key) (o : Option (Part (List Piece))) → IsWritable key (unwrap_or o no_part) → EachContent (AreStored es) (unwrap_or o no_part)
        → IfSome o (λ p. AreReady key (entries p.blobs))
    of_both key None can has = tt
    of_both key (Some p) can has = ready_part es key p can has

-- the first of the blobs that are left, and the others
pub first_ready : (key : Key) (left es : List (List ℕ × Blob (List Piece))) (e : List ℕ × Blob (List Piece)) → left ≡ e ∷ es → AreReady key left
    → (IsWritableBlob key e.0 e.1 × IsPlacedRow e) × AreReady key es
first_ready key left es e raw ready =
    let all = subst (AreReady key) raw ready in
    let writable : All (λ (d : List ℕ × Blob (List Piece)). IsWritableBlob key d.0 d.1) (e ∷ es) = all.writable in
    let placed : All IsPlacedRow (e ∷ es) = all.placed in (
      (All-head (λ (d : List ℕ × Blob (List Piece)). IsWritableBlob key d.0 d.1) e es writable, All-head IsPlacedRow e es placed),
      record { writable = All-tail (λ (d : List ℕ × Blob (List Piece)). IsWritableBlob key d.0 d.1) e es writable; placed = All-tail IsPlacedRow e es placed },
    )

-- the first of the containers that are left, and the others
pub first_part : (left es : List (Key × Part (List Piece))) (e : Key × Part (List Piece)) → left ≡ e ∷ es → AreReadyParts left
    → (IsWritable e.0 e.1 × AreReady e.0 (entries e.1.blobs)) × AreReadyParts es
first_part left es e raw ready =
    let all = subst AreReadyParts raw ready in
    let writable : All (λ (d : Key × Part (List Piece)). IsWritable d.0 d.1) (e ∷ es) = all.writable in
    let each : All (λ (d : Key × Part (List Piece)). AreReady d.0 (entries d.1.blobs)) (e ∷ es) = all.ready in (
      (All-head (λ (d : Key × Part (List Piece)). IsWritable d.0 d.1) e es writable, All-head (λ (d : Key × Part (List Piece)). AreReady d.0 (entries d.1.blobs)) e es each),
      record { writable = All-tail (λ (d : Key × Part (List Piece)). IsWritable d.0 d.1) e es writable; ready = All-tail (λ (d : Key × Part (List Piece)). AreReady d.0 (entries d.1.blobs)) e es each },
    )
