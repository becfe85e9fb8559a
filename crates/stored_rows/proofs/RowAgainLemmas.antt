-- Rows that are written again: no container changes, in bytes.
use Rattle.std.proofs.Common.{◌≡◌, ◌∙◌, ◌+◌, ℕ, Bool, true, false, cond, Some, List, [], ◌∷◌, ap, sym, refl, subst}
use Rattle.std.specs.FinMap as finite
use Rattle.std.specs.Ordering.{eq_by_cmp}
use Rattle.std.proofs.lemmas.Map.Views.{tells_apart}
use Rattle.extent_node.specs.Copies.{Block}
use Rattle.stamp_values.specs.Order.{name_cmp, names_exact, names_total}
use Rattle.stamp_values.specs.declared.key.Key.{Key}
use Rattle.stamp_types.specs.Contents.{EachContent}
use Rattle.stamp_types.specs.World.{Blob, Part, changed, part_value, same_pieces}
use Rattle.stamp_types.specs.declared.act.Act.{Act}
use Rattle.stamp_types.specs.declared.act.Act.TheVariants as act
use Rattle.stamp_types.specs.declared.act.StoredBlob.{StoredBlob}
use Rattle.stamp_types.specs.declared.piece.Piece.{Piece}
use Rattle.stamp_types.proofs.ContentReadings.{part_value-changed}
use Rattle.block_blobs.specs.StoredRows.{row_of}
use Rattle.block_blobs.proofs.RowLemmas.{container_again}
use Rattle.row_trees.specs.RowRecords.{container_row_of}
use Rattle.stream_manager.specs.Places.{KeepsPlaces}
use Rattle.stream_manager.specs.Streams.{laid}
use Rattle.partition_stream.specs.Changes.{Recorded}
use Rattle.partition_stream.specs.Compactions.{IsMovedRow}
use Rattle.partition_stream.specs.Contents.{AreStored, content_at}
use Rattle.partition_stream.specs.Meanings.{IsOneMore, after_acts, held_of, is_on, meaning}
use Rattle.partition_stream.specs.Storing.{AreKept}
use Rattle.partition_stream.specs.Streams.{Logged, ThreeStreams, logged}
use Rattle.partition_stream.proofs.MeaningLemmas.{held_of-other, held_of-own, held_of-stored, meaning-other, meaning-own}
use Rattle.partition_stream.proofs.MovedReadings.{rows_read}
use Rattle.stored_rows.specs.Swept.{IsAgain, IsRowInDoubt}
use Rattle.stored_rows.proofs.FittingLemmas.{acts_on-next, is_on-own, is_on-same}
use Rattle.stored_rows.proofs.LoadLemmas.{other_key}

put_same : (p : Part (List Piece)) (name : List ℕ) (b : Blob (List Piece)) → finite.get p.blobs name ≡ Some b → finite.insert p.blobs name b ≡ p.blobs
put_same p name b is = finite.same_map names_total names_exact (finite.insert p.blobs name b) p.blobs (λ q. finite.get-insert names_total p.blobs name b q ∙ by q (eq_by_cmp name_cmp q name) refl)
  where
    by : (q : List ℕ) (c : Bool) → eq_by_cmp name_cmp q name ≡ c → cond (eq_by_cmp name_cmp q name) (Some b) (finite.get p.blobs q) ≡ finite.get p.blobs q
    by q true on = ap (λ c. cond c (Some b) (finite.get p.blobs q)) on ∙ sym is ∙ sym (ap (λ n. finite.get p.blobs n) (tells_apart names_exact q name on))
    by q false off = ap (λ c. cond c (Some b) (finite.get p.blobs q)) off

-- the row of a blob of a container changes nothing in it
pub blob_row_keeps : (p : Part (List Piece)) (name : List ℕ) (b : Blob (List Piece)) → finite.get p.blobs name ≡ Some b → changed same_pieces (act.StoredBlob (row_of name b)) p ≡ p
blob_row_keeps p name b is = λ i. record { count = p.count; standing = p.standing; blobs = (container_again (p.count + 1) name b p ∙ put_same p name b is) i }

module _ (s t : Logged) (key : Key) (name : List ℕ) (blob : Blob (List Piece)) (row : StoredBlob) (epoch : ℕ)
    (there : finite.get (held_of s key).blobs name ≡ Some blob) (moved : IsMovedRow s.blobs (row_of name blob) t.blobs row)
    (more : IsOneMore s (record { key = key; act = act.StoredBlob row }, 0) t) (keeps : KeepsPlaces s.blobs t.blobs)
    (stored : (k : Key) → EachContent (AreStored s.blobs) (held_of s k)) where
  abbrev old : Recorded
  old = (record { key = key; act = act.StoredBlob (row_of name blob) }, 0)

  abbrev new : Recorded
  new = (record { key = key; act = act.StoredBlob row }, 0)

  same_in_bytes : changed (content_at t.blobs) (act.StoredBlob row) (meaning s key) ≡ meaning s key
  same_in_bytes =
      sym (ap (λ acts. after_acts (content_at t.blobs) acts (meaning s key)) (acts_on-next key new [] true (is_on-own new)))
      ∙ rows_read s.blobs t.blobs (content_at s.blobs) (content_at t.blobs) (λ ps qs m. m.bytes) key (old ∷ []) (new ∷ [])
      (record { change = record { key = refl; act = moved }; epoch = refl }, tt) (meaning s key)
      ∙ ap (λ acts. after_acts (content_at s.blobs) acts (meaning s key)) (acts_on-next key old [] true (is_on-own old))
      ∙ sym (part_value-changed (content_at s.blobs) same_pieces (act.StoredBlob (row_of name blob)) (held_of s key))
      ∙ ap (part_value (content_at s.blobs)) (blob_row_keeps (held_of s key) name blob there)

  -- The row of a blob that is written again, with its content moved, leaves each container as it is, in bytes
  pub row_again_keeps : (k : Key) → meaning t k ≡ meaning s k
  row_again_keeps k = by (is_on k new) refl
    where
      by : (b : Bool) → is_on k new ≡ b → meaning t k ≡ meaning s k
      by true on = subst (λ x. meaning t x ≡ meaning s x) (is_on-same k new on) (meaning-own s t new more keeps (stored key) ∙ same_in_bytes)
      by false off = meaning-other s t new k more (other_key k new off) keeps (stored k)

-- The own row of a container that is written again leaves each container as it is, in pieces
pub container_row_keeps : (s t : Logged) (key k : Key) → IsOneMore s (record { key = key; act = act.ContainerRow (container_row_of (held_of s key)) }, 0) t → held_of t k ≡ held_of s k
container_row_keeps s t key k more = by (is_on k row) refl
  where
    row : Recorded
    row = (record { key = key; act = act.ContainerRow (container_row_of (held_of s key)) }, 0)

    by : (b : Bool) → is_on k row ≡ b → held_of t k ≡ held_of s k
    by true on = subst (λ x. held_of t x ≡ held_of s x) (is_on-same k row on) (held_of-own s t row more)
    by false off = held_of-other s t row k more (other_key k row off)

-- A row that says again what its container has leaves each container as it is, in bytes
pub again_keeps : (s t : Logged) (key : Key) (a : Act) → IsAgain s.blobs (held_of s key) a → IsOneMore s (record { key = key; act = a }, 0) t → t.blobs ≡ s.blobs
    → ((k : Key) → EachContent (AreStored s.blobs) (held_of s k)) → (k : Key) → meaning t k ≡ meaning s k
again_keeps s t key (act.StoredBlob row) again more blobs stored k =
    row_again_keeps s t key row.blob again.0 row
    0 again.1.0
    (subst (λ (fs : List (List Block)). IsMovedRow s.blobs (row_of row.blob again.0) fs row) (sym blobs) again.1.1) more
    (subst (λ (fs : List (List Block)). KeepsPlaces s.blobs fs) (sym blobs) (λ p b h. h)) stored k
again_keeps s t key (act.ContainerRow r) again more blobs stored k =
    let own : IsOneMore s (record { key = key; act = act.ContainerRow (container_row_of (held_of s key)) }, 0) t =
    subst (λ x. IsOneMore s (record { key = key; act = act.ContainerRow x }, 0) t) again more in
    (λ i. part_value (content_at (blobs i)) (container_row_keeps s t key k own i))
again_keeps s t key (act.CreateContainer a) again more blobs stored k = absurd again
again_keeps s t key (act.SetContainerMetadata a) again more blobs stored k = absurd again
again_keeps s t key (act.SetAcl a) again more blobs stored k = absurd again
again_keeps s t key act.DeleteContainer again more blobs stored k = absurd again
again_keeps s t key (act.PutBlob a) again more blobs stored k = absurd again
again_keeps s t key (act.SetMetadata a) again more blobs stored k = absurd again
again_keeps s t key (act.DeleteBlob a) again more blobs stored k = absurd again
again_keeps s t key (act.PutBlock a) again more blobs stored k = absurd again
again_keeps s t key (act.PutBlockList a) again more blobs stored k = absurd again

-- A settle that keeps a row leaves each container as it is, in bytes
pub row_doubt_kept : (s t : ThreeStreams) (c : Recorded) → AreKept s → IsRowInDoubt s c → IsOneMore (logged s) c (logged t) → t.blobs ≡ s.blobs → (k : Key) → meaning (logged t) k ≡ meaning (logged s) k
row_doubt_kept s t c kept row more blobs k =
    again_keeps (logged s) (logged t) c.0.key c.0.act row.again (subst (λ (n : ℕ). IsOneMore (logged s) (c.0, n) (logged t)) row.epoch more) (ap laid blobs) (λ key. held_of-stored s key kept) k
