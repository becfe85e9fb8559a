-- The row of a container or of a blob that is logged again.
use Rattle.std.proofs.Common.{◌≡◌, ◌∙◌, ◌++◌, ◌&&◌, ◌<◌, true, List, [], ◌∷◌, Option, Some, None, IsSome, IsSomeAnd, IsTrue, Result, Ok, Err, length, inl, inr, ap, refl, subst, sym, unwrap_or}
use Rattle.std.specs.FinMap as finite
use Rattle.std.specs.Option.{option_and_then}
use Rattle.extent_node.specs.Faults.{Calls}
use Rattle.extent_seal.specs.Counting.{Grows}
use Rattle.std.proofs.lemmas.Bool.{and_parts}
use Rattle.stamp_values.specs.Names.{is_account, is_container}
use Rattle.stamp_types.specs.Changes.{KeyedAct, is_act, is_change, is_stored_blob}
use Rattle.stamp_types.specs.Contents.{EachActContent, EachBlobContent}
use Rattle.stamp_types.specs.World.{Blob, Part, World, no_blob, part_at}
use Rattle.stamp_types.specs.declared.act.Act.{Act}
use Rattle.stamp_types.specs.declared.act.Act.TheVariants as act
use Rattle.stamp_types.specs.declared.act.StoredBlob.{StoredBlob}
use Rattle.stamp_types.specs.declared.piece.Piece.{Piece}
use Rattle.block_blobs.specs.StoredRows.{row_of}
use Rattle.row_trees.specs.RowRecords.{blob_row_of}
use Rattle.stream_manager.specs.Places.{GoesOn, KeepsPlaces, blocks_of}
use Rattle.stream_manager.specs.Streams.{laid}
use Rattle.stream_manager.specs.declared.faults.StoredFault.{StoredFault}
use Rattle.stream_manager.specs.declared.faults.StoredFault.TheVariants as stored
use Rattle.partition_stream.specs.Changes.{Recorded, change_in, changes_of}
use Rattle.partition_stream.specs.Compactions.{IsMovedAct, IsMovedChange, IsMovedRow}
use Rattle.partition_stream.specs.Contents.{AreStored}
use Rattle.partition_stream.specs.Counting.{FailsCompaction}
use Rattle.partition_stream.specs.Meanings.{held_of}
use Rattle.partition_stream.specs.Outcomes.{IsLogged, Logs}
use Rattle.partition_stream.specs.Storing.{AreKept}
use Rattle.partition_stream.specs.Streams.{ThreeStreams, logged}
use Rattle.partition_stream.specs.Sweeping.{AreFrom}
use Rattle.partition_stream.specs.declared.faults.CompactionFault.{CompactionFault}
use Rattle.partition_stream.specs.declared.faults.CompactionFault.TheVariants as compaction
use Rattle.partition_stream.specs.declared.faults.TakeFault.{TakeFault}
use Rattle.partition_stream.specs.declared.faults.TakeFault.TheVariants as take
use Rattle.partition_stream.proofs.MeaningLemmas.{held_of-stored}
use Rattle.partition_stream.proofs.OneMoreLemmas.{one_more_logged}
use Rattle.partition_stream.proofs.RewritingLemmas.{moved_here}
use Rattle.stored_rows.specs.Counting.{FailsLogged}
use Rattle.stored_rows.specs.Faults.{stored_fault_of_compaction, unlogged_by, unlogged_of_put}
use Rattle.stored_rows.specs.Logging.{KeepsLog}
use Rattle.stored_rows.specs.Rewriting.{AddsRow, AreOfOneBlob, GoOn, IfLogged, IsBlobRow, IsRewritten, IsRowLogged}
use Rattle.stored_rows.specs.RowDoubts.{stored_blob_of}
use Rattle.stored_rows.specs.Swept.{IsAgain}
use Rattle.stored_rows.specs.declared.logging.Unlogged.{Unlogged}
use Rattle.stored_rows.specs.declared.logging.Unlogged.TheVariants as fault
use Rattle.checkpoint_rows.proofs.ReadyLemmas.{row_content}
use Rattle.stored_rows.proofs.CountLemmas.{each_fails, fails_later, grows_twice, puts_fail}
use Rattle.stored_rows.proofs.SweepCallLemmas.{same_on}
use Rattle.stored_rows.proofs.TakeLemmas.{none_added, same_log_doubt}

-- ---- the record of a row

module _ (s t : ThreeStreams) (d : KeyedAct) (none : (logged s).doubt ≡ None) (blobs : t.blobs ≡ s.blobs) (rows : t.rows ≡ s.rows) where
  stay : KeepsPlaces (laid s.blobs) (laid t.blobs)
  stay = subst (λ b. KeepsPlaces (laid s.blobs) (laid b)) (sym blobs) (λ p b h. h)

  rows_stay : (logged t).rows ≡ (logged s).rows
  rows_stay = ap (λ r. changes_of (blocks_of (laid r))) rows

  -- the row was logged
  pub row_added : Logs s ((d, 0) ∷ []) None t → AddsRow s d t
  row_added h = record { more = one_more_logged s t (d, 0) none h rows; places = stay; sure = h.left }

  nothing_added : (doubt : Option Recorded) → Logs s [] doubt t → KeepsLog s t
  nothing_added doubt h = record { rows = rows_stay; log = none_added s t doubt none h; places = stay }

  -- the row was not logged
  pub row_refused : (f : TakeFault) → IsLogged (Err f) s (d, 0) t → IsRowLogged (Err (unlogged_by f d)) s t
  row_refused take.Doubt h = record { doubt = h.left; log = nothing_added (Some (d, 0)) h }
  row_refused take.Busy h = elim h [
    | inl more ↦ (nothing_added None more, more.left)
    | inr same ↦ (record { rows = rows_stay; log = ap (λ es. changes_of (blocks_of es)) same.blocks; places = stay }, same_log_doubt s t same ∙ none)
  ]
  row_refused take.NoMemory h =
      (record { rows = rows_stay; log = ap (λ u. changes_of (blocks_of (laid u.log))) h; places = stay }, ap (λ u. (logged u).doubt) h ∙ none)

-- the row of a blob that a change is
pub good_row : (c : KeyedAct) (row : StoredBlob) → IsTrue (is_change c) → c.act ≡ act.StoredBlob row → IsTrue (is_stored_blob row)
good_row c row good is =
    subst (λ a. is_act a ≡ true) is (and_parts (is_account c.key.account && is_container c.key.container) (is_act c.act) good).1

-- ---- streams that go on

pub on_logged : (s t : ThreeStreams) → GoesOn (laid s.log) (laid t.log) → t.blobs ≡ s.blobs → t.rows ≡ s.rows → t.log.limit ≡ s.log.limit → GoOn s t
on_logged s t log blobs rows limit = record {
  log = log;
  blobs = same_on s.blobs t.blobs (ap laid blobs);
  limits = record { log = limit; blobs = ap (λ x. x.limit) blobs; rows = ap (λ x. x.limit) rows };
}

pub on_put : (s t : ThreeStreams) → GoesOn (laid s.blobs) (laid t.blobs) → t.log ≡ s.log → t.rows ≡ s.rows → t.blobs.limit ≡ s.blobs.limit → GoOn s t
on_put s t blobs log rows limit = record {
  log = same_on s.log t.log (ap laid log);
  blobs = blobs;
  limits = record { log = ap (λ x. x.limit) log; blobs = limit; rows = ap (λ x. x.limit) rows };
}

pub on_not : (s : ThreeStreams) → GoOn s s
on_not s = record { log = same_on s.log s.log refl; blobs = same_on s.blobs s.blobs refl; limits = record { log = refl; blobs = refl; rows = refl } }

-- ---- content that was put before

-- nothing was logged
pub put_keeps : (s t : ThreeStreams) → t.log ≡ s.log → t.rows ≡ s.rows → KeepsPlaces (laid s.blobs) (laid t.blobs) → KeepsLog s t
put_keeps s t log rows places = record {
  rows = ap (λ r. changes_of (blocks_of (laid r))) rows;
  log = ap (λ l. changes_of (blocks_of (laid l))) log;
  places = places;
}

pub put_doubt : (s t : ThreeStreams) → t.log ≡ s.log → (logged s).doubt ≡ None → (logged t).doubt ≡ None
put_doubt s t log none = ap (λ l. option_and_then change_in l.last.tried) log ∙ none

pub not_put : (f : StoredFault) (s t : ThreeStreams) → t.log ≡ s.log → t.rows ≡ s.rows → KeepsPlaces (laid s.blobs) (laid t.blobs) → (logged s).doubt ≡ None
    → IsRowLogged (Err (unlogged_of_put f)) s t
not_put stored.Busy s t log rows places none = (put_keeps s t log rows places, put_doubt s t log none)
not_put stored.NoMemory s t log rows places none = (put_keeps s t log rows places, put_doubt s t log none)

module _ (s m t : ThreeStreams) (log : m.log ≡ s.log) (rows : m.rows ≡ s.rows) (places : KeepsPlaces (laid s.blobs) (laid m.blobs)) where
  then_keeps : KeepsLog m t → KeepsLog s t
  then_keeps h = record {
    rows = h.rows ∙ ap (λ r. changes_of (blocks_of (laid r))) rows;
    log = h.log ∙ ap (λ l. changes_of (blocks_of (laid l))) log;
    places = λ p b there. h.places p b (places p b there);
  }

  -- a row that is logged after its content was put
  pub row_after_put : (r : Result KeyedAct Unlogged) → IsRowLogged r m t → IsRowLogged r s t
  row_after_put (Ok d) h = record {
    more = record {
      rows = h.more.rows ∙ ap (λ x. changes_of (blocks_of (laid x))) rows;
      log = h.more.log ∙ ap (λ l. changes_of (blocks_of (laid l)) ++ (d, 0) ∷ []) log;
    };
    places = λ p b there. h.places p b (places p b there);
    sure = h.sure;
  }
  row_after_put (Err (fault.Doubt d)) h = record { doubt = h.doubt; log = then_keeps h.log }
  row_after_put (Err fault.Busy) h = (then_keeps h.0, h.1)
  row_after_put (Err fault.NoMemory) h = (then_keeps h.0, h.1)

-- ---- the row of a blob with its content at new places

module _ (s t : ThreeStreams) (w : World (List Piece)) (c d : KeyedAct) (own : IsBlobRow w c) (held : part_at w c.key ≡ held_of (logged s) c.key) where
  there : finite.get (held_of (logged s) c.key).blobs own.name ≡ Some own.blob
  there = subst (λ (p : Part (List Piece)). finite.get p.blobs own.name ≡ Some own.blob) held own.there

  -- the content of the row is stored
  pub row_stored : AreKept s → EachActContent (AreStored (laid s.blobs)) c.act
  row_stored kept =
      subst (EachActContent (AreStored (laid s.blobs))) (sym own.row)
      (row_content (AreStored (laid s.blobs)) own.name own.blob
      (subst (λ (o : Option (Blob (List Piece))). EachBlobContent (AreStored (laid s.blobs)) (unwrap_or o no_blob)) there (held_of-stored s c.key kept own.name)))

  -- it is the row of a blob
  pub row_is_one : IsSome (stored_blob_of c.act)
  row_is_one = subst (λ a. IsSome (stored_blob_of a)) (sym own.row) refl

  moved_again : (a : Act) → EachActContent (AreStored (laid s.blobs)) (blob_row_of (own.name, own.blob)) → KeepsPlaces (laid s.blobs) (laid t.blobs)
      → IsMovedAct (laid s.blobs) (blob_row_of (own.name, own.blob)) (laid t.blobs) a
      → AreOfOneBlob (blob_row_of (own.name, own.blob)) a × IsAgain (laid t.blobs) (held_of (logged s) c.key) a
  moved_again (act.StoredBlob b) stored keeps m = (
    m.blob,
    (
      own.blob,
      (
        subst (λ name. finite.get (held_of (logged s) c.key).blobs name ≡ Some own.blob) (sym m.blob) there,
        subst (λ name. IsMovedRow (laid t.blobs) (row_of name own.blob) (laid t.blobs) b) (sym m.blob)
            (moved_here (laid s.blobs) (laid t.blobs) (row_of own.name own.blob) b keeps stored m),
      ),
    ),
  )
  moved_again (act.CreateContainer b) stored keeps m = absurd m
  moved_again (act.SetContainerMetadata b) stored keeps m = absurd m
  moved_again (act.SetAcl b) stored keeps m = absurd m
  moved_again act.DeleteContainer stored keeps m = absurd m
  moved_again (act.PutBlob b) stored keeps m = absurd m
  moved_again (act.SetMetadata b) stored keeps m = absurd m
  moved_again (act.DeleteBlob b) stored keeps m = absurd m
  moved_again (act.PutBlock b) stored keeps m = absurd m
  moved_again (act.PutBlockList b) stored keeps m = absurd m
  moved_again (act.ContainerRow b) stored keeps m = absurd m

  -- a row whose content was moved says again what its container has
  pub row_rewritten : AreKept s → KeepsPlaces (laid s.blobs) (laid t.blobs) → IsMovedChange (laid s.blobs) c (laid t.blobs) d
      → EachActContent (AreFrom (length s.blobs.sealed)) d.act → IsRewritten s c t d
  row_rewritten kept keeps moved from =
      let both =
      moved_again d.act (subst (EachActContent (AreStored (laid s.blobs))) own.row (row_stored kept)) keeps
      (subst (λ a. IsMovedAct (laid s.blobs) a (laid t.blobs) d.act) own.row moved.act) in
      record {
        key = moved.key;
        name = subst (λ a. AreOfOneBlob a d.act) (sym own.row) both.0;
        again = subst (λ k. IsAgain (laid t.blobs) (held_of (logged s) k) d.act) (sym moved.key) both.1;
        from = from;
      }

-- the same beside streams with the same data
pub rewritten_same : (s m t : ThreeStreams) (c d : KeyedAct) → t.blobs ≡ m.blobs → IsRewritten s c m d → IsRewritten s c t d
rewritten_same s m t c d blobs re = record {
  key = re.key;
  name = re.name;
  again = subst (λ x. IsAgain (laid x) (held_of (logged s) d.key) d.act) (sym blobs) re.again;
  from = re.from;
}

-- a row that is rewritten is the row of a blob that its container has
pub rewritten_there : (s t : ThreeStreams) (w : World (List Piece)) (c d : KeyedAct) → part_at w c.key ≡ held_of (logged s) c.key → IsRewritten s c t d → IsBlobRow w c
    → IsSomeAnd (stored_blob_of d.act) (λ row. IsSome (finite.get (part_at w d.key).blobs row.blob))
rewritten_there s t w c d held again own = by d.act again.again (subst (λ a. AreOfOneBlob a d.act) own.row again.name)
  where
    at : part_at w d.key ≡ held_of (logged s) d.key
    at = subst (λ k. part_at w k ≡ held_of (logged s) k) (sym again.key) held

    by : (a : Act) → IsAgain (laid t.blobs) (held_of (logged s) d.key) a → AreOfOneBlob (blob_row_of (own.name, own.blob)) a
        → IsSomeAnd (stored_blob_of a) (λ row. IsSome (finite.get (part_at w d.key).blobs row.blob))
    by (act.StoredBlob b) is one =
        subst (λ (p : Part (List Piece)). IsSome (finite.get p.blobs b.blob)) (sym at)
        (subst (λ (o : Option (Blob (List Piece))). IsSome o) (sym is.1.0) refl)
    by (act.CreateContainer b) is one = absurd is
    by (act.SetContainerMetadata b) is one = absurd is
    by (act.SetAcl b) is one = absurd is
    by act.DeleteContainer is one = absurd is
    by (act.PutBlob b) is one = absurd is
    by (act.SetMetadata b) is one = absurd is
    by (act.DeleteBlob b) is one = absurd is
    by (act.PutBlock b) is one = absurd is
    by (act.PutBlockList b) is one = absurd is
    by (act.ContainerRow b) is one = absurd one

-- ---- the faults that the wire counts

-- the content was not put
pub put_again_fails : (f : CompactionFault) (a b : Calls) → FailsCompaction {T = KeyedAct} (Err f) a b → FailsLogged (Err (unlogged_of_put (stored_fault_of_compaction f))) a b
put_again_fails compaction.Busy a b (inl h) = each_fails a b h
put_again_fails compaction.Busy a b (inr h) = puts_fail a b h
put_again_fails compaction.Unreachable a b h = (h.1, h.0)
put_again_fails compaction.NoMemory a b h = h

-- the row was logged, or not, after its content was put
pub logged_later : (r : Result KeyedAct Unlogged) (a b c : Calls) → Grows a b → FailsLogged r b c → FailsLogged r a c
logged_later (Ok d) a b c g h = grows_twice a b c g h
logged_later (Err fault.Busy) a b c g h = fails_later a b c g h
logged_later (Err (fault.Doubt d)) a b c g h = fails_later a b c g h
logged_later (Err fault.NoMemory) a b c g h = grows_twice a b c g h

-- what holds of the row that is logged, or in doubt
pub logged_then : (P Q : KeyedAct → Type 0) → ((d : KeyedAct) → P d → Q d) → (r : Result KeyedAct Unlogged) → IfLogged r P → IfLogged r Q
logged_then P Q then (Ok d) h = then d h
logged_then P Q then (Err (fault.Doubt d)) h = then d h
logged_then P Q then (Err fault.Busy) h = tt
logged_then P Q then (Err fault.NoMemory) h = tt
