-- A row that is in doubt: what is kept of it, and how its doubt ends.
use Rattle.std.proofs.Common.{◌≡◌, ◌≢◌, ◌∙◌, ◌++◌, ◌∷◌, [], Bool, true, false, cond, List, Option, Some, None, IfSome, IsSome, Result, Ok, Err, ap, refl, sym, subst}
use Rattle.std.specs.FinMap as finite
use Rattle.std.specs.Option.{option_map}
use Rattle.std.specs.Prelude.{OnErr, OnOk, is_some}
use Rattle.extent_node.specs.Copies.{Block}
use Rattle.extent_node.specs.Faults.{Calls}
use Rattle.stamp_values.specs.declared.key.Key.{Key}
use Rattle.stamp_types.specs.ActKinds.{is_row}
use Rattle.stamp_types.specs.Changes.{KeyedAct, act_with}
use Rattle.stamp_types.specs.World.{Blob, Part, World, part_at}
use Rattle.stamp_types.specs.declared.act.Act.{Act}
use Rattle.stamp_types.specs.declared.act.Act.TheVariants as act
use Rattle.stamp_types.specs.declared.act.ContainerRow.{ContainerRow}
use Rattle.stamp_types.specs.declared.act.StoredBlob.{StoredBlob}
use Rattle.stamp_types.specs.declared.piece.Piece.{Piece}
use Rattle.block_blobs.specs.StoredRows.{blob_of_row}
use Rattle.row_trees.specs.RowRecords.{container_row_of}
use Rattle.stream_manager.specs.Counting.{FailsSettle}
use Rattle.stream_manager.specs.Streams.{laid}
use Rattle.stream_manager.specs.declared.faults.Settled.{Settled}
use Rattle.stream_manager.specs.declared.faults.Settled.TheVariants as settled
use Rattle.stream_manager.specs.declared.faults.StoredFault.{StoredFault}
use Rattle.stream_manager.specs.declared.faults.StoredFault.TheVariants as stored
use Rattle.partition_stream.specs.Changes.{Recorded}
use Rattle.partition_stream.specs.Meanings.{IsOneMore, held_of, meaning}
use Rattle.partition_stream.specs.Outcomes.{IsLogSettled}
use Rattle.partition_stream.specs.Positions.{all_changes}
use Rattle.partition_stream.specs.Storing.{AreKept}
use Rattle.partition_stream.specs.Streams.{ThreeStreams, logged}
use Rattle.partition_stream.specs.declared.faults.TakeFault.{TakeFault}
use Rattle.partition_stream.specs.declared.faults.TakeFault.TheVariants as take
use Rattle.stored_rows.specs.Counting.{FailsStored}
use Rattle.stored_rows.specs.Faults.{unlogged_by}
use Rattle.stored_rows.specs.Loaded.{AreLoaded, AreRowsOf, IsFollowed}
use Rattle.stored_rows.specs.Logging.{IsPutAndLogged, with_placed}
use Rattle.stored_rows.specs.Noting.{IfKept}
use Rattle.stored_rows.specs.Ranges.{covers}
use Rattle.stored_rows.specs.Rewriting.{IfLogged, IsRowLogged}
use Rattle.stored_rows.specs.RowDoubts.{EndsRow, FitsMemory, FitsRowDoubt, HasRow, HasSpare, IsKeptReady, ended_row_by, stored_blob_of}
use Rattle.stored_rows.specs.States.{own_doubt}
use Rattle.stored_rows.specs.Swept.{AreSwept, IsAgain}
use Rattle.stored_rows.specs.declared.key_range.KeyRange.{KeyRange}
use Rattle.stored_rows.specs.declared.logging.Unlogged.{Unlogged}
use Rattle.stored_rows.specs.declared.logging.Unlogged.TheVariants as fault
use Rattle.stored_rows.specs.declared.sweep.Sweep.{Sweep}
use Rattle.stored_rows.proofs.CountLemmas.{settle_fails, settle_grows}
use Rattle.stored_rows.proofs.FittingLemmas.{all_fit_more}
use Rattle.stored_rows.proofs.LoadLemmas.{part_of-covered}
use Rattle.stored_rows.proofs.RowAgainLemmas.{container_row_keeps, row_doubt_kept}
use Rattle.stored_rows.proofs.StepLemmas.{IsRowFor, same_rows}
use Rattle.stored_rows.proofs.TakeLemmas.{clean_loaded, doubt_own, dropped_loaded, held_same, kept_loaded, log_keeps, meaning_same, no_doubt, one_more, same_log_doubt, same_log_keeps, undoubted}

-- ---- what is kept of a row in doubt

-- nothing is in doubt
pub no_row : (s : ThreeStreams) (spare : Option (Blob (List Piece))) → (logged s).doubt ≡ None → FitsRowDoubt s spare
no_row s spare none = subst (λ (o : Option Recorded). IfSome o (λ c. is_row c.0.act ≡ true → IsKeptReady s spare c)) (sym none) tt

-- a change that was taken is in doubt
pub no_row_of : (s : ThreeStreams) (spare : Option (Blob (List Piece))) (c : Recorded) → (logged s).doubt ≡ Some c → is_row c.0.act ≡ false → FitsRowDoubt s spare
no_row_of s spare c is plain =
    subst (λ (o : Option Recorded). IfSome o (λ d. is_row d.0.act ≡ true → IsKeptReady s spare d)) (sym is) (λ row. let wrong : true ≡ false = sym row ∙ plain in absurd cc)

-- the change in doubt, if there is one, was taken
own_again : (s : ThreeStreams) (spare : Option (Blob (List Piece))) → own_doubt (logged s).doubt ≡ (logged s).doubt → FitsRowDoubt s spare
own_again s spare own = by (logged s).doubt refl own
  where
    plain_of : (c : Recorded) (b : Bool) → is_row c.0.act ≡ b → own_doubt (Some c) ≡ Some c → is_row c.0.act ≡ false
    plain_of c false plain same = plain
    plain_of c true row same = let gone : own_doubt (Some c) ≡ None = ap (λ b. cond b None (Some c)) row in let wrong : None ≡ Some c = sym gone ∙ same in absurd cc

    by : (o : Option Recorded) → (logged s).doubt ≡ o → own_doubt (logged s).doubt ≡ (logged s).doubt → FitsRowDoubt s spare
    by None is same = no_row s spare is
    by (Some c) is same = no_row_of s spare c is (plain_of c (is_row c.0.act) refl (sym (ap own_doubt is) ∙ same ∙ is))

-- after a settle of a change that was taken
pub settled_again : (r : Result Settled StoredFault) (s t : ThreeStreams) (spare : Option (Blob (List Piece))) → own_doubt (logged s).doubt ≡ (logged s).doubt → IsLogSettled r s t → FitsRowDoubt t spare
settled_again (Ok settled.Clean) s t spare own h = no_row t spare (same_log_doubt s t h.1 ∙ h.0)
settled_again (Ok (settled.Kept p)) s t spare own h = no_row t spare h.1.1.1
settled_again (Ok settled.Dropped) s t spare own h = no_row t spare h.1.1
settled_again (Err f) s t spare own h = own_again t spare (ap own_doubt (same_log_doubt s t h.1) ∙ own ∙ sym (same_log_doubt s t h.1))

-- after a take
pub taken_again : (r : Result KeyedAct Unlogged) (s t : ThreeStreams) (c : Recorded) (spare : Option (Blob (List Piece))) → IsPutAndLogged r s c t → IfLogged r (λ d. is_row d.act ≡ false) → FitsRowDoubt t spare
taken_again (Ok d) s t c spare h plain = no_row t spare h.sure
taken_again (Err (fault.Doubt d)) s t c spare h plain = no_row_of t spare (d, c.1) h.doubt plain
taken_again (Err fault.Busy) s t c spare h plain = no_row t spare h.1
taken_again (Err fault.NoMemory) s t c spare h plain = no_row t spare h.1

-- a change with its content at places is no row, if it was none
pub placed_plain : (c : KeyedAct) (o : Option (List Piece)) → is_row c.act ≡ false → is_row (with_placed c o).act ≡ false
placed_plain c None plain = plain
placed_plain c (Some ps) plain = by c.act plain
  where
    by : (a : Act) → is_row a ≡ false → is_row (act_with a ps) ≡ false
    by (act.PutBlob a) h = refl
    by (act.PutBlock a) h = refl
    by (act.CreateContainer a) h = h
    by (act.SetContainerMetadata a) h = h
    by (act.SetAcl a) h = h
    by act.DeleteContainer h = h
    by (act.SetMetadata a) h = h
    by (act.DeleteBlob a) h = h
    by (act.PutBlockList a) h = h
    by (act.ContainerRow a) h = h
    by (act.StoredBlob a) h = h

pub unlogged_plain : (f : TakeFault) (d : KeyedAct) → is_row d.act ≡ false → IfLogged (Err (unlogged_by f d)) (λ c. is_row c.act ≡ false)
unlogged_plain take.Doubt d plain = plain
unlogged_plain take.Busy d plain = tt
unlogged_plain take.NoMemory d plain = tt

-- streams with the same data and the same changes
pub row_same : (s t : ThreeStreams) (spare : Option (Blob (List Piece))) → laid t.blobs ≡ laid s.blobs → ((key : Key) → held_of (logged t) key ≡ held_of (logged s) key)
    → (logged t).doubt ≡ (logged s).doubt → FitsRowDoubt s spare → FitsRowDoubt t spare
row_same s t spare blobs held same old =
    subst (λ (o : Option Recorded). IfSome o (λ c. is_row c.0.act ≡ true → IsKeptReady t spare c)) (sym same) (by (logged s).doubt refl old)
  where
    by : (o : Option Recorded) → (logged s).doubt ≡ o → IfSome o (λ c. is_row c.0.act ≡ true → IsKeptReady s spare c) → IfSome o (λ c. is_row c.0.act ≡ true → IsKeptReady t spare c)
    by None is ready = tt
    by (Some c) is ready = λ row.
        let own = ready row in
        record {
          row = record {
            doubt = same ∙ is;
            epoch = own.row.epoch;
            again = subst (λ (es : List (List Block)). IsAgain es (held_of (logged t) c.0.key) c.0.act) (sym blobs)
                (subst (λ (p : Part (List Piece)). IsAgain (laid s.blobs) p c.0.act) (sym (held c.0.key)) own.row.again);
          };
          made = own.made;
        }

-- after a row of a sweep
pub row_again : (s t : ThreeStreams) (range : KeyRange) (w : Sweep) (swept : AreSwept w range s) (spare : Option (Blob (List Piece))) (r : Result KeyedAct Unlogged) → IsRowLogged r s t
    → IfLogged r (IsRowFor s t range w swept) → HasSpare r spare → FitsRowDoubt t spare
row_again s t range w swept spare (Ok d) h for made = no_row t spare h.sure
row_again s t range w swept spare (Err (fault.Doubt d)) h for made =
    subst (λ (o : Option Recorded). IfSome o (λ c. is_row c.0.act ≡ true → IsKeptReady t spare c)) (sym h.doubt) (λ row. record {
      row = record {
        doubt = h.doubt;
        epoch = refl;
        again = subst (λ (p : Part (List Piece)). IsAgain (laid t.blobs) p d.act) (sym (held_same s t h.log d.key)) for.1.0;
      };
      made = made;
    })
row_again s t range w swept spare (Err fault.Busy) h for made = no_row t spare h.1
row_again s t range w swept spare (Err fault.NoMemory) h for made = no_row t spare h.1

-- the own row of a container needs no row in memory
pub own_spare : (key : Key) (p : Part (List Piece)) (spare : Option (Blob (List Piece))) (r : Result KeyedAct Unlogged)
    → IfLogged r (λ d. d ≡ record { key = key; act = act.ContainerRow (container_row_of p) }) → HasSpare r spare
own_spare key p spare (Ok d) own = tt
own_spare key p spare (Err (fault.Doubt d)) own = subst (λ (c : KeyedAct). IfSome (stored_blob_of c.act) (λ r. spare ≡ Some (blob_of_row r))) (sym own) tt
own_spare key p spare (Err fault.Busy) own = tt
own_spare key p spare (Err fault.NoMemory) own = tt

-- ---- the end of the doubt

-- a change of which the doubt is not one that was taken is a row
row_of_none : (c : Recorded) (b : Bool) → is_row c.0.act ≡ b → own_doubt (Some c) ≡ None → is_row c.0.act ≡ true
row_of_none c true row none = row
row_of_none c false plain none = let some : own_doubt (Some c) ≡ Some c = ap (λ b. cond b None (Some c)) plain in let wrong : Some c ≡ None = sym some ∙ none in absurd cc

module _ (s t : ThreeStreams) (range : KeyRange) (v : Option (World (List Piece))) (d : Option KeyedAct) (spare : Option (Blob (List Piece))) (old : AreLoaded s v d range) (ready : FitsRowDoubt s spare)
    (own : own_doubt (logged s).doubt ≡ None) where
  -- the change in doubt is a row that is kept ready
  row_ready : (c : Recorded) → (logged s).doubt ≡ Some c → IsKeptReady s spare c
  row_ready c is =
      subst (λ (o : Option Recorded). IfSome o (λ x. is_row x.0.act ≡ true → IsKeptReady s spare x)) is ready
      (row_of_none c (is_row c.0.act) refl (subst (λ o. own_doubt o ≡ None) is own))

  -- what is kept beside the streams is the row in doubt
  beside : (c : Recorded) → (logged s).doubt ≡ Some c → d ≡ Some c.0
  beside c is = old.tried ∙ ap (option_map (λ (x : Recorded). x.0)) is

  memory_of : (c : Recorded) (a : Act) → c.0.act ≡ a → IsKeptReady s spare c → covers range c.0.key ≡ true → (w : World (List Piece)) → AreRowsOf range s w
      → IfSome (stored_blob_of a) (λ r. (spare ≡ Some (blob_of_row r)) × IsSome (finite.get (part_at w c.0.key).blobs r.blob))
  memory_of c (act.StoredBlob r) is kept covered w rows =
      let made = subst (λ a. IfSome (stored_blob_of a) (λ q. spare ≡ Some (blob_of_row q))) is kept.made in
      let again = subst (λ a. IsAgain (laid s.blobs) (held_of (logged s) c.0.key) a) is kept.row.again in (
        made,
        subst (λ (p : Part (List Piece)). IsSome (finite.get p.blobs r.blob)) (sym (rows c.0.key ∙ part_of-covered range c.0.key (all_changes s) covered))
            (subst (λ (o : Option (Blob (List Piece))). IsSome o) (sym again.1.0) refl),
      )
  memory_of c (act.ContainerRow r) is kept covered w rows = tt
  memory_of c (act.CreateContainer a) is kept covered w rows = tt
  memory_of c (act.SetContainerMetadata a) is kept covered w rows = tt
  memory_of c (act.SetAcl a) is kept covered w rows = tt
  memory_of c act.DeleteContainer is kept covered w rows = tt
  memory_of c (act.PutBlob a) is kept covered w rows = tt
  memory_of c (act.SetMetadata a) is kept covered w rows = tt
  memory_of c (act.DeleteBlob a) is kept covered w rows = tt
  memory_of c (act.PutBlock a) is kept covered w rows = tt
  memory_of c (act.PutBlockList a) is kept covered w rows = tt

  in_memory : (c : Recorded) → (logged s).doubt ≡ Some c → (o : Option (World (List Piece))) → IfSome o (AreRowsOf range s) → IfSome o (λ w. FitsMemory w spare c.0)
  in_memory c is None rows = tt
  in_memory c is (Some w) rows = memory_of c c.0.act refl (row_ready c is) (doubt_own s range c old.doubt is).0 w rows

  -- the row fits the rows in memory, if it is kept
  pub row_fits_memory : (r : Result Settled StoredFault) → IsLogSettled r s t → IfKept r (IfSome d (λ c. IfSome v (λ w. FitsMemory w spare c)))
  row_fits_memory (Ok settled.Clean) h = tt
  row_fits_memory (Ok (settled.Kept p)) h =
      subst (λ (o : Option KeyedAct). IfSome o (λ c. IfSome v (λ w. FitsMemory w spare c))) (sym (beside h.0 h.1.0)) (in_memory h.0 h.1.0 v old.rows)
  row_fits_memory (Ok settled.Dropped) h = tt
  row_fits_memory (Err f) h = tt

  module _ (kept : AreKept s) (blobs : t.blobs ≡ s.blobs) (rows : t.rows ≡ s.rows) where
    -- the own row of a container says what the container has
    own_row_is : (c : Recorded) (r : ContainerRow) → c.0.act ≡ act.ContainerRow r → (logged s).doubt ≡ Some c
        → c ≡ (record { key = c.0.key; act = act.ContainerRow (container_row_of (held_of (logged s) c.0.key)) }, 0)
    own_row_is c r act_is is =
        let ready_now = row_ready c is in
        let again : r ≡ container_row_of (held_of (logged s) c.0.key) = subst (λ x. IsAgain (laid s.blobs) (held_of (logged s) c.0.key) x) act_is ready_now.row.again in
        λ i. (record { key = c.0.key; act = (act_is ∙ ap (λ x. act.ContainerRow x) again) i }, ready_now.row.epoch i)

    rows_kept : (c : Recorded) (r : ContainerRow) → c.0.act ≡ act.ContainerRow r → (logged s).doubt ≡ Some c → IsOneMore (logged s) c (logged t)
        → (o : Option (World (List Piece))) → IfSome o (AreRowsOf range s) → IfSome o (AreRowsOf range t)
    rows_kept c r act_is is more None have = tt
    rows_kept c r act_is is more (Some u) have = λ k.
        have k
        ∙ same_rows s t range k (covers range k) refl
        (container_row_keeps (logged s) (logged t) c.0.key k (subst (λ x. IsOneMore (logged s) x (logged t)) (own_row_is c r act_is is) more))

    -- rows in memory after the row of a container was kept: they are as they were
    own_kept : (c : Recorded) (r : ContainerRow) → c.0.act ≡ act.ContainerRow r → (logged s).doubt ≡ Some c → IsOneMore (logged s) c (logged t) → (logged t).doubt ≡ None → AreLoaded t v None range
    own_kept c r act_is is more now = record {
      fit = all_fit_more s t c old.fit more (doubt_own s range c old.doubt is).1;
      doubt = no_doubt range t now;
      tried = sym (undoubted t now);
      rows = rows_kept c r act_is is more v old.rows;
    }

    followed_row : (c : KeyedAct) (o w : Option (World (List Piece))) (r : StoredBlob) → HasRow (act.StoredBlob r) o c w → IsFollowed o c w
    followed_row c None w r has = subst (λ (x : Option (World (List Piece))). IsFollowed None c x) (sym has) tt
    followed_row c (Some u) w r has = subst (λ (x : Option (World (List Piece))). IsFollowed (Some u) c x) (sym has) refl

    kept_row : (c : Recorded) (a : Act) → c.0.act ≡ a → is_row a ≡ true → (logged s).doubt ≡ Some c → (logged t).log ≡ (logged s).log ++ c ∷ [] → (logged t).doubt ≡ None
        → (w : Option (World (List Piece))) → HasRow a v c.0 w → AreLoaded t w None range
    kept_row c (act.StoredBlob r) act_is row is log now w has =
        kept_loaded s t range v d old blobs rows c w is log now (subst (λ (o : Option KeyedAct). IfSome o (λ k. IsFollowed v k w)) (sym (beside c is)) (followed_row c.0 v w r has))
    kept_row c (act.ContainerRow r) act_is row is log now w has =
        subst (λ (o : Option (World (List Piece))). AreLoaded t o None range) (sym has) (own_kept c r act_is is (one_more s t range v d old blobs rows c log) now)
    kept_row c (act.CreateContainer a) act_is row is log now w has = cc
    kept_row c (act.SetContainerMetadata a) act_is row is log now w has = cc
    kept_row c (act.SetAcl a) act_is row is log now w has = cc
    kept_row c act.DeleteContainer act_is row is log now w has = cc
    kept_row c (act.PutBlob a) act_is row is log now w has = cc
    kept_row c (act.SetMetadata a) act_is row is log now w has = cc
    kept_row c (act.DeleteBlob a) act_is row is log now w has = cc
    kept_row c (act.PutBlock a) act_is row is log now w has = cc
    kept_row c (act.PutBlockList a) act_is row is log now w has = cc

    -- what is true of all stored rows is true of them after the end
    pub row_ended_loaded : (r : Result Settled StoredFault) (w : Option (World (List Piece))) (e : Option KeyedAct) → IsLogSettled r s t → EndsRow r v w d e → AreLoaded t w e range
    row_ended_loaded (Ok settled.Clean) w e h f =
        subst (λ o. AreLoaded t w o range) (sym f.1) (subst (λ o. AreLoaded t o d range) (sym f.0) (clean_loaded s t range v d old blobs rows h.1))
    row_ended_loaded (Ok (settled.Kept p)) w e h f =
        let has : HasRow h.0.0.act v h.0.0 w = subst (λ (o : Option KeyedAct). IfSome o (λ c. HasRow c.act v c w)) (beside h.0 h.1.0) f.0 in
        subst (λ o. AreLoaded t w o range) (sym f.1)
        (kept_row h.0 h.0.0.act refl (row_of_none h.0 (is_row h.0.0.act) refl (subst (λ o. own_doubt o ≡ None) h.1.0 own)) h.1.0 h.1.1.0 h.1.1.1 w has)
    row_ended_loaded (Ok settled.Dropped) w e h f =
        subst (λ o. AreLoaded t w o range) (sym f.1) (subst (λ o. AreLoaded t o None range) (sym f.0) (dropped_loaded s t range v d old blobs rows h.1.0 h.1.1))
    row_ended_loaded (Err x) w e h f =
        subst (λ o. AreLoaded t w o range) (sym f.1) (subst (λ o. AreLoaded t o d range) (sym f.0) (clean_loaded s t range v d old blobs rows h.1))

    -- each container is as it was, in bytes
    pub row_ended_means : (r : Result Settled StoredFault) → IsLogSettled r s t → (k : Key) → meaning (logged t) k ≡ meaning (logged s) k
    row_ended_means (Ok settled.Clean) h k = meaning_same s t (same_log_keeps s t h.1 blobs rows) kept k
    row_ended_means (Ok (settled.Kept p)) h k = row_doubt_kept s t h.0 kept (row_ready h.0 h.1.0).row (one_more s t range v d old blobs rows h.0 h.1.1.0) blobs k
    row_ended_means (Ok settled.Dropped) h k = meaning_same s t (log_keeps s t h.1.0 blobs rows) kept k
    row_ended_means (Err f) h k = meaning_same s t (same_log_keeps s t h.1 blobs rows) kept k

    -- nothing is in doubt afterwards, or the row is as before
    pub row_ended_sure : (r : Result Settled StoredFault) → IsLogSettled r s t → OnOk (ended_row_by r) ((logged t).doubt ≡ None)
    row_ended_sure (Ok settled.Clean) h = same_log_doubt s t h.1 ∙ h.0
    row_ended_sure (Ok (settled.Kept p)) h = h.1.1.1
    row_ended_sure (Ok settled.Dropped) h = h.1.1
    row_ended_sure (Err f) h = tt

    pub row_ended_own : (r : Result Settled StoredFault) → IsLogSettled r s t → own_doubt (logged t).doubt ≡ None
    row_ended_own (Ok settled.Clean) h = ap own_doubt (same_log_doubt s t h.1) ∙ own
    row_ended_own (Ok (settled.Kept p)) h = ap own_doubt h.1.1.1
    row_ended_own (Ok settled.Dropped) h = ap own_doubt h.1.1
    row_ended_own (Err f) h = ap own_doubt (same_log_doubt s t h.1) ∙ own

    pub row_ended_again : (r : Result Settled StoredFault) (u : Option (Blob (List Piece))) → IsLogSettled r s t → OnErr r (u ≡ spare) → FitsRowDoubt t u
    row_ended_again (Ok e) u h same = no_row t u (row_ended_sure (Ok e) h)
    row_ended_again (Err f) u h same =
        subst (FitsRowDoubt t) (sym same) (row_same s t spare (ap laid blobs) (held_same s t (same_log_keeps s t h.1 blobs rows)) (same_log_doubt s t h.1) ready)

-- the row of a blob does not load rows
pub has_row_loaded : (a : Act) (v : Option (World (List Piece))) (c : KeyedAct) (w : Option (World (List Piece))) → HasRow a v c w → is_some w ≡ is_some v
has_row_loaded (act.StoredBlob r) None c w has = ap (λ (o : Option (World (List Piece))). is_some o) has
has_row_loaded (act.StoredBlob r) (Some v) c w has = ap (λ (o : Option (World (List Piece))). is_some o) has
has_row_loaded (act.ContainerRow r) v c w has = ap (λ (o : Option (World (List Piece))). is_some o) has
has_row_loaded (act.CreateContainer a) v c w has = ap (λ (o : Option (World (List Piece))). is_some o) has
has_row_loaded (act.SetContainerMetadata a) v c w has = ap (λ (o : Option (World (List Piece))). is_some o) has
has_row_loaded (act.SetAcl a) v c w has = ap (λ (o : Option (World (List Piece))). is_some o) has
has_row_loaded act.DeleteContainer v c w has = ap (λ (o : Option (World (List Piece))). is_some o) has
has_row_loaded (act.PutBlob a) v c w has = ap (λ (o : Option (World (List Piece))). is_some o) has
has_row_loaded (act.SetMetadata a) v c w has = ap (λ (o : Option (World (List Piece))). is_some o) has
has_row_loaded (act.DeleteBlob a) v c w has = ap (λ (o : Option (World (List Piece))). is_some o) has
has_row_loaded (act.PutBlock a) v c w has = ap (λ (o : Option (World (List Piece))). is_some o) has
has_row_loaded (act.PutBlockList a) v c w has = ap (λ (o : Option (World (List Piece))). is_some o) has

-- the faults of the end
pub row_ended_fails : (r : Result Settled StoredFault) (a b : Calls) → FailsSettle r a b → FailsStored (ended_row_by r) a b
row_ended_fails (Ok e) a b h = settle_grows e a b h
row_ended_fails (Err f) a b h = settle_fails (Unit {0}) f a b h

-- an end that fails
pub ended_err : (r : Result Settled StoredFault) (P : Type 0) → OnErr (ended_row_by r) P → OnErr r P
ended_err (Ok e) P h = tt
ended_err (Err f) P h = h
