-- Rows that are written again: what is true of stored rows, and of a sweep, is true of them afterwards.
use Rattle.std.proofs.Common.{◌≡◌, ◌≤◌, ◌==◌, ◌∙◌, ◌⊎◌, inl, inr, Bool, true, false, cond, Option, Some, None, IfSome, IsSome, Result, Ok, Err, ◌||◌, List, [], ◌∷◌, ap, refl, sym, subst}
use Rattle.std.proofs.lemmas.Bool.{eqb-true}
use Rattle.std.specs.FinMap as finite
use Rattle.std.specs.Prelude.{is_none, length}
use Rattle.extent_node.specs.Copies.{Block}
use Rattle.stamp_values.specs.declared.key.Key.{Key}
use Rattle.stamp_types.specs.ActKinds.{is_row}
use Rattle.stamp_types.specs.Changes.{KeyedAct}
use Rattle.stamp_types.specs.World.{Part, World, changed_in, part_at, same_pieces}
use Rattle.stamp_types.specs.declared.act.Act.{Act}
use Rattle.stamp_types.specs.declared.act.Act.TheVariants as act
use Rattle.stamp_types.specs.declared.act.StoredBlob.{StoredBlob}
use Rattle.stamp_types.specs.declared.piece.Piece.{Piece}
use Rattle.row_trees.specs.RowRecords.{container_row_of}
use Rattle.stream_manager.specs.Places.{GoesOn}
use Rattle.stream_manager.specs.Streams.{laid}
use Rattle.partition_stream.specs.Changes.{Recorded}
use Rattle.partition_stream.specs.Meanings.{IsOneMore, held_of}
use Rattle.partition_stream.specs.Positions.{all_changes}
use Rattle.partition_stream.specs.Streams.{ThreeStreams, logged}
use Rattle.stored_rows.specs.Fitting.{Fits}
use Rattle.row_trees.specs.Halfway.{News}
use Rattle.stored_rows.specs.Loaded.{AreLoaded, part_of}
use Rattle.stored_rows.specs.Logging.{KeepsLog}
use Rattle.stored_rows.specs.Ranges.{covers}
use Rattle.stored_rows.specs.Swept.{AllNews, AreSwept, IsAgain, IsBegun, IsLoggable, IsNewRow, MayLog, is_unseen, with_new_change}
use Rattle.stored_rows.specs.declared.key_range.KeyRange.{KeyRange}
use Rattle.stored_rows.specs.declared.sweep.Sweep.{Sweep}
use Rattle.std.specs.Cmp.{eq_by_cmp_equiv}
use Rattle.std.specs.Option.{option_map}
use Rattle.extent_node.specs.Faults.{Calls}
use Rattle.stamp_values.specs.Order.{names_total}
use Rattle.stream_manager.specs.Places.{KeepsPlaces}
use Rattle.partition_stream.specs.Meanings.{meaning}
use Rattle.partition_stream.specs.Storing.{AreKept}
use Rattle.partition_stream.specs.Streams.{Logged}
use Rattle.partition_stream.specs.declared.faults.TakeFault.{TakeFault}
use Rattle.partition_stream.specs.declared.faults.TakeFault.TheVariants as take
use Rattle.partition_stream.proofs.ContentLemmas.{part_reads, part_stays}
use Rattle.partition_stream.proofs.MeaningLemmas.{held_of-stored}
use Rattle.partition_stream.proofs.RewritingLemmas.{act_from}
use Rattle.stored_rows.specs.Counting.{FailsLogged}
use Rattle.stored_rows.specs.Noting.{taken_by}
use Rattle.stored_rows.specs.Rewriting.{AddsRow, FailsStep, GoOn, IfLogged, IsRewritten, IsRowLogged, IsSwapped, LeavesRowDoubt, doubt_after}
use Rattle.stored_rows.specs.Swept.{next_news}
use Rattle.stored_rows.specs.declared.logging.Unlogged.{Unlogged}
use Rattle.stored_rows.specs.declared.logging.Unlogged.TheVariants as fault
use Rattle.stored_rows.proofs.AreSweptLemmas.{swept_sure}
use Rattle.stored_rows.proofs.FittingLemmas.{is_on-own}
use Rattle.stored_rows.proofs.RowAgainLemmas.{again_keeps}
use Rattle.stored_rows.proofs.TakeLemmas.{held_same, meaning_same}
use Rattle.stored_rows.proofs.AreSweptLemmas.{swept_doubts, swept_news}
use Rattle.stored_rows.proofs.CheckpointLemmas.{row_fits}
use Rattle.stored_rows.proofs.FittingLemmas.{all_fit_more, all_more}
use Rattle.stored_rows.proofs.KnownLemmas.{begun_next, both_true, none_of, none_some, nothing_in}
use Rattle.stored_rows.proofs.LoadLemmas.{have_more_covered, part_of-apart, part_of-covered}
use Rattle.stored_rows.proofs.RowAgainLemmas.{container_row_keeps}
use Rattle.stored_rows.proofs.TakeLemmas.{loaded_same, no_doubt, still_none}

-- what says again what a container has is a row
pub again_row : (es : List (List Block)) (p : Part (List Piece)) (a : Act) → IsAgain es p a → is_row a ≡ true
again_row es p (act.StoredBlob a) again = refl
again_row es p (act.ContainerRow a) again = refl
again_row es p (act.CreateContainer a) again = absurd again
again_row es p (act.SetContainerMetadata a) again = absurd again
again_row es p (act.SetAcl a) again = absurd again
again_row es p act.DeleteContainer again = absurd again
again_row es p (act.PutBlob a) again = absurd again
again_row es p (act.SetMetadata a) again = absurd again
again_row es p (act.DeleteBlob a) again = absurd again
again_row es p (act.PutBlock a) again = absurd again
again_row es p (act.PutBlockList a) again = absurd again

-- the own row of a container may always be logged
pub own_may : (o : Option News) (p : Part (List Piece)) → MayLog o p (act.ContainerRow (container_row_of p))
own_may (Some news) p = tt
own_may None p = refl

-- a container whose own row was written since the mark, or that has seen no change
abbrev pub IsReady : Option News → Part (List Piece) → Type 0
IsReady o p = IsBegun o p ⊎ (is_unseen p ≡ true)

blob_ready : (o : Option News) (p : Part (List Piece)) (row : StoredBlob) → IsReady o p → IsSome (finite.get p.blobs row.blob) → MayLog o p (act.StoredBlob row)
blob_ready (Some news) p row ready there = tt
blob_ready None p row (inl begun) there = none_some (finite.get p.blobs row.blob) (nothing_in p row.blob begun) there
blob_ready None p row (inr unseen) there =
    let both = both_true (p.count == 0) (is_none p.standing) unseen in
    record { count = eqb-true p.count 0 both.0; standing = none_of p.standing both.1; touched = tt }

-- the row of a blob may be logged once the own row of its container was written
pub blob_may : (es : List (List Block)) (o : Option News) (p : Part (List Piece)) (a : Act) → IsReady o p → IsAgain es p a → MayLog o p a
blob_may es o p (act.StoredBlob row) ready again = blob_ready o p row ready (subst (λ q. IsSome q) (sym again.1.0) refl)
blob_may es (Some news) p (act.ContainerRow r) ready again = tt
blob_may es None p (act.ContainerRow r) ready again = again
blob_may es o p (act.CreateContainer a) ready again = absurd again
blob_may es o p (act.SetContainerMetadata a) ready again = absurd again
blob_may es o p (act.SetAcl a) ready again = absurd again
blob_may es o p act.DeleteContainer ready again = absurd again
blob_may es o p (act.PutBlob a) ready again = absurd again
blob_may es o p (act.SetMetadata a) ready again = absurd again
blob_may es o p (act.DeleteBlob a) ready again = absurd again
blob_may es o p (act.PutBlock a) ready again = absurd again
blob_may es o p (act.PutBlockList a) ready again = absurd again

module _ (s t : ThreeStreams) (range : KeyRange) (d : KeyedAct) (es : List (List Block)) (again : IsAgain es (held_of (logged s) d.key) d.act) where
  fits_again : Fits (held_of (logged s) d.key) d.act
  fits_again = row_fits (held_of (logged s) d.key) d.act (again_row es (held_of (logged s) d.key) d.act again)

  -- a row that is logged keeps a sweep
  pub row_swept : (w : Sweep) (swept : AreSwept w range s) → GoesOn (laid s.log) (laid t.log) → GoesOn (laid s.blobs) (laid t.blobs) → IsOneMore (logged s) (d, 0) (logged t) → (logged t).doubt ≡ None
      → covers range d.key ≡ true → IsLoggable w.mark swept.news s (d, 0) → (now : AreSwept w range t) × (now.news ≡ with_new_change swept.news (d, 0))
  row_swept w swept log blobs more none covered may = swept_news w range s t swept log blobs (d, 0) more none covered fits_again may

  -- so does a row that is in doubt
  pub row_doubt_swept : (w : Sweep) (swept : AreSwept w range s) → GoesOn (laid s.log) (laid t.log) → GoesOn (laid s.blobs) (laid t.blobs) → KeepsLog s t → (logged t).doubt ≡ Some (d, 0)
      → IsLoggable w.mark swept.news s (d, 0) → AreSwept w range t
  row_doubt_swept w swept log blobs keeps doubt may = swept_doubts w range s t swept log blobs keeps (d, 0) doubt may

  -- rows in memory that have the row of a blob that was logged
  pub blob_loaded : (v u : World (List Piece)) (e : Option KeyedAct) → AreLoaded s (Some v) e range → (logged s).doubt ≡ None → (logged t).doubt ≡ None → IsOneMore (logged s) (d, 0) (logged t)
      → covers range d.key ≡ true → u ≡ changed_in same_pieces v d → AreLoaded t (Some u) e range
  blob_loaded v u e old none now more covered made = record {
    fit = all_fit_more s t (d, 0) old.fit more fits_again;
    doubt = no_doubt range t now;
    tried = still_none s t e old.tried none now;
    rows = λ key.
        ap (λ x. part_at x key) made ∙ have_more_covered range (all_changes s) (d, 0) v old.rows covered key
        ∙ sym (ap (part_of range key) (all_more (logged s) (logged t) (d, 0) more));
  }

pub same_rows : (s t : ThreeStreams) (range : KeyRange) (key : Key) (b : Bool) → covers range key ≡ b → held_of (logged t) key ≡ held_of (logged s) key
    → part_of range key (all_changes s) ≡ part_of range key (all_changes t)
same_rows s t range key true covered held = part_of-covered range key (all_changes s) covered ∙ sym held ∙ sym (part_of-covered range key (all_changes t) covered)
same_rows s t range key false apart held = part_of-apart range key (all_changes s) apart ∙ sym (part_of-apart range key (all_changes t) apart)

-- rows in memory, after the own row of a container was logged: they are as they were
pub own_loaded : (s t : ThreeStreams) (range : KeyRange) (key : Key) (v : World (List Piece)) (e : Option KeyedAct) → AreLoaded s (Some v) e range → (logged s).doubt ≡ None → (logged t).doubt ≡ None
    → IsOneMore (logged s) (record { key = key; act = act.ContainerRow (container_row_of (held_of (logged s) key)) }, 0) (logged t) → AreLoaded t (Some v) e range
own_loaded s t range key v e old none now more = record {
  fit = all_fit_more s t (record { key = key; act = act.ContainerRow (container_row_of (held_of (logged s) key)) }, 0) old.fit more
      (row_fits (held_of (logged s) key) (act.ContainerRow (container_row_of (held_of (logged s) key))) refl);
  doubt = no_doubt range t now;
  tried = still_none s t e old.tried none now;
  rows = λ k. old.rows k ∙ same_rows s t range k (covers range k) refl (container_row_keeps (logged s) (logged t) key k more);
}

-- ---- a row that is logged, or not, while a sweep is under way

-- streams that go on with other blocks for the same content: what says again what a container has changes no container, in bytes
means_again : (s t : ThreeStreams) (d : KeyedAct) → AreKept s → KeepsPlaces (laid s.blobs) (laid t.blobs) → IsAgain (laid t.blobs) (held_of (logged s) d.key) d.act
    → IsOneMore (logged s) (d, 0) (logged t) → (k : Key) → meaning (logged t) k ≡ meaning (logged s) k
means_again s t d kept keeps again more k =
    let before : Logged = record { rows = (logged s).rows; log = (logged s).log; doubt = (logged s).doubt; blobs = laid t.blobs } in
    again_keeps before (logged t) d.key d.act again (record { rows = more.rows; log = more.log }) refl (λ key. part_stays (laid s.blobs) (laid t.blobs) keeps (held_of (logged s) key) (held_of-stored s key kept)) k
    ∙ part_reads (laid s.blobs) (laid t.blobs) keeps (held_of (logged s) k) (held_of-stored s k kept)

-- the row is one of the range, says again what its container has, and may be logged
abbrev pub IsRowFor : (s t : ThreeStreams) (range : KeyRange) (w : Sweep) → AreSwept w range s → KeyedAct → Type 0
IsRowFor s t range w swept d =
    (covers range d.key ≡ true) × (IsAgain (laid t.blobs) (held_of (logged s) d.key) d.act × IsLoggable w.mark swept.news s (d, 0))

module _ (s t : ThreeStreams) (range : KeyRange) (w : Sweep) (swept : AreSwept w range s) where
  -- the own row of a container is such a row
  pub own_row_for : (key : Key) (p : Part (List Piece)) (d : KeyedAct) → covers range key ≡ true → p ≡ held_of (logged s) key
      → d ≡ record { key = key; act = act.ContainerRow (container_row_of p) } → IsRowFor s t range w swept d
  own_row_for key p d covered held is =
      subst (IsRowFor s t range w swept) (sym (is ∙ ap (λ q. record { key = key; act = act.ContainerRow (container_row_of q) }) held))
      (covered, (refl, record { may = own_may (swept.news key) (held_of (logged s) key); from = tt }))

  -- and so is the row of a blob that was rewritten
  pub blob_row_for : (c d : KeyedAct) → covers range c.key ≡ true → IsReady (swept.news c.key) (held_of (logged s) c.key) → IsRewritten s c t d → IsRowFor s t range w swept d
  blob_row_for c d covered ready re = (
    ap (λ k. covers range k) re.key ∙ covered,
    (
      re.again,
      record {
        may = blob_may (laid t.blobs) (swept.news d.key) (held_of (logged s) d.key) d.act
            (subst (λ k. IsReady (swept.news k) (held_of (logged s) k)) (sym re.key) ready) re.again;
        from = act_from w.mark.blobs (length s.blobs.sealed) swept.blobs d.act re.from;
      },
    ),
  )

  module _ (on : GoOn s t) (none : (logged s).doubt ≡ None) where
    pub swept_by : (d : KeyedAct) → AddsRow s d t → IsRowFor s t range w swept d → (now : AreSwept w range t) × (now.news ≡ with_new_change swept.news (d, 0))
    swept_by d h is = row_swept s t range d (laid t.blobs) is.1.0 w swept on.log on.blobs h.more h.sure is.0 is.1.1

    pub still_swept : (r : Result KeyedAct Unlogged) → IsRowLogged r s t → IfLogged r (IsRowFor s t range w swept) → AreSwept w range t
    still_swept (Ok d) h is = (swept_by d h is).0
    still_swept (Err (fault.Doubt d)) h is = row_doubt_swept s t range d (laid t.blobs) is.1.0 w swept on.log on.blobs h.log h.doubt is.1.1
    still_swept (Err fault.Busy) h is = swept_sure w range s t swept on.log on.blobs h.0 h.1
    still_swept (Err fault.NoMemory) h is = swept_sure w range s t swept on.log on.blobs h.0 h.1

    pub still_means : (r : Result KeyedAct Unlogged) → AreKept s → IsRowLogged r s t → IfLogged r (IsRowFor s t range w swept) → (k : Key) → meaning (logged t) k ≡ meaning (logged s) k
    still_means (Ok d) kept h is k = means_again s t d kept h.places is.1.0 h.more k
    still_means (Err (fault.Doubt d)) kept h is k = meaning_same s t h.log kept k
    still_means (Err fault.Busy) kept h is k = meaning_same s t h.0 kept k
    still_means (Err fault.NoMemory) kept h is k = meaning_same s t h.0 kept k

    pub still_doubt : (r : Result KeyedAct Unlogged) → IsRowLogged r s t → IfLogged r (IsRowFor s t range w swept) → LeavesRowDoubt (taken_by r) t
    still_doubt (Ok d) h is = h.sure
    still_doubt (Err (fault.Doubt d)) h is =
        ((d, 0), record { doubt = h.doubt; epoch = refl; again = subst (λ (p : Part (List Piece)). IsAgain (laid t.blobs) p d.act) (sym (held_same s t h.log d.key)) is.1.0 })
    still_doubt (Err fault.Busy) h is = h.1
    still_doubt (Err fault.NoMemory) h is = h.1

    -- the rows in memory are as they were, and so are the streams, but for a row in doubt
    same_loaded : (f : Unlogged) (v : World (List Piece)) (e : Option KeyedAct) → AreLoaded s (Some v) e range → IsRowLogged (Err f) s t → IfLogged (Err f) (IsRowFor s t range w swept)
        → AreLoaded t (Some v) (doubt_after (Err f) e) range
    same_loaded (fault.Doubt d) v e old h is =
        loaded_same s t h.log range (Some v) e (Some d) old
        (subst (λ (o : Option Recorded). IfSome o (λ x. (covers range x.0.key ≡ true) × Fits (held_of (logged t) x.0.key) x.0.act)) (sym h.doubt)
        (is.0, row_fits (held_of (logged t) d.key) d.act (again_row (laid t.blobs) (held_of (logged s) d.key) d.act is.1.0)))
        (sym (ap (option_map (λ (x : Recorded). x.0)) h.doubt))
    same_loaded fault.Busy v e old h is = loaded_same s t h.0 range (Some v) e e old (no_doubt range t h.1) (still_none s t e old.tried none h.1)
    same_loaded fault.NoMemory v e old h is = loaded_same s t h.0 range (Some v) e e old (no_doubt range t h.1) (still_none s t e old.tried none h.1)

    -- after the row of a blob
    pub blob_still_loaded : (r : Result KeyedAct Unlogged) (v u : World (List Piece)) (e : Option KeyedAct) → AreLoaded s (Some v) e range → IsRowLogged r s t
        → IfLogged r (IsRowFor s t range w swept) → IsSwapped r v u → AreLoaded t (Some u) (doubt_after r e) range
    blob_still_loaded (Ok d) v u e old h is made = blob_loaded s t range d (laid t.blobs) is.1.0 v u e old none h.sure h.more is.0 made
    blob_still_loaded (Err f) v u e old h is made = subst (λ x. AreLoaded t (Some x) (doubt_after (Err f) e) range) (sym made) (same_loaded f v e old h is)

    -- after the own row of a container
    pub own_still_loaded : (r : Result KeyedAct Unlogged) (key : Key) (p : Part (List Piece)) (v : World (List Piece)) (e : Option KeyedAct) → AreLoaded s (Some v) e range → IsRowLogged r s t
        → IfLogged r (IsRowFor s t range w swept) → p ≡ held_of (logged s) key → IfLogged r (λ d. d ≡ record { key = key; act = act.ContainerRow (container_row_of p) })
        → AreLoaded t (Some v) (doubt_after r e) range
    own_still_loaded (Ok d) key p v e old h is held own =
        own_loaded s t range key v e old none h.sure
        (subst (λ x. IsOneMore (logged s) (x, 0) (logged t)) (own ∙ ap (λ q. record { key = key; act = act.ContainerRow (container_row_of q) }) held) h.more)
    own_still_loaded (Err f) key p v e old h is held own = same_loaded f v e old h is

-- the faults of a row
pub row_fails : (r : Result KeyedAct Unlogged) (a b : Calls) → FailsLogged r a b → FailsStep (taken_by r) a b
row_fails (Ok d) a b h = h
row_fails (Err fault.Busy) a b h = h
row_fails (Err (fault.Doubt d)) a b h = h
row_fails (Err fault.NoMemory) a b h = h

-- a fault is the same whatever is answered otherwise
pub other_doubt : (T U : Type 0) (f : TakeFault) (t : ThreeStreams) → LeavesRowDoubt {T = T} (Err f) t → LeavesRowDoubt {T = U} (Err f) t
other_doubt T U take.Doubt t h = h
other_doubt T U take.Busy t h = h
other_doubt T U take.NoMemory t h = h

pub other_fails : (T U : Type 0) (f : TakeFault) (a b : Calls) → FailsStep {T = T} (Err f) a b → FailsStep {T = U} (Err f) a b
other_fails T U take.Doubt a b h = h
other_fails T U take.Busy a b h = h
other_fails T U take.NoMemory a b h = h

-- the own row of a container that was logged is new
pub own_new : (news : AllNews) (d : KeyedAct) (key : Key) (p : Part (List Piece)) → d.key ≡ key → IsBegun (with_new_change news (d, 0) key) p
own_new news d key p same =
    subst (λ k. IsBegun (with_new_change news (d, 0) k) p) same
    (subst (λ (b : Bool). IsBegun (cond b (next_news (news d.key) d.act) (news d.key)) p) (sym (is_on-own (d, 0))) (begun_next (news d.key) d.act p))

-- so is the row of a blob that was logged
pub blob_new : (news : AllNews) (d : KeyedAct) (key : Key) (row : StoredBlob) (p : Part (List Piece)) → d.key ≡ key → d.act ≡ act.StoredBlob row
    → IsNewRow (with_new_change news (d, 0) key) p row.blob
blob_new news d key row p same is =
    subst (λ k. IsNewRow (with_new_change news (d, 0) k) p row.blob) same
    (subst (λ (b : Bool). IsNewRow (cond b (next_news (news d.key) d.act) (news d.key)) p row.blob) (sym (is_on-own (d, 0)))
    (subst (λ a. IsNewRow (next_news (news d.key) a) p row.blob) (sym is) (by (news d.key))))
  where
    by : (o : Option News) → IsNewRow (next_news o (act.StoredBlob row)) p row.blob
    by None = λ h. ap (λ b. b || false) ((eq_by_cmp_equiv names_total).refl row.blob)
    by (Some n) = λ h. ap (λ b. b || n row.blob) ((eq_by_cmp_equiv names_total).refl row.blob)
