-- Rows in memory that take the place of the log and of the older rows.
use Rattle.std.proofs.Common.{◌≡◌, ◌∙◌, ◌||◌, ◌==◌, ℕ, Bool, true, false, cond, List, [], ◌∷◌, ◌++◌, All, map, Option, Some, None, Result, Ok, Err, refl, sym, ap, subst, append-nil}
use Rattle.std.specs.Prelude.{OnErr, OnOk}
use Rattle.std.specs.FinMap.{entries}
use Rattle.std.proofs.lemmas.List.{map-append}
use Rattle.std.proofs.lemmas.List.Concat.{flat_map-cons}
use Rattle.std.proofs.lemmas.List.Elements.{All-nil, All-cons, All-head, All-tail, All-append, All-same}
use Rattle.stamp_values.specs.declared.key.Key.{Key}
use Rattle.stamp_types.specs.ActKinds.{is_row}
use Rattle.stamp_types.specs.Changes.{KeyedAct}
use Rattle.stamp_types.specs.Contents.{EachContent, EachWorldContent}
use Rattle.stamp_types.specs.World.{Blob, Part, World, changed, no_part, part_at, part_value, same_pieces}
use Rattle.stamp_types.specs.declared.act.Act.{Act}
use Rattle.stamp_types.specs.declared.act.Act.TheVariants as act
use Rattle.stamp_types.specs.declared.piece.Piece.{Piece}
use Rattle.stamp_types.proofs.EachContents.{EachContent-no_part}
use Rattle.row_trees.specs.RowRecords.{blob_row_of, container_row_of}
use Rattle.stream_manager.specs.Streams.{laid}
use Rattle.partition_stream.specs.Changes.{Recorded}
use Rattle.partition_stream.specs.Contents.{AreStored, content_at}
use Rattle.partition_stream.specs.Meanings.{acts_on, held_of, is_on}
use Rattle.partition_stream.specs.Positions.{all_changes}
use Rattle.partition_stream.specs.Storing.{AreKept}
use Rattle.partition_stream.specs.Streams.{ThreeStreams, logged}
use Rattle.partition_stream.proofs.MeaningLemmas.{held_of-stored}
use Rattle.checkpoint_rows.specs.Writing.{AreWritable, IsWritable, all_records, container_records, own_acts, recorded}
use Rattle.checkpoint_rows.proofs.WritableLemmas.{held_of-writable, none_writable}
use Rattle.stored_rows.specs.Checkpoints.{IsWrittenAnew, MeansTheRange}
use Rattle.stored_rows.specs.Fitting.{AllFit, FitInTurn, Fits}
use Rattle.stored_rows.specs.Loaded.{AreLoaded, AreRowsOf, part_of}
use Rattle.stored_rows.specs.Ranges.{covers}
use Rattle.stored_rows.specs.declared.key_range.KeyRange.{KeyRange}
use Rattle.stored_rows.proofs.FittingLemmas.{acts_on-next}
use Rattle.stored_rows.proofs.LoadLemmas.{part_of-apart, part_of-covered}
use Rattle.stored_rows.proofs.TakeLemmas.{no_doubt, still_none}

-- ---- rows fit in any turn

-- the change is a row
abbrev pub IsRow : Recorded → Type 0
IsRow c = is_row c.0.act ≡ true

or_left : (a b : Bool) → a ≡ true → (a || b) ≡ true
or_left true b h = refl
or_left false b h = cc

pub row_fits : (p : Part (List Piece)) (a : Act) → is_row a ≡ true → Fits p a
row_fits p a row = or_left (is_row a) _ row

row_first : (key : Key) (c : Recorded) (cs : List Recorded) (p : Part (List Piece)) (b : Bool) → is_on key c ≡ b → is_row c.0.act ≡ true
    → ((q : Part (List Piece)) → FitInTurn (acts_on key cs) q) → FitInTurn (acts_on key (c ∷ cs)) p
row_first key c cs p true on row others =
    subst (λ acts. FitInTurn acts p) (sym (acts_on-next key c cs true on)) (row_fits p c.0.act row, others (changed same_pieces c.0.act p))
row_first key c cs p false off row others = subst (λ acts. FitInTurn acts p) (sym (acts_on-next key c cs false off)) (others p)

pub rows_fit : (key : Key) (cs : List Recorded) (p : Part (List Piece)) → All IsRow cs → FitInTurn (acts_on key cs) p
rows_fit key [] p all = tt
rows_fit key (c ∷ cs) p all = row_first key c cs p (is_on key c) refl (All-head IsRow c cs all) (λ q. rows_fit key cs q (All-tail IsRow c cs all))

own_row : (key : Key) (p : Part (List Piece)) (b : Bool) → All IsRow (map (recorded key) (cond b [] (act.ContainerRow (container_row_of p) ∷ [])))
own_row key p true = All-nil IsRow
own_row key p false = All-cons IsRow (recorded key (act.ContainerRow (container_row_of p))) [] refl (All-nil IsRow)

blob_rows : (key : Key) (es : List (List ℕ × Blob (List Piece))) → All IsRow (map (recorded key) (map blob_row_of es))
blob_rows key [] = All-nil IsRow
blob_rows key (e ∷ es) = All-cons IsRow (recorded key (blob_row_of e)) (map (recorded key) (map blob_row_of es)) refl (blob_rows key es)

container_rows : (e : Key × Part (List Piece)) → All IsRow (container_records e)
container_rows e =
    All-same IsRow _ _ (map-append (recorded e.0) (own_acts e.1) (map blob_row_of (entries e.1.blobs)))
    (All-append IsRow (map (recorded e.0) (own_acts e.1)) (map (recorded e.0) (map blob_row_of (entries e.1.blobs)))
    (own_row e.0 e.1 (e.1.count == 0)) (blob_rows e.0 (entries e.1.blobs)))

-- the records of the rows of containers are rows
pub all_rows : (es : List (Key × Part (List Piece))) → All IsRow (all_records es)
all_rows [] = All-nil IsRow
all_rows (e ∷ es) =
    All-same IsRow _ _ (flat_map-cons container_records e es) (All-append IsRow (container_records e) (all_records es) (container_rows e) (all_rows es))

-- ---- what a checkpoint asks for

module _ (s : ThreeStreams) (kept : AreKept s) (range : KeyRange) (w : World (List Piece)) (own : AreRowsOf range s w) where
  either : (P : Part (List Piece) → Type 0) (key : Key) (b : Bool) → P (held_of (logged s) key) → P no_part → P (cond b (held_of (logged s) key) no_part)
  either P key true held none = held
  either P key false held none = none

  -- what holds of a container of the streams, and of one that never was, holds of each container of the rows
  each_row : (P : Part (List Piece) → Type 0) (key : Key) → P (held_of (logged s) key) → P no_part → P (part_at w key)
  each_row P key held none = subst P (sym (own key)) (either P key (covers range key) held none)

  pub rows_writable : AreWritable w
  rows_writable = λ key. each_row (IsWritable key) key (held_of-writable s key kept) (none_writable key)

  pub rows_stored : EachWorldContent (AreStored (laid s.blobs)) w
  rows_stored = λ key. each_row (EachContent (AreStored (laid s.blobs))) key (held_of-stored s key kept) (EachContent-no_part (AreStored (laid s.blobs)))

-- ---- what a checkpoint leaves

module _ (s t : ThreeStreams) (range : KeyRange) (w : World (List Piece)) (own : AreRowsOf range s w) (means : (key : Key) → held_of (logged t) key ≡ part_at w key) where
  held_there : (key : Key) → covers range key ≡ true → held_of (logged t) key ≡ held_of (logged s) key
  held_there key covered = means key ∙ own key ∙ part_of-covered range key (all_changes s) covered

  held_apart : (key : Key) → covers range key ≡ false → held_of (logged t) key ≡ no_part
  held_apart key apart = means key ∙ own key ∙ part_of-apart range key (all_changes s) apart

  -- the rows are still those of the streams
  same_rows : (key : Key) (b : Bool) → covers range key ≡ b → part_at w key ≡ part_of range key (all_changes t)
  same_rows key true covered = sym (means key) ∙ sym (part_of-covered range key (all_changes t) covered)
  same_rows key false apart = own key ∙ part_of-apart range key (all_changes s) apart ∙ sym (part_of-apart range key (all_changes t) apart)

  pub means_range : (b : Bool) → t.blobs ≡ s.blobs → MeansTheRange (record { streams = s; range = range; is_loaded = b }) (record { streams = t; range = range; is_loaded = b })
  means_range b blobs = record {
    bytes = λ key covered. λ i. part_value (content_at (laid (blobs i))) (held_there key covered i);
    pieces = held_there;
    others = held_apart;
    range = refl;
    loaded = refl;
  }

  module _ (rows : (logged t).rows ≡ all_records (entries w)) (log : (logged t).log ≡ []) where
    all_fit : AllFit t
    unfolding AllFit
    all_fit = λ key.
        subst (λ cs. FitInTurn (acts_on key cs) no_part)
        (sym (ap (λ l. l ++ (logged t).log) rows ∙ ap (λ l. all_records (entries w) ++ l) log ∙ append-nil (all_records (entries w))))
        (rows_fit key (all_records (entries w)) no_part (all_rows (entries w)))

    pub written_anew : (b : Bool) → IsWrittenAnew (record { streams = s; range = range; is_loaded = b }) (record { streams = t; range = range; is_loaded = b })
    written_anew b = record { world = w; own = own; rows = rows; log = log }

    -- what is true of all stored rows is true of them after a checkpoint
    checkpoint_loaded : (d : Option KeyedAct) → AreLoaded s (Some w) d range → (logged s).doubt ≡ None → (logged t).doubt ≡ None → AreLoaded t (Some w) d range
    checkpoint_loaded d old none now = record {
      fit = all_fit;
      doubt = no_doubt range t now;
      tried = still_none s t d old.tried none now;
      rows = λ key. same_rows key (covers range key) refl;
    }

-- after a fault the streams are as they were
pub kept_loaded : {T E : Type 0} (r : Result T E) (s t : ThreeStreams) (range : KeyRange) (o : Option (World (List Piece))) (w : World (List Piece)) (d : Option KeyedAct) → o ≡ Some w
    → AreLoaded s o d range → (logged s).doubt ≡ None → (logged t).doubt ≡ None → OnOk r ((key : Key) → held_of (logged t) key ≡ part_at w key)
    → OnOk r ((logged t).rows ≡ all_records (entries w)) → OnOk r ((logged t).log ≡ []) → OnErr r (t ≡ s) → AreLoaded t o d range
kept_loaded (Ok x) s t range o w d is old none now means rows log same =
    let own : AreLoaded s (Some w) d range = subst (λ v. AreLoaded s v d range) is old in
    subst (λ v. AreLoaded t v d range) (sym is) (checkpoint_loaded s t range w own.rows means rows log d own none now)
kept_loaded (Err f) s t range o w d is old none now means rows log same = subst (λ u. AreLoaded u o d range) (sym same) old
