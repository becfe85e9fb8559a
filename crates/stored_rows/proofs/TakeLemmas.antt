-- What taking a change does to stored rows.
use Rattle.std.proofs.Common.{◌≡◌, ◌∙◌, Bool, true, false, List, [], ◌∷◌, ◌++◌, Option, Some, None, IfSome, IsTrue, is_some, Result, Ok, Err, ap, sym, refl, subst, inl, inr, append-nil}
use Rattle.stamp_values.specs.Trees.{is_below, is_from}
use Rattle.stamp_values.specs.declared.key.Key.{Key}
use Rattle.stamp_types.specs.Changes.{KeyedAct}
use Rattle.stamp_types.specs.Pieces.{held, pieces_len}
use Rattle.stamp_types.specs.World.{World, changed, no_part, part_at, part_value, same_pieces}
use Rattle.stamp_types.specs.declared.piece.Piece.{Piece}
use Rattle.row_trees.specs.Fits.{fits}
use Rattle.std.specs.FinMap as finite
use Rattle.std.specs.Option.{option_and_then, option_map, option_to_list}
use Rattle.extent_node.specs.Faults.{held as doubt_held}
use Rattle.extent_seal.specs.Extents.{Open}
use Rattle.stream_manager.specs.Places.{KeepsPlaces, block_at, blocks_of, is_kept}
use Rattle.stream_manager.specs.Streams.{Streamed, laid}
use Rattle.partition_stream.specs.Changes.{Recorded, change_in, changes_of}
use Rattle.partition_stream.specs.Contents.{content_at}
use Rattle.partition_stream.specs.Meanings.{acts_on, after_acts, held_of, meaning, IsOneMore}
use Rattle.partition_stream.specs.Logging.{IsSameStream}
use Rattle.partition_stream.specs.Outcomes.{Logs, IsLogSealed, with_kept}
use Rattle.stream_manager.specs.declared.faults.StoredFault.{StoredFault}
use Rattle.partition_stream.specs.Positions.{all_changes}
use Rattle.partition_stream.specs.Storing.{AreKept}
use Rattle.partition_stream.specs.Streams.{AreSealed, HaveSameBlocks, ThreeStreams, logged}
use Rattle.partition_stream.proofs.ContentLemmas.{part_reads}
use Rattle.partition_stream.proofs.MeaningLemmas.{held_of-shared, held_of-stored, meaning-own, meaning-other, meaning-shared}
use Rattle.partition_stream.specs.declared.faults.TakeFault.TheVariants as take
use Rattle.stored_rows.specs.Fitting.{Fits, FitsDoubt}
use Rattle.stored_rows.specs.Loaded.{AreLoaded, AreRowsOf, IsFollowed, doubted, part_of}
use Rattle.stored_rows.specs.Logging.{AddsChange, Doubts, IsPutAndLogged, KeepsLog}
use Rattle.stored_rows.specs.Ranges.{covers}
use Rattle.stored_rows.specs.States.{IsChanged, IsHalf, IsInDoubt, IsKeptAs, IsTaken, MeansTheSame, Stored}
use Rattle.stored_rows.specs.declared.key_range.KeyRange.{KeyRange}
use Rattle.stored_rows.specs.declared.logging.Unlogged.TheVariants as fault
use Rattle.stored_rows.proofs.CutLemmas.{half_below, half_from}
use Rattle.stored_rows.proofs.FittingLemmas.{all_fit_more, all_fit_none, all_fit_same, all_more}
use Rattle.stored_rows.proofs.LoadLemmas.{fits_rows, have_more_covered, none_have}

-- ---- streams that keep the same changes

module _ (s t : ThreeStreams) (h : KeepsLog s t) where
  pub all_same : all_changes t ≡ all_changes s
  all_same = ap (λ l. l ++ (logged t).log) h.rows ∙ ap (λ l. (logged s).rows ++ l) h.log

  pub held_same : (key : Key) → held_of (logged t) key ≡ held_of (logged s) key
  held_same key = ap (λ cs. after_acts same_pieces (acts_on key cs) no_part) all_same

  pub meaning_same : AreKept s → (key : Key) → meaning (logged t) key ≡ meaning (logged s) key
  meaning_same kept key =
      ap (part_value (content_at (laid t.blobs))) (held_same key)
      ∙ part_reads (laid s.blobs) (laid t.blobs) h.places (held_of (logged s) key) (held_of-stored s key kept)

  rows_same : (range : KeyRange) (rows : Option (World (List Piece))) → IfSome rows (AreRowsOf range s) → IfSome rows (AreRowsOf range t)
  rows_same range None old = tt
  rows_same range (Some w) old = λ key. old key ∙ sym (ap (part_of range key) all_same)

  pub loaded_same : (range : KeyRange) (rows : Option (World (List Piece))) (d e : Option KeyedAct) → AreLoaded s rows d range → FitsDoubt range t → e ≡ doubted t → AreLoaded t rows e range
  loaded_same range rows d e old doubt tried = record { fit = all_fit_same s t old.fit all_same; doubt = doubt; tried = tried; rows = rows_same range rows old.rows }

  pub means_same : (range : KeyRange) (b : Bool) → AreKept s → MeansTheSame (record { streams = s; range = range; is_loaded = b }) (record { streams = t; range = range; is_loaded = b })
  means_same range b kept = record { rows = h.rows; log = h.log; bytes = meaning_same kept; pieces = held_same; range = refl; loaded = refl }

pub no_doubt : (range : KeyRange) (t : ThreeStreams) → (logged t).doubt ≡ None → FitsDoubt range t
no_doubt range t none = subst (λ (o : Option Recorded). IfSome o (λ c. (covers range c.0.key ≡ true) × Fits (held_of (logged t) c.0.key) c.0.act)) (sym none) tt

-- no change is kept beside the streams if no change is in doubt
pub undoubted : (t : ThreeStreams) → (logged t).doubt ≡ None → doubted t ≡ None
undoubted t none = ap (option_map (λ (c : Recorded). c.0)) none

pub still_none : (s t : ThreeStreams) (d : Option KeyedAct) → d ≡ doubted s → (logged s).doubt ≡ None → (logged t).doubt ≡ None → d ≡ doubted t
still_none s t d tried none now = tried ∙ undoubted s none ∙ sym (undoubted t now)

-- a change that fits its container fits it as it is kept
pub kept_fits : (s : ThreeStreams) (c d : KeyedAct) → IsKeptAs (laid s.blobs) c d → (u : ThreeStreams) → Fits (held_of (logged u) c.key) c.act → Fits (held_of (logged u) d.key) d.act
kept_fits s c d same u own =
    same.fits (part_value pieces_len (held_of (logged u) d.key)) ∙ ap (λ k. fits (part_value pieces_len (held_of (logged u) k)) c.act) same.key ∙ own

-- ---- a change that was not taken

module _ (s t : ThreeStreams) (c : Recorded) (range : KeyRange) (rows : Option (World (List Piece))) (d : Option KeyedAct) (old : AreLoaded s rows d range) where
  doubt_fits : (kept : KeyedAct) → covers range c.0.key ≡ true → Fits (held_of (logged s) c.0.key) c.0.act → Doubts s c kept t → FitsDoubt range t
  doubt_fits kept covered own h =
      let there = ap (λ k. covers range k) h.same.key ∙ covered in
      let fits_there : Fits (held_of (logged t) c.0.key) c.0.act = subst (λ p. Fits p c.0.act) (sym (held_same s t h.log c.0.key)) own in
      subst (λ (o : Option Recorded). IfSome o (λ x. (covers range x.0.key ≡ true) × Fits (held_of (logged t) x.0.key) x.0.act)) (sym h.doubt)
      (there, kept_fits t c.0 kept h.same t fits_there)

  -- a change that is in doubt is kept beside the streams
  pub doubt_loaded : (kept : KeyedAct) → covers range c.0.key ≡ true → Fits (held_of (logged s) c.0.key) c.0.act → IsPutAndLogged (Err (fault.Doubt kept)) s c t
      → AreLoaded t rows (Some kept) range
  doubt_loaded kept covered own h =
      loaded_same s t h.log range rows d (Some kept) old (doubt_fits kept covered own h) (sym (ap (option_map (λ (x : Recorded). x.0)) h.doubt))

  -- streams that have no doubt as before
  pub sure_loaded : (logged s).doubt ≡ None → KeepsLog s t × ((logged t).doubt ≡ None) → AreLoaded t rows d range
  sure_loaded none h = loaded_same s t h.0 range rows d d old (no_doubt range t h.1) (still_none s t d old.tried none h.1)

pub doubt_taken : (s t : ThreeStreams) (c : Recorded) (kept : KeyedAct) (range : KeyRange) (b : Bool) → AreKept s → IsPutAndLogged (Err (fault.Doubt kept)) s c t
    → IsTaken (Err take.Doubt) (record { streams = s; range = range; is_loaded = b }) c (record { streams = t; range = range; is_loaded = b })
doubt_taken s t c kept range b whole h = (means_same s t h.log range b whole, record { kept = kept; doubt = h.doubt; same = h.same })

pub sure_same : (s t : ThreeStreams) (range : KeyRange) (b : Bool) → AreKept s → KeepsLog s t × ((logged t).doubt ≡ None)
    → MeansTheSame (record { streams = s; range = range; is_loaded = b }) (record { streams = t; range = range; is_loaded = b }) × ((logged t).doubt ≡ None)
sure_same s t range b whole h = (means_same s t h.0 range b whole, h.1)

-- ---- a change that was taken

module _ (s t : ThreeStreams) (c : Recorded) (d : KeyedAct) (range : KeyRange) (h : AddsChange s c d t) (covered : covers range c.0.key ≡ true) (own : Fits (held_of (logged s) c.0.key) c.0.act) where
  pub covered_kept : covers range d.key ≡ true
  covered_kept = ap (λ k. covers range k) h.same.key ∙ covered

  pub own_kept : Fits (held_of (logged s) d.key) d.act
  own_kept = kept_fits t c.0 d h.same s own

  -- it fits the rows that are loaded
  pub follow_fits : (rows : Option (World (List Piece))) → IfSome rows (AreRowsOf range s) → IfSome rows (λ w. IsTrue (fits (part_value pieces_len (part_at w d.key)) d.act))
  follow_fits None old = tt
  follow_fits (Some w) old = fits_rows range (all_changes s) (d, c.1) w old covered_kept own_kept

  followed : (v w : Option (World (List Piece))) → IfSome v (AreRowsOf range s) → IsFollowed v d w → IfSome w (AreRowsOf range t)
  followed v None old f = tt
  followed None (Some w) old f = absurd f
  followed (Some v) (Some w) old f = λ key.
      ap (λ u. part_at u key) f ∙ have_more_covered range (all_changes s) (d, c.1) v old covered_kept key
      ∙ sym (ap (part_of range key) (all_more (logged s) (logged t) (d, c.1) h.more))

  pub taken_loaded : (v w : Option (World (List Piece))) (e : Option KeyedAct) → (logged s).doubt ≡ None → AreLoaded s v e range → IsFollowed v d w → AreLoaded t w e range
  taken_loaded v w e none old f = record {
    fit = all_fit_more s t (d, c.1) old.fit h.more own_kept;
    doubt = no_doubt range t h.sure;
    tried = still_none s t e old.tried none h.sure;
    rows = followed v w old.rows f;
  }

-- rows that were not loaded are not loaded by a change
pub not_loaded : (v w : Option (World (List Piece))) (d : KeyedAct) → IsFollowed v d w → is_some w ≡ true → is_some v ≡ true
not_loaded v None d f e = cc
not_loaded None (Some w) d f e = absurd f
not_loaded (Some v) (Some w) d f e = refl

pub taken_changed : (s t : ThreeStreams) (c : Recorded) (d : KeyedAct) (range : KeyRange) (a b : Bool) → (b ≡ true → a ≡ true) → AreKept s → AddsChange s c d t
    → IsChanged (record { streams = s; range = range; is_loaded = a }) c (record { streams = t; range = range; is_loaded = b })
taken_changed s t c d range a b loaded kept h = record {
  own = subst (λ k. meaning (logged t) k ≡ changed held c.0.act (meaning (logged s) k)) h.same.key
      (meaning-own (logged s) (logged t) (d, c.1) h.more h.places (held_of-stored s d.key kept) ∙ h.same.bytes (meaning (logged s) d.key));
  others = λ key other. meaning-other (logged s) (logged t) (d, c.1) key h.more (λ same. other (same ∙ h.same.key)) h.places (held_of-stored s key kept);
  kept = d;
  more = h.more;
  same = h.same;
  sure = h.sure;
  range = refl;
  loaded = loaded;
}

-- ---- a doubt that is settled

-- the change that was in doubt, and what is so of it
pub doubt_own : (s : ThreeStreams) (range : KeyRange) (c : Recorded) → FitsDoubt range s → (logged s).doubt ≡ Some c → (covers range c.0.key ≡ true) × Fits (held_of (logged s) c.0.key) c.0.act
doubt_own s range c fits is = subst (λ (o : Option Recorded). IfSome o (λ d. (covers range d.0.key ≡ true) × Fits (held_of (logged s) d.0.key) d.0.act)) is fits

-- a stream with the same blocks and the same doubt
pub same_log_keeps : (s t : ThreeStreams) → IsSameStream s.log t.log → t.blobs ≡ s.blobs → t.rows ≡ s.rows → KeepsLog s t
same_log_keeps s t same blobs rows = record {
  rows = ap (λ r. changes_of (blocks_of (laid r))) rows;
  log = ap (λ es. changes_of (blocks_of es)) same.blocks;
  places = λ p b here. subst (λ (u : Streamed). block_at (laid u) p ≡ Some b) (sym blobs) here;
}

pub same_log_doubt : (s t : ThreeStreams) → IsSameStream s.log t.log → (logged t).doubt ≡ (logged s).doubt
same_log_doubt s t same = ap (λ (last : Open). option_and_then change_in last.tried) same.last

pub log_keeps : (s t : ThreeStreams) → (logged t).log ≡ (logged s).log → t.blobs ≡ s.blobs → t.rows ≡ s.rows → KeepsLog s t
log_keeps s t log blobs rows = record {
  rows = ap (λ r. changes_of (blocks_of (laid r))) rows;
  log = log;
  places = λ p b here. subst (λ (u : Streamed). block_at (laid u) p ≡ Some b) (sym blobs) here;
}

same_doubt_fits : (s t : ThreeStreams) (range : KeyRange) → KeepsLog s t → (logged t).doubt ≡ (logged s).doubt → FitsDoubt range s → FitsDoubt range t
same_doubt_fits s t range h same fits = by (logged s).doubt refl fits
  where
    by : (o : Option Recorded) → (logged s).doubt ≡ o → IfSome o (λ c. (covers range c.0.key ≡ true) × Fits (held_of (logged s) c.0.key) c.0.act) → FitsDoubt range t
    by None is own = no_doubt range t (same ∙ is)
    by (Some c) is own =
        subst (λ (o : Option Recorded). IfSome o (λ d. (covers range d.0.key ≡ true) × Fits (held_of (logged t) d.0.key) d.0.act)) (sym (same ∙ is))
        (own.0, subst (λ p. Fits p c.0.act) (sym (held_same s t h c.0.key)) own.1)

-- the rows that are in memory after a settle
module _ (s t : ThreeStreams) (range : KeyRange) (o : Option (World (List Piece))) (d : Option KeyedAct) (old : AreLoaded s o d range) (blobs : t.blobs ≡ s.blobs) (rows : t.rows ≡ s.rows) where
  -- the doubt is as it was
  pub clean_loaded : IsSameStream s.log t.log → AreLoaded t o d range
  clean_loaded same =
      let h = same_log_keeps s t same blobs rows in
      loaded_same s t h range o d d old (same_doubt_fits s t range h (same_log_doubt s t same) old.doubt)
      (old.tried ∙ sym (ap (option_map (λ (c : Recorded). c.0)) (same_log_doubt s t same)))

  -- the doubt was dropped
  pub dropped_loaded : (logged t).log ≡ (logged s).log → (logged t).doubt ≡ None → AreLoaded t o None range
  dropped_loaded log none = loaded_same s t (log_keeps s t log blobs rows) range o d None old (no_doubt range t none) (sym (undoubted t none))

  pub one_more : (c : Recorded) → (logged t).log ≡ (logged s).log ++ c ∷ [] → IsOneMore (logged s) c (logged t)
  one_more c log = record { rows = ap (λ r. changes_of (blocks_of (laid r))) rows; log = log }

  -- the doubt is the change that is kept beside the streams
  beside : (c : Recorded) → (logged s).doubt ≡ Some c → d ≡ Some c.0
  beside c is = old.tried ∙ ap (option_map (λ (x : Recorded). x.0)) is

  -- it fits the rows
  pub doubt_rows : (c : Recorded) → (logged s).doubt ≡ Some c → IfSome d (λ k. IfSome o (λ w. IsTrue (fits (part_value pieces_len (part_at w k.key)) k.act)))
  doubt_rows c is = subst (λ q. IfSome q (λ k. IfSome o (λ w. IsTrue (fits (part_value pieces_len (part_at w k.key)) k.act)))) (sym (beside c is)) (by o old.rows)
    where
      by : (v : Option (World (List Piece))) → IfSome v (AreRowsOf range s) → IfSome v (λ w. IsTrue (fits (part_value pieces_len (part_at w c.0.key)) c.0.act))
      by None have = tt
      by (Some w) have = fits_rows range (all_changes s) c w have (doubt_own s range c old.doubt is).0 (doubt_own s range c old.doubt is).1

  kept_rows : (c : Recorded) → (logged s).doubt ≡ Some c → (logged t).log ≡ (logged s).log ++ c ∷ [] → (v w : Option (World (List Piece)))
      → IfSome v (AreRowsOf range s) → IsFollowed v c.0 w → IfSome w (AreRowsOf range t)
  kept_rows c is log v None have f = tt
  kept_rows c is log None (Some w) have f = absurd f
  kept_rows c is log (Some v) (Some w) have f = λ key.
      ap (λ u. part_at u key) f ∙ have_more_covered range (all_changes s) c v have (doubt_own s range c old.doubt is).0 key
      ∙ sym (ap (part_of range key) (all_more (logged s) (logged t) c (one_more c log)))

  followed_doubt : (c : Recorded) (w : Option (World (List Piece))) → (logged s).doubt ≡ Some c → IfSome d (λ k. IsFollowed o k w) → IsFollowed o c.0 w
  followed_doubt c w is f = subst (λ q. IfSome q (λ k. IsFollowed o k w)) (beside c is) f

  -- the doubt was kept, and the rows make it
  pub kept_loaded : (c : Recorded) (w : Option (World (List Piece))) → (logged s).doubt ≡ Some c → (logged t).log ≡ (logged s).log ++ c ∷ [] → (logged t).doubt ≡ None
      → IfSome d (λ k. IsFollowed o k w) → AreLoaded t w None range
  kept_loaded c w is log none f = record {
    fit = all_fit_more s t c old.fit (one_more c log) (doubt_own s range c old.doubt is).1;
    doubt = no_doubt range t none;
    tried = sym (undoubted t none);
    rows = kept_rows c is log o w old.rows (followed_doubt c w is f);
  }

  pub kept_changed : (c : Recorded) (w : Option (World (List Piece))) → AreKept s → (logged s).doubt ≡ Some c → (logged t).log ≡ (logged s).log ++ c ∷ [] → (logged t).doubt ≡ None
      → IfSome d (λ k. IsFollowed o k w) → (x : Recorded) → IsInDoubt x (record { streams = s; range = range; is_loaded = is_some o })
      → IsChanged (record { streams = s; range = range; is_loaded = is_some o }) x (record { streams = t; range = range; is_loaded = is_some w })
  kept_changed c w whole is log none f x doubt =
      let both : Some (doubt.kept, x.1) ≡ Some c = sym doubt.doubt ∙ is in
      let one : (doubt.kept, x.1) ≡ c = cc in
      taken_changed s t x doubt.kept range (is_some o) (is_some w) (not_loaded o w c.0 (followed_doubt c w is f)) whole (record {
        more = one_more (doubt.kept, x.1) (log ∙ ap (λ k. (logged s).log ++ k ∷ []) (sym one));
        places = λ p b here. subst (λ (u : Streamed). block_at (laid u) p ≡ Some b) (sym blobs) here;
        same = subst (λ (u : Streamed). IsKeptAs (laid u) x.0 doubt.kept) (sym blobs) doubt.same;
        sure = none;
      })

-- ---- streams that are sealed or shared

nothing_held : (kept : Bool) (o : Option Recorded) → o ≡ None → doubt_held kept o ≡ []
nothing_held true o none = ap option_to_list none
nothing_held false o none = refl

pub none_added : (s t : ThreeStreams) (doubt : Option Recorded) → (logged s).doubt ≡ None → Logs s [] doubt t → (logged t).log ≡ (logged s).log
none_added s t doubt none h =
    h.changes ∙ ap (λ l. (logged s).log ++ with_kept l []) (nothing_held (is_kept (laid s.log) s.log.last (laid t.log)) (logged s).doubt none)
    ∙ append-nil (logged s).log

-- a seal without a doubt
pub seal_keeps : (r : Result (Unit {0}) StoredFault) (s t : ThreeStreams) → IsLogSealed r s t → (logged s).doubt ≡ None → (logged t).rows ≡ (logged s).rows
    → KeepsPlaces (laid s.blobs) (laid t.blobs) → KeepsLog s t × ((logged t).doubt ≡ None)
seal_keeps (Ok u) s t h none rows places = (record { rows = rows; log = none_added s t None none h; places = places }, h.left)
seal_keeps (Err e) s t h none rows places = elim h [
  | inl more ↦ (record { rows = rows; log = none_added s t None none more; places = places }, more.left)
  | inr same ↦ (record { rows = rows; log = ap (λ es. changes_of (blocks_of es)) same.blocks; places = places }, same_log_doubt s t same ∙ none)
]

-- streams with the same blocks at the same places
pub shared_keeps : (s t : ThreeStreams) → HaveSameBlocks s t → KeepsLog s t
shared_keeps s t same = record {
  rows = ap (λ es. changes_of (blocks_of es)) same.rows;
  log = ap (λ es. changes_of (blocks_of es)) same.log;
  places = λ p b here. subst (λ es. block_at es p ≡ Some b) (sym same.blobs) here;
}

-- the half below the key, and the one from the key on
module _ (s t : ThreeStreams) (o : Option (World (List Piece))) (d : Option KeyedAct) (range : KeyRange) (middle : Key) (old : AreLoaded s o d range) (covered : covers range middle ≡ true)
    (same : HaveSameBlocks s t) (none : (logged t).doubt ≡ None) where
  pub lower_loaded : d ≡ doubted t → AreLoaded t (option_map (λ w. finite.retain_keys w (is_below middle)) o) d (record range { to = Some middle })
  lower_loaded tried =
      let all = all_same s t (shared_keeps s t same) in
      record {
        fit = all_fit_same s t old.fit all;
        doubt = no_doubt (record range { to = Some middle }) t none;
        tried = tried;
        rows = half_below s t range middle all covered o old.rows;
      }

  pub upper_loaded : AreLoaded t (option_map (λ w. finite.retain_keys w (is_from middle)) o) None (record { from = middle; to = range.to })
  upper_loaded =
      let all = all_same s t (shared_keeps s t same) in
      record {
        fit = all_fit_same s t old.fit all;
        doubt = no_doubt (record { from = middle; to = range.to }) t none;
        tried = sym (undoubted t none);
        rows = half_from s t range middle all covered o old.rows;
      }

pub half_means : (s t : ThreeStreams) (a b : Bool) (range own : KeyRange) → HaveSameBlocks s t → (logged t).doubt ≡ None → b ≡ a
    → IsHalf own (record { streams = s; range = range; is_loaded = a }) (record { streams = t; range = own; is_loaded = b })
half_means s t a b range own same none loaded = record {
  bytes = λ key. meaning-shared s t key same;
  pieces = λ key. held_of-shared s t key same;
  range = refl;
  sure = none;
  loaded = loaded;
}

pub same_streams : (s : ThreeStreams) → HaveSameBlocks s s
same_streams s = record { log = refl; blobs = refl; rows = refl }

pub sealed_sure : (s : ThreeStreams) → AreSealed s → (logged s).doubt ≡ None
sealed_sure s sealed = ap (option_and_then change_in) sealed.log.tried

pub means_itself : (v : Stored) → MeansTheSame v v
means_itself v = record { rows = refl; log = refl; bytes = λ key. refl; pieces = λ key. refl; range = refl; loaded = refl }

-- ---- streams without a change

pub new_loaded : (s : ThreeStreams) (w : World (List Piece)) (range : KeyRange) → (logged s).rows ≡ [] → (logged s).log ≡ [] → (logged s).doubt ≡ None → w ≡ finite.empty
    → AreLoaded s (Some w) None range
new_loaded s w range rows log none empty = record {
  fit = all_fit_none s nothing;
  doubt = no_doubt range s none;
  tried = sym (undoubted s none);
  rows = none_have range (all_changes s) w empty nothing;
}
  where
    nothing : all_changes s ≡ []
    nothing = ap (λ l. l ++ (logged s).log) rows ∙ log

-- ---- halves of streams that were sealed before

pub same_half : (own : KeyRange) (s m t : Stored) → MeansTheSame s m → IsHalf own m t → IsHalf own s t
same_half own s m t same half = record {
  bytes = λ key. half.bytes key ∙ same.bytes key;
  pieces = λ key. half.pieces key ∙ same.pieces key;
  range = half.range;
  sure = half.sure;
  loaded = half.loaded ∙ same.loaded;
}

pub same_twice : (s m t : Stored) → MeansTheSame s m → MeansTheSame m t → MeansTheSame s t
same_twice s m t first then = record {
  rows = then.rows ∙ first.rows;
  log = then.log ∙ first.log;
  bytes = λ key. then.bytes key ∙ first.bytes key;
  pieces = λ key. then.pieces key ∙ first.pieces key;
  range = then.range ∙ first.range;
  loaded = then.loaded ∙ first.loaded;
}
