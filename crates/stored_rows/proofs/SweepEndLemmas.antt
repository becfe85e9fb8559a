-- The beginning and the end of a sweep.
use Rattle.std.proofs.Common.{◌≡◌, ◌≤◌, ◌∙◌, ◌||◌, ◌++◌, ℕ, Bool, true, false, Option, Some, None, IfSome, List, [], drop, ap, sym, refl, subst, arith}
use Rattle.std.specs.FinMap as finite
use Rattle.std.specs.Option.{option_and_then, option_map_or}
use Rattle.std.specs.Prelude.{is_some}
use Rattle.extent_seal.specs.Extents.{Open}
use Rattle.stamp_values.specs.Order.{key_cmp, name_cmp}
use Rattle.stamp_values.specs.declared.key.Key.{Key}
use Rattle.stamp_types.specs.Changes.{KeyedAct}
use Rattle.stamp_types.specs.World.{Part, World, same_pieces}
use Rattle.stamp_types.specs.declared.piece.Piece.{Piece}
use Rattle.stream_manager.specs.Places.{blocks_of}
use Rattle.stream_manager.specs.Streams.{laid}
use Rattle.stream_manager.proofs.GivenUpLemmas.{blocks_emptied}
use Rattle.partition_stream.specs.Changes.{Recorded, change_in}
use Rattle.partition_stream.specs.Meanings.{held_of, meaning}
use Rattle.partition_stream.specs.Positions.{all_changes}
use Rattle.partition_stream.specs.Streams.{AreSealed, ThreeStreams, logged}
use Rattle.partition_stream.specs.Sweeping.{GivesUpBefore, handles_before, made_from, mark_of}
use Rattle.partition_stream.specs.declared.mark.Mark.{Mark}
use Rattle.partition_stream.proofs.SweepingLemmas.{held_given, sealed_is_sure}
use Rattle.row_trees.specs.Halfway.{IsAllNew, News}
use Rattle.stored_rows.specs.Loaded.{AreLoaded, AreRowsOf, part_of}
use Rattle.stored_rows.specs.Ranges.{covers}
use Rattle.stored_rows.specs.Swept.{AreSwept, IsLoggable, IsOver, IsNewRow, IsSwept, Names, is_end, is_past_blob, is_touched_blob, knows_blob, knows_row}
use Rattle.stored_rows.specs.declared.cursor.Cursor.{Cursor}
use Rattle.stored_rows.specs.declared.cursor.Cursor.TheVariants as cursor
use Rattle.stored_rows.specs.declared.key_range.KeyRange.{KeyRange}
use Rattle.stored_rows.specs.declared.sweep.Sweep.{Sweep}
use Rattle.stored_rows.specs.declared.sweep.Swept.{Swept}
use Rattle.stored_rows.specs.declared.sweep.Written.{Written}
use Rattle.row_trees.proofs.HalfwayLemmas.{all_new}
use Rattle.stored_rows.proofs.SweptLemmas.{all_fit_given, swept_begins, swept_ends}
use Rattle.stored_rows.proofs.LoadLemmas.{part_of-apart, part_of-covered}
use Rattle.stored_rows.proofs.TakeLemmas.{no_doubt, still_none}

-- ---- the beginning

-- no container was touched
untouched : (names : Names) (key : Key) → names ≡ finite.empty → finite.get names key ≡ None
untouched names key none = ap (λ (n : Names). finite.get n key) none ∙ finite.get-empty key_cmp key

false_true : {X : Type 0} (b : Bool) → b ≡ false → b ≡ true → X
false_true true off on = absurd cc
false_true false off on = absurd cc

no_row_known : (c : Cursor) (names : Names) (key : Key) → c ≡ cursor.Start → names ≡ finite.empty → knows_row c names key ≡ false
no_row_known c names key start none = ap (λ d. knows_row d names key) start ∙ ap (λ (o : Option (finite.FinMap name_cmp Written)). is_some o) (untouched names key none)

no_blob_known : (c : Cursor) (names : Names) (key : Key) (name : List ℕ) → c ≡ cursor.Start → names ≡ finite.empty → knows_blob c names key name ≡ false
no_blob_known c names key name start none =
    ap (λ d. knows_blob d names key name) start
    ∙ ap (λ (o : Option (finite.FinMap name_cmp Written)). option_map_or (λ own. is_some (finite.get own name)) o false) (untouched names key none)

-- a sweep that has just begun
pub begun_swept : (w : Sweep) (range : KeyRange) (s : ThreeStreams) → AreSealed s → w.mark ≡ mark_of s → w.room.room ≡ handles_before (mark_of s) s → w.cursor ≡ cursor.Start
    → w.touched ≡ finite.empty → AreSwept w range s
begun_swept w range s sealed mark room start none = record {
  log = let a = ap (λ (m : Mark). m.log) mark in omega (arith, a);
  blobs = let a = ap (λ (m : Mark). m.blobs) mark in omega (arith, a);
  room = let a = ap (λ (m : Mark). handles_before m s) mark in omega (arith, a, room);
  news = λ key. None;
  swept = subst (λ (m : Mark). IsSwept m (λ key. None) (covers range) s) (sym mark) (swept_begins (covers range) s sealed.log.blocks);
  known = record {
    rows = λ key here knows. false_true (knows_row w.cursor w.touched key) (no_row_known w.cursor w.touched key start none) knows;
    blobs = λ key name here knows. false_true (knows_blob w.cursor w.touched key name) (no_blob_known w.cursor w.touched key name start none) knows;
  };
  doubt = subst (λ (o : Option Recorded). IfSome o (IsLoggable w.mark (λ key. None) s)) (sym (sealed_is_sure s sealed)) tt;
}

-- a sweep that is made of a mark and of room for what comes before it
pub begun_with : (w v : Sweep) (range : KeyRange) (s : ThreeStreams) → w ≡ v → v.cursor ≡ cursor.Start → v.touched ≡ finite.empty → AreSealed s → v.mark ≡ mark_of s
    → v.room.room ≡ handles_before (mark_of s) s → AreSwept w range s
begun_with w v range s is start none sealed mark room = subst (λ (x : Sweep). AreSwept x range s) (sym is) (begun_swept v range s sealed mark room start none)

-- ---- the end

past_all : (c : Cursor) (key : Key) (name : List ℕ) → is_end c ≡ true → is_past_blob c key name ≡ true
past_all cursor.End key name end = refl
past_all cursor.Start key name end = cc
past_all (cursor.In at last) key name end = cc
past_all (cursor.After at) key name end = cc

-- nothing is in doubt once a front was given up
pub given_sure : (m : Mark) (s t : ThreeStreams) → GivesUpBefore m s t → (logged t).doubt ≡ None
given_sure m s t given = ap (λ (last : Open). option_and_then change_in last.tried) given.log.last ∙ ap (option_and_then change_in) given.sure

each_new : (o : Option News) (p : Part (List Piece)) → ((name : List ℕ) → IsNewRow o p name) → IsAllNew o p
each_new None p new = new []
each_new (Some news) p new = new

module _ (w : Sweep) (range : KeyRange) (s t : ThreeStreams) (swept : AreSwept w range s) (end : is_end w.cursor ≡ true) (given : GivesUpBefore w.mark s t) where
  new_at : (key : Key) → covers range key ≡ true → IsAllNew (swept.news key) (held_of (logged s) key)
  new_at key covered =
      each_new (swept.news key) (held_of (logged s) key) (λ name. swept.known.blobs key name covered
      (ap (λ b. b || is_touched_blob w.touched key name) (past_all w.cursor key name end)))

  -- Each container of the range is as it was, in pieces
  held_there : (key : Key) → covers range key ≡ true → held_of (logged t) key ≡ held_of (logged s) key
  held_there key covered =
      held_given w.mark s t given key ∙ all_new same_pieces (swept.news key) (held_of (logged s) key) (made_from w.mark s key) (swept.swept.parts key covered) (new_at key covered)

  -- and in bytes
  pub bytes_there : (key : Key) → covers range key ≡ true → meaning (logged t) key ≡ meaning (logged s) key
  bytes_there key covered = swept_ends w.mark swept.news (covers range) s t swept.swept given key covered (new_at key covered)

  pub sure_given : (logged t).doubt ≡ None
  sure_given = given_sure w.mark s t given

  same_part : (key : Key) (b : Bool) → covers range key ≡ b → part_of range key (all_changes s) ≡ part_of range key (all_changes t)
  same_part key true covered = part_of-covered range key (all_changes s) covered ∙ sym (held_there key covered) ∙ sym (part_of-covered range key (all_changes t) covered)
  same_part key false apart = part_of-apart range key (all_changes s) apart ∙ sym (part_of-apart range key (all_changes t) apart)

  rows_given : (o : Option (World (List Piece))) → IfSome o (AreRowsOf range s) → IfSome o (AreRowsOf range t)
  rows_given None old = tt
  rows_given (Some v) old = λ key. old key ∙ same_part key (covers range key) refl

  -- what is true of all stored rows is true of them after the end of a sweep
  pub loaded_given : (o : Option (World (List Piece))) (d : Option KeyedAct) → AreLoaded s o d range → (logged s).doubt ≡ None → AreLoaded t o d range
  loaded_given o d old none = record {
    fit = all_fit_given w.mark swept.news (covers range) s t swept.swept given;
    doubt = no_doubt range t sure_given;
    tried = still_none s t d old.tried none sure_given;
    rows = rows_given o old.rows;
  }

-- the data and the log have what was put since the mark, and no other block
pub only_since : (m : Mark) (s t : ThreeStreams) → GivesUpBefore m s t
    → (blocks_of (laid t.blobs) ≡ blocks_of (drop m.blobs (laid s.blobs))) × (blocks_of (laid t.log) ≡ blocks_of (drop m.log (laid s.log)))
only_since m s t given = (ap blocks_of given.blobs.blocks ∙ blocks_emptied m.blobs (laid s.blobs), ap blocks_of given.log.blocks ∙ blocks_emptied m.log (laid s.log))

-- The end of a sweep that has written each row
pub over_ends : (v : Option Sweep) (e : Swept) (range : KeyRange) (s t : ThreeStreams) (o : Option (World (List Piece))) (d : Option KeyedAct) → IfSome v (λ w. AreSwept w range s) → IsOver v e
    → GivesUpBefore e.mark s t → AreLoaded s o d range → (logged s).doubt ≡ None
    → AreLoaded t o d range × ((key : Key) → covers range key ≡ true → meaning (logged t) key ≡ meaning (logged s) key)
over_ends None e range s t o d swept over given old none = absurd over
over_ends (Some w) e range s t o d swept over given old none =
    let own : GivesUpBefore w.mark s t = subst (λ (m : Mark). GivesUpBefore m s t) over.1.0 given in
    (loaded_given w range s t swept over.0 own o d old none, bytes_there w range s t swept over.0 own)
