-- Sweeps that go on in both halves of rows that are cut.
use Rattle.std.proofs.Common.{◌≡◌, ◌≤◌, ◌∙◌, ◌||◌, ℕ, Bool, true, false, Option, Some, None, IfSome, List, drop, ap, sym, refl, subst, arith}
use Rattle.std.specs.FinMap as finite
use Rattle.std.specs.Option.{option_map_or}
use Rattle.std.specs.Prelude.{is_some}
use Rattle.stamp_values.specs.Order.{key_cmp, name_cmp}
use Rattle.stamp_values.specs.declared.key.Key.{Key}
use Rattle.stream_manager.specs.Places.{GoesOn, blocks_of}
use Rattle.stream_manager.specs.Streams.{Streamed, laid}
use Rattle.stream_manager.proofs.GivenUpLemmas.{filled_among}
use Rattle.stream_manager.proofs.RunLemmas.{stays_on}
use Rattle.partition_stream.specs.Changes.{Recorded, changes_of}
use Rattle.partition_stream.specs.Streams.{HaveSameBlocks, ThreeStreams, logged}
use Rattle.partition_stream.specs.Sweeping.{changes_from, handles_before, mark_of}
use Rattle.partition_stream.specs.declared.mark.Mark.{Mark}
use Rattle.partition_stream.proofs.MeaningLemmas.{held_of-shared}
use Rattle.partition_stream.proofs.SweepingLemmas.{room_now, room_stays}
use Rattle.stored_rows.specs.Ranges.{covers}
use Rattle.stored_rows.specs.Swept.{AllNews, AreSwept, IsKnown, IsLoggable, IsOfHalf, IsPartOf, IsSwept, Names, PassSame, is_past, is_past_blob, is_touched, is_touched_blob}
use Rattle.stored_rows.specs.declared.cursor.Cursor.{Cursor}
use Rattle.stored_rows.specs.declared.key_range.KeyRange.{KeyRange}
use Rattle.stored_rows.specs.declared.sweep.Sweep.{Sweep}
use Rattle.stored_rows.specs.declared.sweep.Written.{Written}
use Rattle.stored_rows.proofs.AreSweptLemmas.{sealed_more}
use Rattle.stored_rows.proofs.CursorLemmas.{or_left}
use Rattle.stored_rows.proofs.CutLemmas.{lower_within, upper_within}
use Rattle.stored_rows.proofs.KnownLemmas.{known_same}
use Rattle.stored_rows.proofs.SweptLemmas.{swept_same}

-- ---- what a sweep knows if it forgets which rows it touched

-- no container was touched
no_key : (names : Names) (key : Key) → names ≡ finite.empty → is_touched names key ≡ false
no_key names key none =
    ap (λ (n : Names). is_touched n key) none ∙ ap (λ (o : Option (finite.FinMap name_cmp Written)). is_some o) (finite.get-empty key_cmp key)

no_name : (names : Names) (key : Key) (name : List ℕ) → names ≡ finite.empty → is_touched_blob names key name ≡ false
no_name names key name none =
    ap (λ (n : Names). is_touched_blob n key name) none
    ∙ ap (λ (o : Option (finite.FinMap name_cmp Written)). option_map_or (λ own. is_some (finite.get own name)) o false) (finite.get-empty key_cmp key)

past_only : (a b : Bool) → b ≡ false → (a || b) ≡ true → a ≡ true
past_only true b none h = refl
past_only false true none h = cc
past_only false false none h = h

known_part : (c d : Cursor) (names none : Names) (news : AllNews) (inside : Key → Bool) (s : ThreeStreams) → PassSame c d → none ≡ finite.empty → IsKnown c names news inside s
    → IsKnown d none news inside s
known_part c d names none news inside s same empty known = record {
  rows = λ key here knows.
      known.rows key here (or_left (is_past c key) (is_touched names key) (sym (same.rows key) ∙ past_only (is_past d key) (is_touched none key) (no_key none key empty) knows));
  blobs = λ key name here knows.
      known.blobs key name here
      (or_left (is_past_blob c key name) (is_touched_blob names key name)
      (sym (same.blobs key name) ∙ past_only (is_past_blob d key name) (is_touched_blob none key name) (no_name none key name empty) knows));
}

-- ---- a part of the rows

-- the room for all sealed extents is room for those before a mark
enough : (m : Mark) (s : ThreeStreams) → handles_before m s ≤ handles_before (mark_of s) s
enough m s =
    let a = filled_among m.log s.log.sealed in
    let b = filled_among m.blobs s.blobs.sealed in
    let c = room_now s in
    omega (arith, a, b, c)

same_goes : (s t : Streamed) → laid t ≡ laid s → GoesOn (laid s) (laid t)
same_goes s t same = subst (λ es. GoesOn (laid s) es) (sym same) (stays_on (laid s))

module _ (w : Sweep) (range own : KeyRange) (s t : ThreeStreams) (swept : AreSwept w range s) (same : HaveSameBlocks s t) (sure : (logged t).doubt ≡ None)
    (within : (key : Key) → covers own key ≡ true → covers range key ≡ true) where
  since : changes_from w.mark t ≡ changes_from w.mark s
  since = ap (λ es. changes_of (blocks_of (drop w.mark.log es))) same.log

  -- A sweep goes on for a part of the range, over streams with the same blocks
  part_swept : (v : Sweep) → v.mark ≡ w.mark → IsKnown v.cursor v.touched swept.news (covers range) s → handles_before w.mark t ≤ v.room.room → AreSwept v own t
  part_swept v mark known enough = record {
    log = let m = ap (λ (m : Mark). m.log) mark in let a = swept.log in let b = sealed_more s.log t.log (same_goes s.log t.log same.log) in omega (arith, a, b, m);
    blobs = let m = ap (λ (m : Mark). m.blobs) mark in let a = swept.blobs in let b = sealed_more s.blobs t.blobs (same_goes s.blobs t.blobs same.blobs) in omega (arith, a, b, m);
    room = let m = ap (λ (m : Mark). handles_before m t) mark in omega (arith, enough, m);
    news = swept.news;
    swept = subst (λ (m : Mark). IsSwept m swept.news (covers own) t) (sym mark)
        (swept_same w.mark swept.news (covers range) (covers own) s t (λ key. held_of-shared s t key same) since within swept.swept);
    known = known_same v.cursor v.touched swept.news (covers range) (covers own) s t (λ key. held_of-shared s t key same) within known;
    doubt = subst (λ (o : Option Recorded). IfSome o (IsLoggable v.mark swept.news t)) (sym sure) tt;
  }

  -- with what it knows and the room that it has
  whole_swept : AreSwept w own t
  whole_swept = part_swept w refl swept.known
      (let a = swept.room in let b = room_stays w.mark s t swept.log swept.blobs (same_goes s.log t.log same.log) (same_goes s.blobs t.blobs same.blobs) in omega (arith, a, b))

  -- or with room of its own
  own_swept : (half : Sweep) → IsPartOf w half → half.room.room ≡ handles_before (mark_of t) t → AreSwept half own t
  own_swept half part room =
      part_swept half part.mark (known_part w.cursor half.cursor w.touched half.touched swept.news (covers range) s part.cursor part.touched swept.known)
      (let a = enough w.mark t in omega (arith, a, room))

-- ---- the two halves

module _ (range : KeyRange) (middle : Key) (covered : covers range middle ≡ true) (s t : ThreeStreams) (same : HaveSameBlocks s t) (sure : (logged t).doubt ≡ None) where
  -- A sweep goes on in the lower half
  pub lower_swept : (v : Option Sweep) → IfSome v (λ w. AreSwept w range s) → IfSome v (λ w. AreSwept w (record range { to = Some middle }) t)
  lower_swept None swept = tt
  lower_swept (Some w) swept = whole_swept w range (record range { to = Some middle }) s t swept same sure (lower_within range middle covered)

  -- and in the upper half
  pub upper_swept : (v o : Option Sweep) → IfSome v (λ w. AreSwept w range s) → IsOfHalf v t o → IfSome o (λ w. AreSwept w (record { from = middle; to = range.to }) t)
  upper_swept v None swept is = tt
  upper_swept None (Some half) swept is = cc
  upper_swept (Some w) (Some half) swept is = own_swept w range (record { from = middle; to = range.to }) s t swept same sure (upper_within range middle covered) half is.0 is.1
