-- Streams of a range that is swept: what each call leaves of it.
use Rattle.std.proofs.Common.{◌≡◌, ◌≤◌, ◌+◌, ◌∙◌, true, Option, Some, None, IfSome, List, [], ◌∷◌, ◌++◌, length, sym, refl, subst, append-nil, arith}
use Rattle.stamp_types.specs.World.{Part}
use Rattle.stamp_types.specs.declared.piece.Piece.{Piece}
use Rattle.stream_manager.specs.Places.{GoesOn}
use Rattle.stream_manager.specs.Streams.{Streamed, laid}
use Rattle.stream_manager.proofs.ReadLemmas.{count_of_extents}
use Rattle.partition_stream.specs.Changes.{Recorded}
use Rattle.partition_stream.specs.Meanings.{IsOneMore, held_of}
use Rattle.partition_stream.specs.Streams.{ThreeStreams, logged}
use Rattle.partition_stream.specs.Sweeping.{changes_from}
use Rattle.partition_stream.proofs.SweepingLemmas.{more_since, room_stays}
use Rattle.stored_rows.specs.Fitting.{Fits}
use Rattle.stored_rows.specs.Logging.{KeepsLog}
use Rattle.stored_rows.specs.Ranges.{covers}
use Rattle.stored_rows.specs.Swept.{AreSwept, IsLoggable, MayLog, with_new_change}
use Rattle.stored_rows.specs.declared.key_range.KeyRange.{KeyRange}
use Rattle.stored_rows.specs.declared.sweep.Sweep.{Sweep}
use Rattle.stored_rows.proofs.KnownLemmas.{known_more, known_same}
use Rattle.stored_rows.proofs.SweptLemmas.{swept_more, swept_same}
use Rattle.stored_rows.proofs.TakeLemmas.{held_same}

-- a stream that goes on has as many sealed extents at least
pub sealed_more : (s t : Streamed) → GoesOn (laid s) (laid t) → length s.sealed ≤ length t.sealed
sealed_more s t on =
    let a = count_of_extents s.sealed s.last in
    let b = count_of_extents t.sealed t.last in
    let longer = on.1.sealed.longer in
    omega (arith, a, b, longer)

none_more : (cs : List Recorded) → cs ++ [] ≡ cs
none_more cs = append-nil cs

module _ (w : Sweep) (range : KeyRange) (s t : ThreeStreams) (swept : AreSwept w range s) (log : GoesOn (laid s.log) (laid t.log)) (blobs : GoesOn (laid s.blobs) (laid t.blobs)) where
  log_there : w.mark.log ≤ length t.log.sealed
  log_there = let a = swept.log in let b = sealed_more s.log t.log log in omega (arith, a, b)

  blobs_there : w.mark.blobs ≤ length t.blobs.sealed
  blobs_there = let a = swept.blobs in let b = sealed_more s.blobs t.blobs blobs in omega (arith, a, b)

  -- streams that keep the same changes
  module _ (keeps : KeepsLog s t) where
    since_same : changes_from w.mark t ≡ changes_from w.mark s
    since_same =
        more_since w.mark s t [] swept.log log (keeps.log ∙ sym (none_more (logged s).log)) ∙ none_more (changes_from w.mark s)

    loggable_same : (c : Recorded) → IsLoggable w.mark swept.news s c → IsLoggable w.mark swept.news t c
    loggable_same c is = record {
      may = subst (λ (p : Part (List Piece)). MayLog (swept.news c.0.key) p c.0.act) (sym (held_same s t keeps c.0.key)) is.may;
      from = is.from;
    }

    -- with a doubt that may be kept
    swept_with : IfSome (logged t).doubt (IsLoggable w.mark swept.news t) → AreSwept w range t
    swept_with doubt = record {
      log = log_there;
      blobs = blobs_there;
      room = let a = swept.room in let b = room_stays w.mark s t swept.log swept.blobs log blobs in omega (arith, a, b);
      news = swept.news;
      swept = swept_same w.mark swept.news (covers range) (covers range) s t (held_same s t keeps) since_same (λ key here. here) swept.swept;
      known = known_same w.cursor w.touched swept.news (covers range) (covers range) s t (held_same s t keeps) (λ key here. here) swept.known;
      doubt = doubt;
    }

    -- without a doubt
    pub swept_sure : (logged t).doubt ≡ None → AreSwept w range t
    swept_sure none = swept_with (subst (λ (o : Option Recorded). IfSome o (IsLoggable w.mark swept.news t)) (sym none) tt)

    -- with the doubt that there was
    pub swept_doubt : (logged t).doubt ≡ (logged s).doubt → AreSwept w range t
    swept_doubt same = swept_with (subst (λ (o : Option Recorded). IfSome o (IsLoggable w.mark swept.news t)) (sym same) (by (logged s).doubt swept.doubt))
      where
        by : (o : Option Recorded) → IfSome o (IsLoggable w.mark swept.news s) → IfSome o (IsLoggable w.mark swept.news t)
        by None is = tt
        by (Some c) is = loggable_same c is

    -- with a change in doubt that may be logged
    pub swept_doubts : (c : Recorded) → (logged t).doubt ≡ Some c → IsLoggable w.mark swept.news s c → AreSwept w range t
    swept_doubts c is may = swept_with (subst (λ (o : Option Recorded). IfSome o (IsLoggable w.mark swept.news t)) (sym is) (loggable_same c may))

  -- one change more, which may be logged: what is new is what was new, and what the change writes
  pub swept_news : (c : Recorded) → IsOneMore (logged s) c (logged t) → (logged t).doubt ≡ None → covers range c.0.key ≡ true → Fits (held_of (logged s) c.0.key) c.0.act
      → IsLoggable w.mark swept.news s c → (now : AreSwept w range t) × (now.news ≡ with_new_change swept.news c)
  swept_news c more none covered fit may = (
    record {
      log = log_there;
      blobs = blobs_there;
      room = let a = swept.room in let b = room_stays w.mark s t swept.log swept.blobs log blobs in omega (arith, a, b);
      news = with_new_change swept.news c;
      swept = swept_more w.mark swept.news (covers range) s t c swept.swept more (more_since w.mark s t (c ∷ []) swept.log log more.log) covered may.may fit may.from;
      known = known_more w.cursor w.touched swept.news (covers range) s t c swept.known more;
      doubt = subst (λ (o : Option Recorded). IfSome o (IsLoggable w.mark (with_new_change swept.news c) t)) (sym none) tt;
    },
    refl,
  )

  pub swept_change : (c : Recorded) → IsOneMore (logged s) c (logged t) → (logged t).doubt ≡ None → covers range c.0.key ≡ true → Fits (held_of (logged s) c.0.key) c.0.act
      → IsLoggable w.mark swept.news s c → AreSwept w range t
  swept_change c more none covered fit may = (swept_news c more none covered fit may).0
