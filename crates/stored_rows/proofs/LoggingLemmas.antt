-- A change that is put and logged.
use Rattle.std.proofs.Common.{◌≡◌, ◌∙◌, Bool, true, false, [], ◌∷◌, ◌++◌, Option, Some, None, Err, ap, sym, refl, subst, inl, inr, append-nil}
use Rattle.std.specs.Option.{option_and_then, option_to_list}
use Rattle.extent_node.specs.Faults.{held}
use Rattle.stamp_types.specs.Changes.{KeyedAct}
use Rattle.stream_manager.specs.Places.{KeepsPlaces, blocks_of, is_kept}
use Rattle.stream_manager.specs.Streams.{laid}
use Rattle.stream_manager.specs.declared.faults.StoredFault.{StoredFault}
use Rattle.stream_manager.specs.declared.faults.StoredFault.TheVariants as stored_fault
use Rattle.partition_stream.specs.Changes.{Recorded, change_in, changes_of}
use Rattle.partition_stream.specs.Outcomes.{Logs, IsLogged, with_kept}
use Rattle.partition_stream.specs.Streams.{ThreeStreams, logged}
use Rattle.partition_stream.specs.declared.faults.TakeFault.{TakeFault}
use Rattle.partition_stream.specs.declared.faults.TakeFault.TheVariants as take_fault
use Rattle.partition_stream.proofs.OneMoreLemmas.{one_more_logged}
use Rattle.stored_rows.specs.Faults.{unlogged_by, unlogged_of_put}
use Rattle.stored_rows.specs.Logging.{AddsChange, IsPutAndLogged, KeepsLog}
use Rattle.stored_rows.specs.States.{IsKeptAs}

same_doubt : (s t : ThreeStreams) → t.log ≡ s.log → (logged t).doubt ≡ (logged s).doubt
same_doubt s t log = ap (λ l. option_and_then change_in l.last.tried) log

-- content was put, and nothing else was changed
put_keeps : (s t : ThreeStreams) → t.log ≡ s.log → t.rows ≡ s.rows → KeepsPlaces (laid s.blobs) (laid t.blobs) → KeepsLog s t
put_keeps s t log rows places = record {
  rows = ap (λ r. changes_of (blocks_of (laid r))) rows;
  log = ap (λ l. changes_of (blocks_of (laid l))) log;
  places = places;
}

-- content was not put
pub put_refused : (f : StoredFault) (s t : ThreeStreams) (c : Recorded) → t.log ≡ s.log → t.rows ≡ s.rows → KeepsPlaces (laid s.blobs) (laid t.blobs)
    → (logged s).doubt ≡ None → IsPutAndLogged (Err (unlogged_of_put f)) s c t
put_refused stored_fault.Busy s t c log rows places none = (put_keeps s t log rows places, same_doubt s t log ∙ none)
put_refused stored_fault.NoMemory s t c log rows places none = (put_keeps s t log rows places, same_doubt s t log ∙ none)

nothing_held : (kept : Bool) (doubt : Option Recorded) → doubt ≡ None → held kept doubt ≡ []
nothing_held true doubt none = ap option_to_list none
nothing_held false doubt none = refl

-- content was put, and then the change was logged, or not
module _ (s m t : ThreeStreams) (c : Recorded) (d : KeyedAct) (none : (logged s).doubt ≡ None)
    (log : m.log ≡ s.log) (rows : m.rows ≡ s.rows) (places : KeepsPlaces (laid s.blobs) (laid m.blobs)) (same : IsKeptAs (laid m.blobs) c.0 d)
    (blobs : t.blobs ≡ m.blobs) (old_rows : t.rows ≡ m.rows) where
  none_put : (logged m).doubt ≡ None
  none_put = same_doubt s m log ∙ none

  put : KeepsLog s m
  put = put_keeps s m log rows places

  places_logged : KeepsPlaces (laid s.blobs) (laid t.blobs)
  places_logged = subst (λ b. KeepsPlaces (laid s.blobs) (laid b)) (sym blobs) places

  same_logged : IsKeptAs (laid t.blobs) c.0 d
  same_logged = subst (λ b. IsKeptAs (laid b) c.0 d) (sym blobs) same

  rows_logged : (logged t).rows ≡ (logged s).rows
  rows_logged = ap (λ r. changes_of (blocks_of (laid r))) old_rows ∙ put.rows

  -- the change was logged
  pub logged_more : Logs m ((d, c.1) ∷ []) None t → AddsChange s c d t
  logged_more h = record {
    more = record {
      rows = rows_logged;
      log = (one_more_logged m t (d, c.1) none_put h old_rows).log ∙ ap (λ l. l ++ (d, c.1) ∷ []) put.log;
    };
    places = places_logged;
    same = same_logged;
    sure = h.left;
  }

  none_added : (doubt : Option Recorded) → Logs m [] doubt t → (logged t).log ≡ (logged m).log
  none_added doubt h =
      h.changes ∙ ap (λ l. (logged m).log ++ with_kept l []) (nothing_held (is_kept (laid m.log) m.log.last (laid t.log)) (logged m).doubt none_put)
      ∙ append-nil (logged m).log

  keeps_log : (logged t).log ≡ (logged m).log → KeepsLog s t
  keeps_log is = record { rows = rows_logged; log = is ∙ put.log; places = places_logged }

  -- the change was not logged
  pub logged_refused : (f : TakeFault) → IsLogged (Err f) m (d, c.1) t → IsPutAndLogged (Err (unlogged_by f d)) s c t
  logged_refused take_fault.Doubt h = record {
    doubt = h.left;
    same = same_logged;
    log = keeps_log (none_added (Some (d, c.1)) h);
  }
  logged_refused take_fault.Busy h = elim h [
    | inl more ↦ (keeps_log (none_added None more), more.left)
    | inr left ↦ (keeps_log (ap (λ es. changes_of (blocks_of es)) left.blocks), ap (λ last. option_and_then change_in last.tried) left.last ∙ none_put)
  ]
  logged_refused take_fault.NoMemory h = (keeps_log (ap (λ u. changes_of (blocks_of (laid u.log))) h), ap (λ u. (logged u).doubt) h ∙ none_put)
