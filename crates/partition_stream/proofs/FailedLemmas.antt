-- Changes that fail, and seals, leave each container as it was, or as an older doubt leaves it.
use Rattle.std.proofs.Common.{◌≡◌, ◌∙◌, ◌⊎◌, inl, inr, Option, Some, None, false, Result, Ok, Err, [], ◌++◌, ap, sym, append-nil}
use Rattle.stamp_values.specs.declared.key.Key.{Key}
use Rattle.stream_manager.specs.Places.{blocks_of, is_kept}
use Rattle.stream_manager.specs.Streams.{laid}
use Rattle.stream_manager.specs.declared.faults.StoredFault.{StoredFault}
use Rattle.partition_stream.specs.Changes.{Recorded, changes_of}
use Rattle.partition_stream.specs.Logging.{IsSameStream}
use Rattle.partition_stream.specs.Meanings.{IsWithDoubt}
use Rattle.partition_stream.specs.Outcomes.{kept_doubt, Logs, IsLogged, IsLogSealed}
use Rattle.partition_stream.specs.Streams.{ThreeStreams, logged}
use Rattle.partition_stream.specs.declared.faults.TakeFault.{TakeFault}
use Rattle.partition_stream.specs.declared.faults.TakeFault.TheVariants as fault
use Rattle.partition_stream.proofs.MeaningLemmas.{held_of-doubt}

-- the older doubt was kept or dropped, and no change was added
none_added : (s t : ThreeStreams) (doubt : Option Recorded) (key : Key) → Logs s [] doubt t → (logged t).rows ≡ (logged s).rows
    → IsWithDoubt (logged s) (logged t) (logged s).doubt key
none_added s t doubt key h rows =
    held_of-doubt (logged s) (logged t) (is_kept (laid s.log) s.log.last (laid t.log)) (logged s).doubt key rows
    (h.changes ∙ ap (λ l. (logged s).log ++ l) (append-nil (kept_doubt s t)))

-- the log has the same blocks
same_log : (s t : ThreeStreams) (key : Key) → laid t.log ≡ laid s.log → (logged t).rows ≡ (logged s).rows
    → IsWithDoubt (logged s) (logged t) (logged s).doubt key
same_log s t key same rows =
    held_of-doubt (logged s) (logged t) false (logged s).doubt key rows
    (ap (λ es. changes_of (blocks_of es)) same ∙ sym (append-nil (logged s).log))

-- one of both
none_or_same : (s t : ThreeStreams) (key : Key) → Logs s [] None t ⊎ IsSameStream s.log t.log → (logged t).rows ≡ (logged s).rows
    → IsWithDoubt (logged s) (logged t) (logged s).doubt key
none_or_same s t key (inl h) rows = none_added s t None key h rows
none_or_same s t key (inr h) rows = same_log s t key h.blocks rows

pub failed_change : (s t : ThreeStreams) (e : TakeFault) (c : Recorded) (key : Key) → IsLogged (Err e) s c t → (logged t).rows ≡ (logged s).rows
    → IsWithDoubt (logged s) (logged t) (logged s).doubt key
failed_change s t fault.Doubt c key h rows = none_added s t (Some c) key h rows
failed_change s t fault.Busy c key h rows = none_or_same s t key h rows
failed_change s t fault.NoMemory c key h rows = same_log s t key (ap (λ u. laid u.log) h) rows

pub sealed_log : (s t : ThreeStreams) (r : Result (Unit {0}) StoredFault) (key : Key) → IsLogSealed r s t → (logged t).rows ≡ (logged s).rows
    → IsWithDoubt (logged s) (logged t) (logged s).doubt key
sealed_log s t (Ok u) key h rows = none_added s t None key h rows
sealed_log s t (Err e) key h rows = none_or_same s t key h rows
