-- What appends, settles and seals of a log do to its changes.
use Rattle.std.proofs.Common.{◌≡◌, ◌∙◌, ℕ, Option, Some, None, IfSome, IsSome, Result, Ok, Err, List, [], ◌∷◌, ◌++◌, ap, refl, subst, inl, inr, append-nil}
use Rattle.std.specs.Option.{option_and_then, is_some}
use Rattle.extent_node.specs.Copies.{Block}
use Rattle.extent_node.specs.Faults.{held}
use Rattle.stream_manager.specs.Outcomes.{IsSettled, IsSealed}
use Rattle.stream_manager.specs.Places.{blocks_of, is_kept}
use Rattle.stream_manager.specs.Streams.{Streamed, laid}
use Rattle.stream_manager.specs.declared.faults.Settled.{Settled}
use Rattle.stream_manager.specs.declared.faults.Settled.TheVariants as settled
use Rattle.stream_manager.specs.declared.faults.StoredFault.{StoredFault}
use Rattle.partition_stream.specs.Changes.{Recorded, change_in, changes_of}
use Rattle.partition_stream.specs.Logging.{HasMore, IsRecordAppended}
use Rattle.partition_stream.specs.Outcomes.{kept_doubt, Logs, IsKeptAt, IsLogged, IsLogSettled, IsLogSealed}
use Rattle.partition_stream.specs.Storing.{IsRecord}
use Rattle.partition_stream.specs.Streams.{ThreeStreams, logged}
use Rattle.partition_stream.specs.declared.faults.TakeFault.{TakeFault}
use Rattle.partition_stream.specs.declared.faults.TakeFault.TheVariants as fault
use Rattle.partition_stream.proofs.ChangeLemmas.{changes_of-held, changes_of-more, changes_of-one, change_in-block}
use Rattle.partition_stream.proofs.StreamLemmas.{more_sealed}

-- blocks more are changes more
logs_more : (s t : ThreeStreams) (added : List Block) (tried : Option Block) (cs : List Recorded) (doubt : Option Recorded)
    → HasMore s.log added tried t.log → changes_of added ≡ cs → option_and_then change_in tried ≡ doubt → Logs s cs doubt t
logs_more s t added tried cs doubt h a d =
    let kept = is_kept (laid s.log) s.log.last (laid t.log) in
    record {
      changes =
          ap changes_of h.blocks
          ∙ changes_of-more (blocks_of (laid s.log)) (held kept s.log.last.tried ++ added)
          ∙ ap (λ l. changes_of (blocks_of (laid s.log)) ++ l)
          (changes_of-more (held kept s.log.last.tried) added
          ∙ ap (λ l. l ++ changes_of added) (changes_of-held kept s.log.last.tried)
          ∙ ap (λ l. kept_doubt s t ++ l) a);
      left = ap (option_and_then change_in) h.left ∙ d;
    }

logs_none : (s t : ThreeStreams) → HasMore s.log [] None t.log → Logs s [] None t
logs_none s t h = logs_more s t [] None [] None h refl refl

-- equal streams are equal
same_streams : (s t : ThreeStreams) → t.log ≡ s.log → t.blobs ≡ s.blobs → t.rows ≡ s.rows → t ≡ s
same_streams s t log blobs rows = λ i. record { log = log i; blobs = blobs i; rows = rows i }

-- a record was appended
pub is_logged : (r : Result ℕ TakeFault) (s t : ThreeStreams) (block : Block) (c : Recorded) → change_in block ≡ Some c
    → IsRecordAppended r s.log block t.log → t.blobs ≡ s.blobs → t.rows ≡ s.rows → IsLogged r s c t
is_logged (Ok n) s t block c e h blobs rows = logs_more s t (block ∷ []) None (c ∷ []) None h (changes_of-one block c e) refl
is_logged (Err fault.Doubt) s t block c e h blobs rows = logs_more s t [] (Some block) [] (Some c) h refl e
is_logged (Err fault.Busy) s t block c e h blobs rows = elim h [ inl more ↦ inl (logs_none s t more) | inr same ↦ inr same ]
is_logged (Err fault.NoMemory) s t block c e h blobs rows = same_streams s t h blobs rows

-- a seal
pub is_log_sealed : (r : Result (Unit {0}) StoredFault) (s t : ThreeStreams) → IsSealed r (laid s.log) s.log.last (laid t.log) t.log.last → IsLogSealed r s t
is_log_sealed (Ok u) s t h = logs_none s t (more_sealed s.log t.log h.0 h.2)
is_log_sealed (Err e) s t h = inr (record { blocks = h.0; last = h.1 })

-- a doubt is a change
doubt_is : (s : ThreeStreams) (block : Block) (r : IsRecord block) → s.log.last.tried ≡ Some block → (logged s).doubt ≡ Some (r.change, r.epoch)
doubt_is s block r t = ap (option_and_then change_in) t ∙ change_in-block block r

some_doubt : (o : Option Block) → IfSome o IsRecord → IsSome o → IsSome (option_and_then change_in o)
some_doubt (Some block) r some = ap is_some (change_in-block block r)
some_doubt None r some = some

no_doubt : (t : ThreeStreams) → t.log.last.tried ≡ None → (logged t).doubt ≡ None
no_doubt t none = ap (option_and_then change_in) none

-- a settle
pub is_log_settled : (r : Result Settled StoredFault) (s t : ThreeStreams) → IfSome s.log.last.tried IsRecord
    → IsSettled r (laid s.log) s.log.last (laid t.log) t.log.last → IsLogSettled r s t
is_log_settled (Ok settled.Clean) s t d h = (no_doubt s h.0, record { blocks = h.1; last = h.2 })
is_log_settled (Ok (settled.Kept p)) s t d h =
    let block = h.0.0 in
    let own : IsRecord block = subst (λ o. IfSome o IsRecord) h.0.1 d in (
      (own.change, own.epoch),
      (
        doubt_is s block own h.0.1,
        (
          ap changes_of h.0.2.order ∙ changes_of-more (blocks_of (laid s.log)) (block ∷ [])
              ∙ ap (λ l. changes_of (blocks_of (laid s.log)) ++ l) (changes_of-one block (own.change, own.epoch) (change_in-block block own)),
          no_doubt t h.1,
        ),
      ),
    )
is_log_settled (Ok settled.Dropped) s t d h =
    (some_doubt s.log.last.tried d h.0, (ap changes_of (h.1.order ∙ append-nil (blocks_of (laid s.log))), no_doubt t h.2))
is_log_settled (Err e) s t d h = (some_doubt s.log.last.tried d h.0, record { blocks = h.1; last = h.2 })

-- the place of a doubt that was kept
pub is_kept_at : (r : Result Settled StoredFault) (s t : Streamed) → IsSettled r (laid s) s.last (laid t) t.last → IsKeptAt r s t
is_kept_at (Ok settled.Clean) s t h = tt
is_kept_at (Ok (settled.Kept p)) s t h = (h.0.0, (h.0.1, h.0.3))
is_kept_at (Ok settled.Dropped) s t h = tt
is_kept_at (Err e) s t h = tt
