-- The records that the streams of a partition keep, and the content that these records bring.
use Rattle.std.proofs.Common.{◌≡◌, ◌∙◌, ◌<◌, ◌^◌, ℕ, Bool, true, false, Option, Some, None, IfSome, Result, Ok, Err, List, [], ◌++◌, All, ap, sym, refl, subst, append-nil}
use Rattle.std.proofs.lemmas.List.Elements.{All-weaker}
use Rattle.std.proofs.lemmas.Option.{IfSome_then}
use Rattle.extent_node.specs.Copies.{Block}
use Rattle.extent_node.specs.Faults.{held}
use Rattle.stamp_types.specs.Changes.{KeyedAct}
use Rattle.log_record.specs.Fits.{IsRecorded}
use Rattle.log_record.specs.Records.{record_bytes}
use Rattle.log_record.proofs.RecordLemmas.{second_version}
use Rattle.stream_manager.specs.Outcomes.{IsSettled, IsSealed}
use Rattle.stream_manager.specs.Places.{block_at, blocks_of, is_kept, KeepsPlaces}
use Rattle.stream_manager.specs.Streams.{Streamed, laid}
use Rattle.stream_manager.specs.declared.faults.Settled.{Settled}
use Rattle.stream_manager.specs.declared.faults.StoredFault.{StoredFault}
use Rattle.partition_stream.specs.Changes.{changes_of}
use Rattle.partition_stream.specs.Logging.{IsRecordAppended}
use Rattle.partition_stream.specs.Storing.{IsRecord, IsStoredRecord, IsStoredChange, AreKept}
use Rattle.partition_stream.specs.Streams.{ThreeStreams, logged}
use Rattle.partition_stream.specs.declared.faults.TakeFault.{TakeFault}
use Rattle.partition_stream.proofs.ContentLemmas.{change_stays}
use Rattle.partition_stream.proofs.StreamLemmas.{Each, each_appended, each_sealed, each_settled, each_empty}

abbrev streams : Streamed → Streamed → Streamed → ThreeStreams
streams log blobs rows = record { log = log; blobs = blobs; rows = rows }

log_each : (s : ThreeStreams) → AreKept s → Each (IsStoredRecord (laid s.blobs)) s.log
log_each s kept = record { blocks = kept.log; doubt = kept.doubt }

with_log : (s : ThreeStreams) (log : Streamed) → AreKept s → Each (IsStoredRecord (laid s.blobs)) log → AreKept (streams log s.blobs s.rows)
with_log s log kept each = record { rows = kept.rows; whole = kept.whole; log = each.blocks; doubt = each.doubt }

-- the record of a change whose contents are stored
pub stored_record : (es : List (List Block)) (block : Block) (c : KeyedAct) (epoch : ℕ) → IsRecorded c → epoch < 2 ^ 64 → block ≡ record_bytes 2 c epoch → IsStoredChange es c
    → IsStoredRecord es block
stored_record es block c epoch fits within bytes stored =
    record { change = c; epoch = epoch; fits = fits; within = within; bytes = second_version block c epoch bytes; stored = stored }

-- a record was appended to the log
pub kept_appended : (r : Result ℕ TakeFault) (s : ThreeStreams) (log : Streamed) (block : Block)
    → AreKept s → IsStoredRecord (laid s.blobs) block → IsRecordAppended r s.log block log → AreKept (streams log s.blobs s.rows)
kept_appended r s log block kept own h = with_log s log kept (each_appended (IsStoredRecord (laid s.blobs)) r s.log log block (log_each s kept) own h)

-- the log was settled
pub kept_settled : (r : Result Settled StoredFault) (s : ThreeStreams) (log : Streamed)
    → AreKept s → IsSettled r (laid s.log) s.log.last (laid log) log.last → AreKept (streams log s.blobs s.rows)
kept_settled r s log kept h = with_log s log kept (each_settled (IsStoredRecord (laid s.blobs)) r s.log log (log_each s kept) h)

-- the log was sealed
pub kept_log_sealed : (r : Result (Unit {0}) StoredFault) (s : ThreeStreams) (log : Streamed)
    → AreKept s → IsSealed r (laid s.log) s.log.last (laid log) log.last → AreKept (streams log s.blobs s.rows)
kept_log_sealed r s log kept h = with_log s log kept (each_sealed (IsStoredRecord (laid s.blobs)) r s.log log (log_each s kept) h)

-- a record whose contents are stored stays one
pub record_stays : (es fs : List (List Block)) → KeepsPlaces es fs → (block : Block) → IsStoredRecord es block → IsStoredRecord fs block
record_stays es fs keeps block r = record { change = r.change; epoch = r.epoch; fits = r.fits; within = r.within; bytes = r.bytes; stored = change_stays es fs keeps r.change r.stored }

-- the blocks of the data stay at their places
pub kept_blobs : (s : ThreeStreams) (blobs : Streamed) → AreKept s → KeepsPlaces (laid s.blobs) (laid blobs) → AreKept (streams s.log blobs s.rows)
kept_blobs s blobs kept keeps =
    let stays = record_stays (laid s.blobs) (laid blobs) keeps in
    record {
      rows = All-weaker (IsStoredRecord (laid s.blobs)) (IsStoredRecord (laid blobs)) stays (blocks_of (laid s.rows)) kept.rows;
      whole = kept.whole;
      log = All-weaker (IsStoredRecord (laid s.blobs)) (IsStoredRecord (laid blobs)) stays (blocks_of (laid s.log)) kept.log;
      doubt = IfSome_then s.log.last.tried kept.doubt stays;
    }

-- a seal of data
pub blobs_sealed : (r : Result (Unit {0}) StoredFault) (s t : Streamed) → IsSealed r (laid s) s.last (laid t) t.last → KeepsPlaces (laid s) (laid t)
blobs_sealed (Ok u) s t h = h.0.kept
blobs_sealed (Err e) s t h = λ p b here. subst (λ es. block_at es p ≡ Some b) (sym h.0) here

abbrev no_block : Option Block
no_block = None

held_none : (kept : Bool) → held kept no_block ≡ []
held_none true = refl
held_none false = refl

-- the rows have the same blocks after a seal
pub rows_sealed : (r : Result (Unit {0}) StoredFault) (s t : Streamed) → s.last.tried ≡ None → IsSealed r (laid s) s.last (laid t) t.last
    → (blocks_of (laid t) ≡ blocks_of (laid s)) × (t.last.tried ≡ None)
rows_sealed (Ok u) s t none h =
    let nothing : held (is_kept (laid s) s.last (laid t)) s.last.tried ≡ [] = ap (held (is_kept (laid s) s.last (laid t))) none ∙ held_none (is_kept (laid s) s.last (laid t)) in
    (h.0.order ∙ ap (λ l. blocks_of (laid s) ++ l) nothing ∙ append-nil (blocks_of (laid s)), h.2)
rows_sealed (Err e) s t none h = (ap blocks_of h.0, ap (λ last. last.tried) h.1 ∙ none)

pub kept_rows_sealed : (r : Result (Unit {0}) StoredFault) (s : ThreeStreams) (rows : Streamed)
    → AreKept s → IsSealed r (laid s.rows) s.rows.last (laid rows) rows.last → AreKept (streams s.log s.blobs rows)
kept_rows_sealed r s rows kept h =
    let same = rows_sealed r s.rows rows kept.whole h in
    record { rows = subst (All (IsStoredRecord (laid s.blobs))) (sym same.0) kept.rows; whole = same.1; log = kept.log; doubt = kept.doubt }

-- the rows are the same changes after a seal
pub rows_stay : (r : Result (Unit {0}) StoredFault) (s : ThreeStreams) (rows : Streamed) → AreKept s → IsSealed r (laid s.rows) s.rows.last (laid rows) rows.last
    → changes_of (blocks_of (laid rows)) ≡ (logged s).rows
rows_stay r s rows kept h = ap changes_of (rows_sealed r s.rows rows kept.whole h).0

-- streams without blocks
pub kept_empty : (log blobs rows : Streamed) → log.sealed ≡ [] → log.last.blocks ≡ [] → log.last.tried ≡ None
    → rows.sealed ≡ [] → rows.last.blocks ≡ [] → rows.last.tried ≡ None → AreKept (streams log blobs rows)
kept_empty log blobs rows a b c d e f =
    let of_log = each_empty (IsStoredRecord (laid blobs)) log a b c in
    let of_rows = each_empty (IsStoredRecord (laid blobs)) rows d e f in
    record { rows = of_rows.blocks; whole = f; log = of_log.blocks; doubt = of_log.doubt }

-- streams with the same blocks, and without a doubt
pub kept_same : (s t : ThreeStreams) → AreKept s → laid t.log ≡ laid s.log → laid t.blobs ≡ laid s.blobs → laid t.rows ≡ laid s.rows
    → t.log.last.tried ≡ None → t.rows.last.tried ≡ None → AreKept t
kept_same s t kept log blobs rows sure whole = record {
  rows = subst (λ es. All (IsStoredRecord es) (blocks_of (laid t.rows))) (sym blobs) (subst (λ es. All (IsStoredRecord (laid s.blobs)) (blocks_of es)) (sym rows) kept.rows);
  whole = whole;
  log = subst (λ es. All (IsStoredRecord es) (blocks_of (laid t.log))) (sym blobs) (subst (λ es. All (IsStoredRecord (laid s.blobs)) (blocks_of es)) (sym log) kept.log);
  doubt = subst (λ o. IfSome o (IsStoredRecord (laid t.blobs))) (sym sure) tt;
}

-- each block is a record
pub record_of_stored : (es : List (List Block)) (block : Block) → IsStoredRecord es block → IsRecord block
record_of_stored es block r = record { change = r.change; epoch = r.epoch; fits = r.fits; within = r.within; bytes = r.bytes }

pub are_records : (es : List (List Block)) (blocks : List Block) → All (IsStoredRecord es) blocks → All IsRecord blocks
are_records es blocks stored = All-weaker (IsStoredRecord es) IsRecord (record_of_stored es) blocks stored

pub is_doubt_record : (es : List (List Block)) (tried : Option Block) → IfSome tried (IsStoredRecord es) → IfSome tried IsRecord
is_doubt_record es tried is = IfSome_then tried is (record_of_stored es)
