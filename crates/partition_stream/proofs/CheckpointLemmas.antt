-- Rows of a checkpoint that are written, and put in place.
use Rattle.std.proofs.Common.{◌≡◌, ◌∙◌, ◌<◌, ◌^◌, Bool, true, false, Option, None, List, [], ◌∷◌, ◌++◌, ap, refl, arith, append-nil}
use Rattle.std.proofs.lemmas.List.Elements.{All-nil, All-cons, All-append, All-same}
use Rattle.extent_node.specs.Copies.{Block}
use Rattle.extent_node.specs.Faults.{held}
use Rattle.stamp_types.specs.Changes.{KeyedAct}
use Rattle.stamp_types.specs.World.{part_value}
use Rattle.stamp_values.specs.declared.key.Key.{Key}
use Rattle.log_record.specs.Fits.{IsRecorded}
use Rattle.log_record.specs.Records.{record_bytes}
use Rattle.stream_manager.specs.Places.{blocks_of, is_kept}
use Rattle.stream_manager.specs.Streams.{Streamed, laid}
use Rattle.partition_stream.specs.Changes.{changes_of}
use Rattle.partition_stream.specs.Checkpoints.{AreStoredRows, HasOneRow, IsInPlace, made_by, new_rows}
use Rattle.partition_stream.specs.Contents.{content_at}
use Rattle.partition_stream.specs.Logging.{HasMore}
use Rattle.partition_stream.specs.Meanings.{held_of, meaning}
use Rattle.partition_stream.specs.Storing.{AreKept, IsStoredRecord}
use Rattle.partition_stream.specs.Streams.{ThreeStreams, logged}
use Rattle.partition_stream.proofs.ChangeLemmas.{change_in-written, changes_of-next}
use Rattle.partition_stream.proofs.KeptLemmas.{stored_record}
use Rattle.partition_stream.proofs.StreamLemmas.{each_empty, no_blocks}

nothing_held : (kept : Bool) (tried : Option Block) → tried ≡ None → held kept tried ≡ []
nothing_held true tried none = ap (held true) none
nothing_held false tried none = refl

-- without a doubt, a record that is appended is the only block more
one_block : (s t : Streamed) (block : Block) → s.last.tried ≡ None → HasMore s (block ∷ []) None t → blocks_of (laid t) ≡ blocks_of (laid s) ++ block ∷ []
one_block s t block whole more =
    more.blocks ∙ ap (λ l. blocks_of (laid s) ++ (l ++ block ∷ [])) (nothing_held (is_kept (laid s) s.last (laid t)) s.last.tried whole)

no_epoch : 0 < 2 ^ 64
no_epoch = omega arith

-- a row that was appended
pub row_appended : (s t : Streamed) (block : Block) (c : KeyedAct) → s.last.tried ≡ None → IsRecorded c → block ≡ record_bytes 2 c 0
    → HasMore s (block ∷ []) None t → HasOneRow s c t
row_appended s t block c whole fits written more =
    let blocks = one_block s t block whole more in
    record {
      rows = changes_of-next (blocks_of (laid s)) (blocks_of (laid t)) block (c, 0) blocks (change_in-written block c 0 fits no_epoch written);
      whole = more.left;
      stored = λ es old own.
          All-same (IsStoredRecord es) _ _ blocks
          (All-append (IsStoredRecord es) (blocks_of (laid s)) (block ∷ []) old
          (All-cons (IsStoredRecord es) block [] (stored_record es block c 0 fits no_epoch written own) (All-nil (IsStoredRecord es))));
    }

-- ---- a stream without blocks

pub empty_rows : (s : Streamed) → s.sealed ≡ [] → s.last.blocks ≡ [] → new_rows s ≡ []
empty_rows s none empty = ap (λ es. changes_of (blocks_of es)) (no_blocks s none empty)

pub empty_stored : (s : Streamed) → s.sealed ≡ [] → s.last.blocks ≡ [] → s.last.tried ≡ None → (es : List (List Block)) → AreStoredRows es s
empty_stored s none empty sure es = (each_empty (IsStoredRecord es) s none empty sure).blocks

-- an empty log and the new rows
pub kept_in_place : (blobs log rows : Streamed) → log.sealed ≡ [] → log.last.blocks ≡ [] → log.last.tried ≡ None → AreStoredRows (laid blobs) rows → rows.last.tried ≡ None
    → AreKept (record { log = log; blobs = blobs; rows = rows })
kept_in_place blobs log rows none empty sure stored whole =
    let of_log = each_empty (IsStoredRecord (laid blobs)) log none empty sure in
    record { rows = stored; whole = whole; log = of_log.blocks; doubt = of_log.doubt }

-- ---- what a checkpoint means

pub rows_mean : (s t : ThreeStreams) (rows : Streamed) (key : Key) → IsInPlace s rows t → held_of (logged t) key ≡ made_by (new_rows rows) key
rows_mean s t rows key h =
    ap (λ (r : Streamed). made_by (new_rows r ++ (logged t).log) key) h.rows
    ∙ ap (λ l. made_by (new_rows rows ++ l) key) h.log
    ∙ ap (λ l. made_by l key) (append-nil (new_rows rows))

pub rows_mean_bytes : (s t : ThreeStreams) (rows : Streamed) (key : Key) → IsInPlace s rows t
    → meaning (logged t) key ≡ part_value (content_at (laid s.blobs)) (made_by (new_rows rows) key)
rows_mean_bytes s t rows key h =
    ap (λ (b : Streamed). part_value (content_at (laid b)) (held_of (logged t) key)) h.blobs ∙ ap (part_value (content_at (laid s.blobs))) (rows_mean s t rows key h)
