-- Streams of which one had an extent repaired: their blocks and their doubts are as they were.
use Rattle.std.proofs.Common.{◌≡◌, ◌∙◌, All, IfSome, ap, sym, subst}
use Rattle.std.specs.Option.{option_and_then}
use Rattle.stream_manager.specs.Places.{blocks_of}
use Rattle.stream_manager.specs.Streams.{laid}
use Rattle.partition_stream.specs.Changes.{change_in, changes_of}
use Rattle.partition_stream.specs.Storing.{AreKept, IsStoredRecord}
use Rattle.partition_stream.specs.Streams.{HaveSameBlocks, ThreeStreams, logged}

-- they keep what they kept
pub kept_repaired : (s t : ThreeStreams) → AreKept s → HaveSameBlocks s t → t.log.last ≡ s.log.last → t.rows.last ≡ s.rows.last → AreKept t
kept_repaired s t kept same log rows = record {
  rows = subst (λ es. All (IsStoredRecord es) (blocks_of (laid t.rows))) (sym same.blobs) (subst (λ es. All (IsStoredRecord (laid s.blobs)) (blocks_of es)) (sym same.rows) kept.rows);
  whole = ap (λ last. last.tried) rows ∙ kept.whole;
  log = subst (λ es. All (IsStoredRecord es) (blocks_of (laid t.log))) (sym same.blobs) (subst (λ es. All (IsStoredRecord (laid s.blobs)) (blocks_of es)) (sym same.log) kept.log);
  doubt = subst (λ es. IfSome t.log.last.tried (IsStoredRecord es)) (sym same.blobs) (subst (λ last. IfSome last.tried (IsStoredRecord (laid s.blobs))) (sym log) kept.doubt);
}

-- they mean what they meant
pub logged_repaired : (s t : ThreeStreams) → HaveSameBlocks s t → t.log.last ≡ s.log.last → logged t ≡ logged s
logged_repaired s t same log = λ i. record {
  rows = changes_of (blocks_of (same.rows i));
  log = changes_of (blocks_of (same.log i));
  doubt = option_and_then change_in (log i).tried;
  blobs = same.blobs i;
}
