-- How many bytes a record has at most (docs/formats/limits.md).
use Rattle.std.specs.Prelude.{◌≤◌, ℕ, length, IsTrue}
use Rattle.stamp_types.specs.Changes.{KeyedAct}
use Rattle.stamp_types.specs.Contents.{EachActContent}
use Rattle.stamp_types.specs.Pieces.{is_placed}
use Rattle.log_record.specs.Fits.{IsRecorded}
use Rattle.log_record.specs.Records.{record_bytes}

-- each content that the change brings is at places, and no piece holds its bytes
abbrev pub IsPlacedChange : KeyedAct → Type 0
IsPlacedChange c = EachActContent (λ ps. IsTrue (is_placed ps)) c.act

-- the record of a change whose content is at places fits one block of a stream: at most 16,777,216 bytes
abbrev pub PlacedRecordsFit : Type 0
PlacedRecordsFit = (v : ℕ) (c : KeyedAct) (epoch : ℕ) → IsRecorded c → IsPlacedChange c → length (record_bytes v c epoch) ≤ 16777216
