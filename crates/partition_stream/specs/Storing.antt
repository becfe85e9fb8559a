-- What is true of the streams of every partition (SOSP 2011, section 5).
use Rattle.std.specs.Prelude.{◌≡◌, ◌<◌, ◌^◌, ℕ, List, None, All, IfSome}
use Rattle.extent_node.specs.Copies.{Block}
use Rattle.stamp_types.specs.Changes.{KeyedAct}
use Rattle.stamp_types.specs.Contents.{EachActContent}
use Rattle.stream_manager.specs.Places.{blocks_of}
use Rattle.stream_manager.specs.Streams.{laid}
use Rattle.log_record.specs.Fits.{IsRecorded}
use Rattle.log_record.specs.Records.{IsRecordOf}
use Rattle.partition_stream.specs.Contents.{AreStored}
use Rattle.partition_stream.specs.Streams.{ThreeStreams}

-- each content that the change brings is stored in this data
abbrev pub IsStoredChange : List (List Block) → KeyedAct → Type 0
IsStoredChange es c = EachActContent (AreStored es) c.act

-- the block is a record of a change with its epoch
pub record IsRecord (block : Block) : Type 0 where
  pub change : KeyedAct
  pub epoch : ℕ
  pub fits : IsRecorded change
  pub within : epoch < 2 ^ 64
  pub bytes : IsRecordOf block change epoch

-- the block is a record of a change with its epoch, and the change's contents are stored in this data
pub record IsStoredRecord (es : List (List Block)) (block : Block) : Type 0 where
  pub change : KeyedAct
  pub epoch : ℕ
  pub fits : IsRecorded change
  pub within : epoch < 2 ^ 64
  pub bytes : IsRecordOf block change epoch
  pub stored : IsStoredChange es change

-- each block of the rows and of the log is such a record, and so is the block that is in doubt in the log; the rows have no doubt
pub record AreKept (s : ThreeStreams) : Type 0 where
  pub rows : All (IsStoredRecord (laid s.blobs)) (blocks_of (laid s.rows))
  pub whole : s.rows.last.tried ≡ None
  pub log : All (IsStoredRecord (laid s.blobs)) (blocks_of (laid s.log))
  pub doubt : IfSome s.log.last.tried (IsStoredRecord (laid s.blobs))
