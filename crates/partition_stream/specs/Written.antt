-- Records that were written, in either version (docs/formats/records.md).
use Rattle.std.specs.Prelude.{◌≡◌, ℕ, true, length}
use Rattle.extent_node.specs.Copies.{Block}
use Rattle.stamp_types.specs.Changes.{KeyedAct}
use Rattle.log_record.specs.Fits.{FitsEpoch, IsRecorded}
use Rattle.log_record.specs.Records.{is_version, record_bytes}
use Rattle.partition_stream.specs.Changes.{Recorded}

-- what a record is written of: a change and its epoch, and the version in which it is written
pub record Written : Type 0 where
  pub version : ℕ
  pub change : KeyedAct
  pub epoch : ℕ

-- the version is one that is read, and the change and the epoch can be written in it
pub record IsWritten (w : Written) : Type 0 where
  pub known : is_version w.version ≡ true
  pub fits : IsRecorded w.change
  pub epoch : FitsEpoch w.version w.epoch

-- the bytes of the record
abbrev pub written_bytes : Written → Block
written_bytes w = record_bytes w.version w.change w.epoch

-- the change and the epoch that the record says
abbrev pub said_of : Written → Recorded
said_of w = (w.change, w.epoch)

-- how many bytes the record of a change and of its epoch has, in the version that is written
abbrev pub written_len : Recorded → ℕ
written_len c = length (record_bytes 2 c.0 c.1)
