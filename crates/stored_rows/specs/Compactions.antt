-- How the calls of a sweep leave stored rows (SOSP 2011, section 5.3: garbage collection).
use Rattle.std.specs.Prelude.{◌≡◌, true}
use Rattle.stamp_values.specs.declared.key.Key.{Key}
use Rattle.partition_stream.specs.Streams.{HaveSameLimits}
use Rattle.stored_rows.specs.Ranges.{covers}
use Rattle.stored_rows.specs.States.{Stored, bytes_of}

-- each container of the range is as it was, in bytes, and extents of two or more blocks may have as many bytes as before
pub record KeepsTheRange (s t : Stored) : Type 0 where
  pub bytes : (key : Key) → covers s.range key ≡ true → bytes_of t key ≡ bytes_of s key
  pub range : t.range ≡ s.range
  pub limits : HaveSameLimits s.streams t.streams
