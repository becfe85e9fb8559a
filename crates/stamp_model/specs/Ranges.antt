-- Part of a blob as a reply (Blob service REST reference, 2012-02-12, "Get Blob", "Specifying the Range Header for Blob Service
-- Operations"; RFC 9110, sections 14.4 and 15.3.7).
use Rattle.std.specs.Prelude.{◌≡◌, ◌≤◌, ◌+◌, ◌-◌, min, Bool, true, false, None, IfSome, Contains, length, slice_range}
use Rattle.std.specs.List.{list_any}
use Rattle.stamp_values.specs.declared.condition.ByteRange.{ByteRange}
use Rattle.stamp_types.specs.declared.header.Header.{Header}
use Rattle.stamp_types.specs.declared.header.Header.TheVariants.{ContentMd5, ContentRange}
use Rattle.stamp_types.specs.declared.reply.Reply.{Reply}
use Rattle.stamp_types.specs.declared.sent_range.SentRange.{SentRange}
use Rattle.stamp_types.specs.declared.status.Status.TheVariants.{Partial, Success}
use Rattle.stamp_types.specs.Requests.{Asked}

-- the same request without a range; what was signed stays as it was
abbrev pub without_range : Asked → Asked
without_range q = record q { ask = record q.ask { args = record q.ask.args { range = None } } }

-- the header is Content-MD5
abbrev pub is_md5 : Header → Bool
is_md5 (ContentMd5 sum) = true
is_md5 _ = false

-- the header may be the same in a part and in the whole: it is neither Content-MD5 nor Content-Range
abbrev pub is_of_both : Header → Bool
is_of_both (ContentMd5 sum) = false
is_of_both (ContentRange sent) = false
is_of_both _ = true

-- one reply has the bytes of another reply from a first byte to a last byte, and says which bytes they are
pub record IsPartOf (range : ByteRange) (part whole : Reply) : Type 0 where
  -- the other reply refuses nothing
  pub accepted : whole.rule ≡ None
  -- the other reply has status 200
  pub whole_status : whole.status ≡ Success
  -- the reply has status 206
  pub part_status : part.status ≡ Partial
  -- the first byte, the last byte, and how many bytes there are in all
  pub sent : SentRange
  -- the first byte is the first byte that the range asks for
  pub first : sent.first ≡ range.first
  -- the last byte is the last byte that the range asks for, or the last byte of all if that comes before it
  pub last : IfSome range.last (λ asked. sent.last ≡ min asked (length whole.body - 1))
  -- if the range names no last byte, the last byte is the last byte of all
  pub last_of_all : range.last ≡ None → sent.last + 1 ≡ length whole.body
  -- the number of all bytes is the number of bytes of the other reply
  pub total : sent.total ≡ length whole.body
  -- the reply has one byte at least
  pub order : sent.first ≤ sent.last
  -- the other reply has the last byte
  pub within : sent.last + 1 ≤ length whole.body
  -- the bytes are the bytes of the other reply from the first byte to the last byte
  pub body : part.body ≡ slice_range whole.body sent.first (sent.last + 1)
  -- Content-Range says the first byte, the last byte and how many bytes there are in all
  pub said : Contains part.headers (ContentRange sent)
  -- the reply has no Content-MD5, since the MD5 that is kept with a blob is the MD5 of all its bytes
  pub no_md5 : list_any is_md5 part.headers ≡ false
  -- the length that the reply says is the number of its bytes
  pub counted : part.length ≡ length part.body
