-- Headers of a reply that the token of a request replaces (Blob service REST reference, 2013-08-15, Delegating Access with a Shared Access
-- Signature, "Specifying Query Parameters to Override Response Headers").
use Rattle.std.specs.Prelude.{◌≡◌, ℕ, Bool, true, false, ◌&&◌, if◌then◌else◌, List, [], ◌∷◌, ◌++◌, Option, None, map}
use Rattle.std.specs.Option.{option_to_list}
use Rattle.stamp_values.specs.declared.meta.Meta.{Meta}
use Rattle.stamp_values.specs.declared.op.Op.{Op}
use Rattle.stamp_values.specs.declared.op.Op.TheVariants as op
use Rattle.stamp_types.specs.declared.ask.Ask.{Ask}
use Rattle.stamp_types.specs.declared.header.Header.{Header}
use Rattle.stamp_types.specs.declared.header.Header.TheVariants as header
use Rattle.stamp_types.specs.declared.reply.Reply.{Reply}
use Rattle.stamp_types.specs.declared.sent_range.SentRange.{SentRange}
use Rattle.stamp_types.specs.PropsFields.{PropsFields}
use Rattle.sas_token.specs.Tokens.{Overridden}
use Rattle.sas_token.specs.TokenReading.{replaced_headers}
use Rattle.access_rules.specs.Rules.{on_token}
use Rattle.range_rows.specs.Frames.{date_headers, kept_lines}
use Rattle.range_rows.specs.Replaced.{Replaced, nothing_replaced}

-- the reply to the operation has the headers that are kept with a blob
abbrev pub tells_kept : Op → Bool
tells_kept op.GetBlob = true
tells_kept op.BlobProperties = true
tells_kept _ = false

-- the texts that a token overrides headers with, as those that replace headers of a blob
abbrev pub replaced_by : Overridden → Replaced
replaced_by o = record {
  cache_control = o.cache_control;
  disposition = o.disposition;
  encoding = o.encoding;
  language = o.language;
  content_type = o.content_type;
}

-- what a request replaces in its reply: on the signature route, for an operation that tells what is kept with a blob, what its token overrides;
-- else nothing
abbrev pub overrides_of : Ask → Replaced
overrides_of a = if tells_kept a.op && on_token a.credential then replaced_by (replaced_headers a.signing.query) else nothing_replaced

-- Two replies that differ in the five headers alone. Beside them both have the same status, length and body, and the same headers: Content-MD5,
-- Content-Range, the metadata, the kind of blob, the ETag and the moment.
pub record DiffersInFive (got plain : Reply) (v : Replaced) : Type 0 where
  pub status : got.status ≡ plain.status
  pub len : got.length ≡ plain.length
  pub body : got.body ≡ plain.body
  -- the headers that are kept with the blob
  pub kept : PropsFields
  -- which part of the blob it is, if it is a part
  pub part : Option SentRange
  pub metadata : List Meta
  pub etag : ℕ
  pub made : ℕ
  -- the first reply has what replaces a header, else the blob's own
  pub replaced : got.headers ≡ kept_lines v kept ++ (map header.ContentRange (option_to_list part) ++ (map header.Meta metadata ++ header.BlobType ∷ header.AcceptRanges ∷ date_headers etag made))
  -- the second reply has the blob's own headers
  pub own : plain.headers ≡ kept_lines nothing_replaced kept ++ (map header.ContentRange (option_to_list part) ++ (map header.Meta metadata ++ header.BlobType ∷ header.AcceptRanges ∷ date_headers etag made))
