-- Header lines of replies (RFC 9112, section 5; RFC 9110, sections 8.3 to 8.8, 14.3 and 14.4; RFC 1864; Blob service REST reference, 2012-02-12, Get Blob, Get Container ACL, Get Block List).
use Rattle.std.specs.Prelude.{ℕ, List, [], ◌++◌, codes, decimal}
use Rattle.base64_text.specs.Base64.{base64_of}
use Rattle.moment_text.specs.Http.{http_text}
use Rattle.stamp_types.specs.Etags.{etag_text}
use Rattle.stamp_types.specs.declared.header.Header.{Header}
use Rattle.stamp_types.specs.declared.header.Header.TheVariants.{ContentType, ContentEncoding, ContentLanguage, ContentMd5, CacheControl, ContentDisposition, ContentRange, Meta, BlobType, AcceptRanges, PublicAccess, BlobLength, Etag, LastModified}
use Rattle.stamp_types.specs.declared.sent_range.SentRange.{SentRange}
use Rattle.stamp_values.specs.declared.level.Level.{Level}
use Rattle.stamp_values.specs.declared.level.Level.TheVariants.{Closed, Blob, Container}

-- a line: the name, a colon and a space, the value, CR LF
unfoldable pub line : List ℕ → List ℕ → List ℕ
line name value = name ++ codes ": " ++ value ++ codes "\r\n"

-- the line of a level of public access: a closed container has no line
abbrev pub level_line : Level → List ℕ
level_line Closed = []
level_line Blob = line (codes "x-ms-blob-public-access") (codes "blob")
level_line Container = line (codes "x-ms-blob-public-access") (codes "container")

-- a part of a blob: the part's first byte, its last byte, and how many bytes the blob has
abbrev pub sent_range_text : SentRange → List ℕ
sent_range_text range = codes "bytes " ++ decimal range.first ++ codes "-" ++ decimal range.last ++ codes "/" ++ decimal range.total

-- the line of a header
abbrev pub reply_line : Header → List ℕ
reply_line (ContentType value) = line (codes "Content-Type") value
reply_line (ContentEncoding value) = line (codes "Content-Encoding") value
reply_line (ContentLanguage value) = line (codes "Content-Language") value
reply_line (ContentMd5 sum) = line (codes "Content-MD5") (base64_of sum)
reply_line (CacheControl value) = line (codes "Cache-Control") value
reply_line (ContentDisposition value) = line (codes "Content-Disposition") value
reply_line (ContentRange range) = line (codes "Content-Range") (sent_range_text range)
reply_line (Meta meta) = line (codes "x-ms-meta-" ++ meta.name) meta.value
reply_line BlobType = line (codes "x-ms-blob-type") (codes "BlockBlob")
reply_line AcceptRanges = line (codes "Accept-Ranges") (codes "bytes")
reply_line (PublicAccess level) = level_line level
reply_line (BlobLength length) = line (codes "x-ms-blob-content-length") (decimal length)
reply_line (Etag count) = line (codes "ETag") (etag_text count)
reply_line (LastModified moment) = line (codes "Last-Modified") (http_text moment)
