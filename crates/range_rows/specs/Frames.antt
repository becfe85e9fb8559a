-- Frames of replies to allowed requests (Blob service REST reference, 2012-02-12, the page of each operation; RFC 9110, sections 8.8, 14.4 and 15.3).
-- A frame is the reply without the content that goes out with it. It follows from the sizes of content.
use Rattle.std.specs.Prelude.{ℕ, ◌-◌, List, [], ◌∷◌, ◌++◌, Option, Some, None, map, unwrap_or}
use Rattle.std.specs.Option.{option_to_list}
use Rattle.md5.specs.Md5.{md5}
use Rattle.stamp_values.specs.Acls.{closed_acl}
use Rattle.stamp_values.specs.declared.block.BlockKinds.{BlockKinds}
use Rattle.stamp_values.specs.declared.condition.ByteRange.{ByteRange}
use Rattle.stamp_values.specs.declared.level.Level.{Level}
use Rattle.stamp_values.specs.declared.level.Level.TheVariants as level
use Rattle.stamp_values.specs.declared.meta.Meta.{Meta}
use Rattle.stamp_values.specs.declared.op.Op.{Op}
use Rattle.stamp_values.specs.declared.op.Op.TheVariants as op
use Rattle.stamp_types.specs.declared.ask.Ask.{Ask}
use Rattle.stamp_types.specs.declared.committed.Committed.{Committed}
use Rattle.stamp_types.specs.declared.header.Header.{Header}
use Rattle.stamp_types.specs.declared.header.Header.TheVariants as header
use Rattle.stamp_types.specs.declared.reply.Reply.{Reply}
use Rattle.stamp_types.specs.declared.sent_range.SentRange.{SentRange}
use Rattle.stamp_types.specs.declared.standing.Standing.{Standing}
use Rattle.stamp_types.specs.declared.status.Status.{Status}
use Rattle.stamp_types.specs.declared.status.Status.TheVariants as status
use Rattle.stamp_types.specs.PropsFields.{PropsFields}
use Rattle.stamp_types.specs.Replies.{text_reply, xml_header}
use Rattle.stamp_types.specs.Requests.{Asked}
use Rattle.stamp_types.specs.World.{Blob, Part, no_blob}
use Rattle.body_forms.specs.WrittenPolicies.{policies_text}
use Rattle.range_rows.specs.declared.frames.KeptHeader.{KeptHeader}
use Rattle.range_rows.specs.declared.frames.KeptHeader.TheVariants as kept
use Rattle.range_rows.specs.NamedBlobs.{target_blob}
use Rattle.range_rows.specs.ObjectRules.{blob_size, named_blob}
use Rattle.range_rows.specs.Ranges.{range_end, sent_range}
use Rattle.range_rows.specs.Replaced.{Replaced, nothing_replaced, or_own}
use Rattle.range_rows.specs.ShownBlocks.{list_text}

-- a header of a text, which has no line if the text is empty
abbrev pub line_of : (List ℕ → Header) → List ℕ → List Header
line_of make [] = []
line_of make (b ∷ bs) = make (b ∷ bs) ∷ []

-- the header of a text that is kept with a blob, and that the request may replace
abbrev pub header_of : KeptHeader → List ℕ → Header
header_of kept.Encoding = header.ContentEncoding
header_of kept.Language = header.ContentLanguage
header_of kept.CacheControl = header.CacheControl

-- which change wrote last, and when
abbrev pub date_headers : ℕ → ℕ → List Header
date_headers etag made = header.Etag etag ∷ header.LastModified made ∷ []

-- the kept headers of a blob, of which the request may replace some; a blob keeps no Content-Disposition, so only a request gives it
abbrev pub kept_lines : Replaced → PropsFields → List Header
kept_lines v k =
    header.ContentType (or_own v.content_type k.content_type) ∷ line_of header.ContentEncoding (or_own v.encoding k.encoding)
    ++ line_of header.ContentLanguage (or_own v.language k.language) ++ map header.ContentMd5 (option_to_list k.md5)
    ++ line_of header.CacheControl (or_own v.cache_control k.cache_control) ++ line_of header.ContentDisposition v.disposition

-- the same kept headers, and no MD5
abbrev pub without_md5 : PropsFields → PropsFields
without_md5 k = record k { md5 = None }

-- metadata by name, which change wrote last, and when
abbrev pub metadata_headers : List Meta → ℕ → ℕ → List Header
metadata_headers metas etag made = map header.Meta metas ++ date_headers etag made

-- the headers of a blob that is read, or whose properties are read
abbrev pub read_headers : {C : Type 0} → Replaced → Committed C → List Header
read_headers v c = kept_lines v c.props ++ map header.Meta c.metadata ++ header.BlobType ∷ header.AcceptRanges ∷ date_headers c.etag c.made

-- the headers of a part of a blob: no MD5, since the MD5 is that of all bytes, and which part it is
abbrev pub part_headers : {C : Type 0} → Replaced → SentRange → Committed C → List Header
part_headers v sent c =
    kept_lines v (without_md5 c.props) ++ header.ContentRange sent ∷ map header.Meta c.metadata
    ++ header.BlobType ∷ header.AcceptRanges ∷ date_headers c.etag c.made

-- a reply that refuses nothing, with an empty body
abbrev pub success_reply : Status → List Header → ℕ → Reply
success_reply s headers length = record { status = s; code = None; rule = None; headers = headers; length = length; body = [] }

-- the reply to Put Blob and to Put Block List, from the MD5 of what came, and from the ETag and the moment that the blob has then
abbrev pub put_reply : List ℕ → ℕ → ℕ → Reply
put_reply sum etag made = success_reply status.Created (header.ContentMd5 sum ∷ date_headers etag made) 0

-- the reply to Put Block, from the MD5 of what came: readers see no change, so it says no ETag and no moment
abbrev pub block_reply : List ℕ → Reply
block_reply sum = success_reply status.Created (header.ContentMd5 sum ∷ []) 0

-- the size of a committed part, which change wrote it, and when, if the blob has one
abbrev pub committed_headers : Option (Committed ℕ) → List Header
committed_headers None = []
committed_headers (Some c) = header.BlobLength (blob_size c) ∷ date_headers c.etag c.made

-- the reply to Get Block List
abbrev pub list_frame : Option BlockKinds → Blob ℕ → Reply
list_frame k b = text_reply (xml_header ∷ committed_headers b.committed) (list_text k b)

-- the level of a container; nothing if the container is closed
abbrev pub level_headers : Level → List Header
level_headers level.Closed = []
level_headers other = header.PublicAccess other ∷ []

-- the reply to Get Container ACL: the level in a header, and the stored policies
abbrev pub acl_frame : Standing → Reply
acl_frame s = text_reply (xml_header ∷ level_headers s.acl.level ++ date_headers s.etag s.made) (policies_text s.acl.policies)

-- the frame of the reply to Get Blob without a range, and to Get Blob Properties: its length is the length of all blocks together
abbrev pub get_frame : Replaced → Committed ℕ → Reply
get_frame v c = success_reply status.Success (read_headers v c) (blob_size c)

-- the frame of the reply to Get Blob with a range: its length is the length of the part
abbrev pub part_frame : Replaced → ByteRange → Committed ℕ → Reply
part_frame v r c = success_reply status.Partial (part_headers v (sent_range r (blob_size c)) c) (range_end r (blob_size c) - r.first)

-- the frame of the reply to Get Blob, with the range or without one
abbrev pub ranged_frame : Replaced → Option ByteRange → Committed ℕ → Reply
ranged_frame v None c = get_frame v c
ranged_frame v (Some r) c = part_frame v r c

-- A container and a blob without anything. They take the part of what does not exist in the reply to a request that no rule
-- refuses. If its operation lists no names, no request is answered in this way: what a request answers from is made by its
-- change, or a rule refuses the request without it.
abbrev pub empty_standing : Standing
empty_standing = record { etag = 0; made = 0; acl = closed_acl; metadata = [] }

abbrev pub empty_blob : {C : Type 0} → Committed C
empty_blob = record {
  etag = 0;
  made = 0;
  props = record { content_type = []; encoding = []; language = []; cache_control = []; md5 = None };
  metadata = [];
  blocks = [];
}

-- what a container has beside its blobs, or else the container without anything
abbrev pub standing_read : {C : Type 0} → Part C → Standing
standing_read p = unwrap_or p.standing empty_standing

-- what readers see of the blob that a request names, or else the blob without anything
abbrev pub blob_read : {C : Type 0} → Part C → Ask → Committed C
blob_read p a = unwrap_or (named_blob p a) empty_blob

-- the frame of the reply to an operation, if the request replaces these headers, this is what the container has beside its blobs, this is
-- what readers see of the blob, and this is the whole blob, after the operation. A list of names is not answered in this way (list_pages has the replies to the two lists)
abbrev pub frame_by : Replaced → Op → Asked → Standing → Committed ℕ → Blob ℕ → Reply
frame_by v op.CreateContainer q s c b = success_reply status.Created (date_headers s.etag s.made) 0
frame_by v op.ContainerProperties q s c b = success_reply status.Success (metadata_headers s.metadata s.etag s.made) 0
frame_by v op.SetContainerMetadata q s c b = success_reply status.Success (date_headers s.etag s.made) 0
frame_by v op.GetAcl q s c b = acl_frame s
frame_by v op.SetAcl q s c b = success_reply status.Success (date_headers s.etag s.made) 0
frame_by v op.DeleteContainer q s c b = success_reply status.Accepted [] 0
frame_by v op.PutBlob q s c b = put_reply (md5 q.body) c.etag c.made
frame_by v op.GetBlob q s c b = ranged_frame v q.ask.args.range c
frame_by v op.BlobProperties q s c b = get_frame v c
frame_by v op.GetMetadata q s c b = success_reply status.Success (metadata_headers c.metadata c.etag c.made) 0
frame_by v op.SetMetadata q s c b = success_reply status.Success (date_headers c.etag c.made) 0
frame_by v op.DeleteBlob q s c b = success_reply status.Accepted [] 0
frame_by v op.PutBlock q s c b = block_reply (md5 q.body)
frame_by v op.PutBlockList q s c b = put_reply (md5 q.body) c.etag c.made
frame_by v op.GetBlockList q s c b = list_frame q.ask.args.kinds b
frame_by v _ q s c b = success_reply status.Success [] 0

-- the frame of the reply to an allowed request that replaces these headers, from the container after the request's change
abbrev pub frame : Replaced → Part ℕ → Asked → Reply
frame v p q = frame_by v q.ask.op q (standing_read p) (blob_read p q.ask) (target_blob p q.ask)

-- the frame of the reply to an allowed request that writes, from the number and the moment of its change
abbrev pub write_frame : Asked → ℕ → ℕ → Reply
write_frame q n t = frame_by nothing_replaced q.ask.op q (record empty_standing { etag = n; made = t }) (record empty_blob { etag = n; made = t }) no_blob
