-- Rules of the object (Blob service REST reference, 2012-02-12, the pages of the operations, "Specifying Conditional Headers for Blob Service Operations",
-- "Specifying the Range Header for Blob Service Operations", "Status and Error Codes", "Blob Service Error Codes"; RFC 1321).
-- They are stated over a container whose content is its size: no rule depends on a byte of the content.
use Rattle.std.specs.Prelude.{ℕ, Bool, true, false, ◌&&◌, ◌||◌, not, nat_eq, nat_le, nat_lt, is_some, is_none, List, [], ◌∷◌, length, Option, Some, None, find, sum_by}
use Rattle.std.specs.FinMap.{FinMap}
use Rattle.std.specs.List.{list_any}
use Rattle.std.specs.Option.{option_map, option_map_or, option_and_then}
use Rattle.std.specs.Cmp.Lexicographic.{pointwise}
use Rattle.md5.specs.Md5.{md5}
use Rattle.stamp_values.specs.Limits.{blob_limit, entries_limit}
use Rattle.stamp_values.specs.Order.{name_cmp}
use Rattle.stamp_values.specs.Operations.{has_conditions, is_op, writes}
use Rattle.stamp_values.specs.declared.condition.ByteRange.{ByteRange}
use Rattle.stamp_values.specs.declared.condition.Condition.{Condition}
use Rattle.stamp_values.specs.declared.condition.Condition.TheVariants as condition
use Rattle.stamp_values.specs.declared.op.Op.{Op}
use Rattle.stamp_values.specs.declared.op.Op.TheVariants as op
use Rattle.stamp_types.specs.declared.code.Code.TheVariants as code
use Rattle.stamp_types.specs.declared.refusal.Refusal.{Refusal}
use Rattle.stamp_types.specs.declared.rule.Rule.{Rule}
use Rattle.stamp_types.specs.declared.rule.Rule.TheVariants as rule
use Rattle.stamp_types.specs.declared.ask.Ask.{Ask}
use Rattle.stamp_types.specs.declared.committed.Committed.{Committed}
use Rattle.stamp_types.specs.Requests.{Asked}
use Rattle.stamp_types.specs.declared.piece.Piece.{Piece}
use Rattle.stamp_types.specs.Pieces.{pieces_len}
use Rattle.stamp_types.specs.World.{Part, World, blob_in, part_at, part_value}
use Rattle.block_blobs.specs.BlockLists.{first_missing, found_entries}
use Rattle.block_blobs.specs.UncommittedBlocks.{has_other_length, is_one_too_many}
use Rattle.row_trees.specs.Fits.{count_limit}
use Rattle.row_trees.specs.ListedBlocks.{listed_size}
use Rattle.range_rows.specs.NamedBlobs.{has_listed, target_blob}
use Rattle.range_rows.specs.Readings.{tells_bad_id, is_malformed, reading_of, wanted_blocks}

-- the container that a request names, with the sizes of its content
abbrev pub sizes_named : World (List Piece) → Asked → Part ℕ
sizes_named w q = part_value pieces_len (part_at w q.ask.key)

-- the operation is on a container that has to exist
abbrev pub needs_container : Op → Bool
needs_container op.ListContainers = false
needs_container op.CreateContainer = false
needs_container _ = true

-- the operation is on a blob that readers have to see; Get Block List has a case of its own
abbrev pub needs_blob : Op → Bool
needs_blob op.GetBlob = true
needs_blob op.BlobProperties = true
needs_blob op.GetMetadata = true
needs_blob op.SetMetadata = true
needs_blob op.DeleteBlob = true
needs_blob _ = false

-- what readers see of the blob that the request names, if it names one
abbrev pub named_blob : {C : Type 0} → Part C → Ask → Option (Committed C)
named_blob p a = option_and_then (λ name. (blob_in p name).committed) a.blob

-- the request needs something of a blob that the blob does not have
abbrev pub lacks_blob : Part ℕ → Ask → Bool
lacks_blob p a = (needs_blob a.op && is_none (named_blob p a)) || (is_op op.GetBlockList a.op && not (has_listed a.args.kinds (target_blob p a)))

-- the value of x-ms-blob-content-md5
abbrev pub kept_md5 : Ask → Option (List ℕ)
kept_md5 a = option_and_then (λ k. k.md5) a.args.kept

-- an MD5 is given, and the body has another MD5
abbrev pub has_other_md5 : List ℕ → Option (List ℕ) → Bool
has_other_md5 body None = false
has_other_md5 body (Some sum) = not (pointwise nat_eq sum (md5 body))

-- the body has another MD5 than Content-MD5 says, or on Put Blob than x-ms-blob-content-md5 says
abbrev pub is_damaged : Asked → Bool
is_damaged q = has_other_md5 q.body q.ask.args.content_md5 || (is_op op.PutBlob q.ask.op && has_other_md5 q.body (kept_md5 q.ask))

-- the blob matches the condition: `*` matches each blob that readers see, an ETag matches the blob that has it
abbrev pub matches : {C : Type 0} → Option (Committed C) → Condition → Bool
matches None wanted = false
matches (Some c) condition.Any = true
matches (Some c) (condition.Count etag) = nat_eq c.etag etag
matches (Some c) condition.Never = false

-- the condition is sent, and the blob does not match it
abbrev pub misses : {C : Type 0} → Option (Committed C) → Option Condition → Bool
misses c None = false
misses c (Some wanted) = not (matches c wanted)

-- the condition is sent, and the blob matches it
abbrev pub meets : {C : Type 0} → Option (Committed C) → Option Condition → Bool
meets c None = false
meets c (Some wanted) = matches c wanted

-- If-Match is sent on an operation that takes conditions, and the blob does not match it
abbrev pub fails_if_match : Part ℕ → Ask → Bool
fails_if_match p a = has_conditions a.op && misses (named_blob p a) a.args.if_match

-- If-None-Match is sent on an operation that takes conditions, and the blob matches it
abbrev pub fails_if_none_match : Part ℕ → Ask → Bool
fails_if_none_match p a = has_conditions a.op && meets (named_blob p a) a.args.if_none_match

-- the condition is sent, and it is `*`
abbrev pub is_any : Option Condition → Bool
is_any (Some condition.Any) = true
is_any other = false

-- how many bytes the blocks of a blob have together
abbrev pub blob_size : Committed ℕ → ℕ
blob_size c = sum_by (λ b. b.content) c.blocks

-- a range is sent, and its first byte comes after the last byte of the blob
abbrev pub starts_past : Option (Committed ℕ) → Option ByteRange → Bool
starts_past c None = false
starts_past None (Some r) = false
starts_past (Some c) (Some r) = nat_le (blob_size c) r.first

-- a range is sent on Get Blob, and its first byte comes after the last byte of the blob
abbrev pub is_past_the_end : Part ℕ → Ask → Bool
is_past_the_end p a = is_op op.GetBlob a.op && starts_past (named_blob p a) a.args.range

-- the request puts a block, and this is true of the block's id and the uncommitted blocks of its blob
abbrev pub of_its_block : (List ℕ → FinMap name_cmp ℕ → Bool) → Part ℕ → Ask → Bool
of_its_block test p a = option_map_or (λ id. test id (target_blob p a).uncommitted) a.args.block false

-- how many bytes the blocks have together that the request wants and its blob has
abbrev pub wanted_size : Part ℕ → Asked → ℕ
wanted_size p q = listed_size (target_blob p q.ask) (found_entries (target_blob p q.ask) (wanted_blocks q))

-- why the object refuses a request
pub data Cause : Type 0 where
  ContainerIsAbsent : Cause
  ContainerExists : Cause
  BlobIsAbsent : Cause
  MatchFails : Cause
  IsNotModified : Cause
  BlobExists : Cause
  NoneMatchFails : Cause
  BodyIsDamaged : Cause
  BodyIsMalformed : Cause
  IdIsBad : Cause
  BlockIsMissing : Cause
  ListIsTooLong : Cause
  IdHasOtherLength : Cause
  BlocksAreFull : Cause
  ListIsTooLarge : Cause
  RangeIsPastTheEnd : Cause
  CountIsFull : Cause

-- whether a cause to refuse exists, if the container is as this part of the world says: each cause by itself
abbrev pub cause_holds : Part ℕ → Asked → Cause → Bool
cause_holds p q ContainerIsAbsent = needs_container q.ask.op && is_none p.standing
cause_holds p q ContainerExists = is_op op.CreateContainer q.ask.op && is_some p.standing
cause_holds p q BlobIsAbsent = lacks_blob p q.ask
cause_holds p q MatchFails = fails_if_match p q.ask
cause_holds p q IsNotModified = not (writes q.ask.op) && fails_if_none_match p q.ask
cause_holds p q BlobExists = writes q.ask.op && (is_any q.ask.args.if_none_match && fails_if_none_match p q.ask)
cause_holds p q NoneMatchFails = writes q.ask.op && (not (is_any q.ask.args.if_none_match) && fails_if_none_match p q.ask)
cause_holds p q BodyIsDamaged = is_damaged q
cause_holds p q BodyIsMalformed = is_malformed q.ask.op (reading_of q)
cause_holds p q IdIsBad = tells_bad_id q.ask.op (reading_of q)
cause_holds p q BlockIsMissing = is_some (first_missing (target_blob p q.ask) (wanted_blocks q))
cause_holds p q ListIsTooLong = nat_lt entries_limit (length (wanted_blocks q))
cause_holds p q IdHasOtherLength = of_its_block has_other_length p q.ask
cause_holds p q BlocksAreFull = of_its_block is_one_too_many p q.ask
cause_holds p q ListIsTooLarge = nat_lt blob_limit (wanted_size p q)
cause_holds p q RangeIsPastTheEnd = is_past_the_end p q.ask
cause_holds p q CountIsFull = writes q.ask.op && nat_le count_limit p.count

-- the causes in the order in which the first cause that exists is looked for
abbrev pub causes : List Cause
causes =
    ContainerIsAbsent ∷ ContainerExists ∷ BlobIsAbsent ∷ MatchFails ∷ IsNotModified ∷ BlobExists ∷ NoneMatchFails
    ∷ BodyIsDamaged ∷ BodyIsMalformed ∷ IdIsBad ∷ BlockIsMissing
    ∷ ListIsTooLong ∷ IdHasOtherLength ∷ BlocksAreFull ∷ ListIsTooLarge ∷ RangeIsPastTheEnd ∷ CountIsFull ∷ []

-- the refusal by a cause: its rule and its error code
abbrev pub cause_refusal : Cause → Refusal
cause_refusal ContainerIsAbsent = record { rule = rule.O1; code = code.ContainerNotFound }
cause_refusal ContainerExists = record { rule = rule.O2; code = code.ContainerAlreadyExists }
cause_refusal BlobIsAbsent = record { rule = rule.O3; code = code.BlobNotFound }
cause_refusal MatchFails = record { rule = rule.O4; code = code.ConditionNotMet }
cause_refusal IsNotModified = record { rule = rule.O4; code = code.NotModified }
cause_refusal BlobExists = record { rule = rule.O4; code = code.BlobAlreadyExists }
cause_refusal NoneMatchFails = record { rule = rule.O4; code = code.ConditionNotMet }
cause_refusal BodyIsDamaged = record { rule = rule.O5; code = code.Md5Mismatch }
cause_refusal BodyIsMalformed = record { rule = rule.O5; code = code.InvalidXmlDocument }
cause_refusal IdIsBad = record { rule = rule.O5; code = code.InvalidBlockList }
cause_refusal BlockIsMissing = record { rule = rule.O5; code = code.InvalidBlockList }
cause_refusal ListIsTooLong = record { rule = rule.O6; code = code.BlockListTooLong }
cause_refusal IdHasOtherLength = record { rule = rule.O6; code = code.InvalidBlobOrBlock }
cause_refusal BlocksAreFull = record { rule = rule.O6; code = code.BlockCountExceedsLimit }
cause_refusal ListIsTooLarge = record { rule = rule.O6; code = code.RequestBodyTooLarge }
cause_refusal RangeIsPastTheEnd = record { rule = rule.O6; code = code.InvalidRange }
cause_refusal CountIsFull = record { rule = rule.O6; code = code.InternalError }

-- the refusal by the first cause that exists
abbrev pub object_refusal : Part ℕ → Asked → Option Refusal
object_refusal p q = option_map cause_refusal (find (cause_holds p q) causes)

-- a rule of the object holds if one of its causes exists
abbrev pub object_holds : Part ℕ → Asked → Rule → Bool
object_holds p q rule.O1 = cause_holds p q ContainerIsAbsent
object_holds p q rule.O2 = cause_holds p q ContainerExists
object_holds p q rule.O3 = cause_holds p q BlobIsAbsent
object_holds p q rule.O4 = fails_if_match p q.ask || fails_if_none_match p q.ask
object_holds p q rule.O5 = list_any (cause_holds p q) (BodyIsDamaged ∷ BodyIsMalformed ∷ IdIsBad ∷ BlockIsMissing ∷ [])
object_holds p q rule.O6 =
    list_any (cause_holds p q) (ListIsTooLong ∷ IdHasOtherLength ∷ BlocksAreFull ∷ ListIsTooLarge ∷ RangeIsPastTheEnd ∷ CountIsFull ∷ [])
object_holds p q _ = false

-- the rules of the object in their order
abbrev pub object_rules : List Rule
object_rules = rule.O1 ∷ rule.O2 ∷ rule.O3 ∷ rule.O4 ∷ rule.O5 ∷ rule.O6 ∷ []
