-- The length that a reply says, and the bytes that go out with it.
use Rattle.std.proofs.Common.{◌≡◌, ℕ, ◌+◌, ◌-◌, ◌≤◌, min, Bool, true, false, nat_lt, arith, List, [], ◌∷◌, ◌++◌, length, length-append, Option, Some, None, slice_range, refl, sym, ap, ◌∙◌, subst, unwrap_or, map}
use Rattle.std.proofs.lemmas.Bool.{ltb-true}
use Rattle.std.proofs.lemmas.List.{append-nil}
use Rattle.std.proofs.lemmas.List.Sums.{sum_by-cons}
use Rattle.std.specs.Prelude.{if◌then◌else◌, sum_by}
use Rattle.std.specs.List.{flat_map}
use Rattle.std.specs.Option.{option_map, option_map_or}
use Rattle.stamp_values.proofs.Ranges.{length-range}
use Rattle.stamp_values.specs.declared.condition.ByteRange.{ByteRange}
use Rattle.stamp_values.specs.declared.op.Op.{Op}
use Rattle.stamp_values.specs.declared.op.Op.TheVariants as op
use Rattle.stamp_types.specs.declared.committed.Block.{Block}
use Rattle.stamp_types.specs.declared.committed.Committed.{Committed}
use Rattle.stamp_types.specs.declared.reply.Reply.{Reply}
use Rattle.stamp_types.specs.declared.standing.Standing.{Standing}
use Rattle.stamp_types.specs.Requests.{Asked}
use Rattle.stamp_types.specs.World.{Blob, Part, block_value, committed_value}
use Rattle.body_forms.specs.WrittenPolicies.{policies_text}
use Rattle.range_rows.specs.NamedBlobs.{target_blob}
use Rattle.range_rows.specs.Frames.{blob_read, empty_blob, frame_by, ranged_frame, standing_read}
use Rattle.range_rows.specs.Ranges.{range_end}
use Rattle.range_rows.specs.Replaced.{Replaced}
use Rattle.range_rows.specs.SentContent.{blob_content, byte_count, bytes_by, bytes_sent, ranged_bytes, reply_of, sizes}
use Rattle.range_rows.specs.ShownBlocks.{list_text}
use Rattle.range_rows.specs.ObjectRules.{blob_size, named_blob}
use Rattle.range_rows.proofs.AnswerLemmas.{named_blob-part_value}

-- ---- sizes of content

-- the sizes of blocks make the number of bytes that the blocks have together
size_of_content : (bs : List (Block (List ℕ))) → sum_by (λ b. b.content) (map (block_value byte_count) bs) ≡ length (flat_map (λ b. b.content) bs)
size_of_content [] = refl
size_of_content (b ∷ bs) =
    sum_by-cons (λ (b : Block ℕ). b.content) (block_value byte_count b) (map (block_value byte_count) bs)
    ∙ ap (λ n. length b.content + n) (size_of_content bs)
    ∙ sym (length-append b.content (flat_map (λ b. b.content) bs))

sized_or_empty : (o : Option (Committed (List ℕ))) → unwrap_or (option_map (committed_value byte_count) o) empty_blob ≡ committed_value byte_count (unwrap_or o empty_blob)
sized_or_empty None = refl
sized_or_empty (Some c) = refl

-- the blob that a request reads, with the sizes of its content
sized_blob : (p : Part (List ℕ)) (q : Asked) → blob_read (sizes p) q.ask ≡ committed_value byte_count (blob_read p q.ask)
sized_blob p q =
    ap (λ (o : Option (Committed ℕ)). unwrap_or o empty_blob) (named_blob-part_value byte_count p q.ask)
    ∙ sized_or_empty (named_blob p q.ask)

-- ---- parts

end_by : (last size : ℕ) (b : Bool) → nat_lt last size ≡ b → (if b then last + 1 else size) ≤ size
end_by last size false is = omega arith
end_by last size true is = let less = ltb-true last size is in omega arith

end_of : (last : Option ℕ) (size : ℕ) → option_map_or (λ last. if nat_lt last size then last + 1 else size) last size ≤ size
end_of None size = omega arith
end_of (Some last) size = end_by last size (nat_lt last size) refl

from_first : (first end size : ℕ) → end ≤ size → min (end - first) (size - first) ≡ end - first
from_first first end size within = omega arith

-- a range has as many bytes as there are from its first byte to its end
length_of_range : (r : ByteRange) (bytes : List ℕ) → range_end r (length bytes) - r.first ≡ length (slice_range bytes r.first (range_end r (length bytes)))
length_of_range r bytes =
    sym (length-range bytes r.first (range_end r (length bytes))
    ∙ from_first r.first (range_end r (length bytes)) (length bytes) (end_of r.last (length bytes)))

-- ---- lengths of replies

length_of_ranged : (v : Replaced) (range : Option ByteRange) (c : Committed (List ℕ))
    → (ranged_frame v range (committed_value byte_count c)).length ≡ length ((ranged_frame v range (committed_value byte_count c)).body ++ ranged_bytes range (blob_content c))
length_of_ranged v None c = size_of_content c.blocks
length_of_ranged v (Some r) c = ap (λ n. range_end r n - r.first) (size_of_content c.blocks) ∙ length_of_range r (blob_content c)

length_by_op : (v : Replaced) (o : Op) (q : Asked) (s : Standing) (c : Committed (List ℕ)) (b : Blob ℕ) → (o ≡ op.BlobProperties → ⊥)
    → (frame_by v o q s (committed_value byte_count c) b).length ≡ length ((frame_by v o q s (committed_value byte_count c) b).body ++ bytes_by o q.ask.args.range c)
length_by_op v op.GetBlob q s c b other = length_of_ranged v q.ask.args.range c
length_by_op v op.GetBlockList q s c b other = ap (λ (bytes : List ℕ). length bytes) (sym (append-nil (list_text q.ask.args.kinds b)))
length_by_op v op.GetAcl q s c b other = ap (λ (bytes : List ℕ). length bytes) (sym (append-nil (policies_text s.acl.policies)))
length_by_op v op.BlobProperties q s c b other = absurd (other refl)
length_by_op v other q s c b apart = refl

module _ (v : Replaced) (p : Part (List ℕ)) (q : Asked) where
  abbrev framed : Op → Committed ℕ → Reply
  framed o c = frame_by v o q (standing_read (sizes p)) c (target_blob (sizes p) q.ask)

  -- the length is the number of bytes of the body
  pub length_of_body : (q.ask.op ≡ op.BlobProperties → ⊥) → (reply_of v p q).length ≡ length (reply_of v p q).body
  length_of_body other =
      subst (λ (c : Committed ℕ). (framed q.ask.op c).length ≡ length ((framed q.ask.op c).body ++ bytes_sent p q)) (sym (sized_blob p q))
      (length_by_op v q.ask.op q (standing_read (sizes p)) (blob_read p q.ask) (target_blob (sizes p) q.ask) other)

  -- on Get Blob Properties the length is the number of bytes of the blob
  pub length_of_blob : q.ask.op ≡ op.BlobProperties → (reply_of v p q).length ≡ length (blob_content (blob_read p q.ask))
  length_of_blob is =
      ap (λ (o : Op). (framed o (blob_read (sizes p) q.ask)).length) is
      ∙ ap (λ (c : Committed ℕ). blob_size c) (sized_blob p q)
      ∙ size_of_content (blob_read p q.ask).blocks
