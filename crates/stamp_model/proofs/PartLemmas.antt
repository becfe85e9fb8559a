-- The bytes of a range are part of the bytes of the blob.
use Rattle.std.proofs.Common.{◌≡◌, ◌<◌, ◌≤◌, ℕ, ◌+◌, ◌-◌, min, Bool, true, false, ◌&&◌, ◌||◌, List, [], ◌∷◌, ◌++◌, drop, is_none, length, map, Option, Some, None, IfSome, arith, nat_le, nat_lt, refl, sym, ap, ◌∙◌, subst, unwrap_or, if◌then◌else◌}
use Rattle.std.proofs.lemmas.Bool.{leb-false, ltb-false, ltb-true}
use Rattle.std.proofs.lemmas.List.{append-nil, length-append, length-drop, length-take-le}
use Rattle.std.proofs.lemmas.List.Elements.{Contains-append_left, Contains-append_right, filter-append}
use Rattle.std.proofs.lemmas.List.Folds.{list_any-append}
use Rattle.std.proofs.lemmas.List.Sums.{sum_by-cons}
use Rattle.std.specs.Prelude.{Contains, is_some, sum_by}
use Rattle.std.specs.List.{filter, flat_map, list_any, slice_range}
use Rattle.std.specs.Option.{option_map, option_map_or, option_to_list}
use Rattle.stamp_values.specs.Operations.{is_op, lists_names, writes}
use Rattle.stamp_values.specs.declared.condition.ByteRange.{ByteRange}
use Rattle.stamp_values.specs.declared.key.Key.{Key}
use Rattle.stamp_values.specs.declared.meta.Meta.{Meta}
use Rattle.stamp_values.specs.declared.op.Op.TheVariants as op
use Rattle.stamp_types.specs.declared.committed.Block.{Block}
use Rattle.stamp_types.specs.declared.committed.Committed.{Committed}
use Rattle.stamp_types.specs.declared.header.Header.{Header}
use Rattle.stamp_types.specs.declared.header.Header.TheVariants as header
use Rattle.stamp_types.specs.declared.reply.Reply.{Reply}
use Rattle.stamp_types.specs.declared.sent_range.SentRange.{SentRange}
use Rattle.stamp_types.specs.PropsFields.{PropsFields}
use Rattle.stamp_types.specs.Requests.{Asked, IsAsk}
use Rattle.stamp_types.specs.World.{Part, World, block_value, committed_value, part_at}
use Rattle.access_rules.specs.declared.keys.Keys.{Keys}
use Rattle.range_rows.specs.Frames.{date_headers, empty_blob, frame_by, get_frame, kept_lines, line_of, part_frame, part_headers, ranged_frame, read_headers, standing_read, without_md5}
use Rattle.range_rows.specs.Ranges.{range_end, sent_range}
use Rattle.range_rows.specs.SentContent.{blob_content, byte_count, bytes_by, ranged_bytes, sizes, with_content}
use Rattle.range_rows.specs.NamedBlobs.{target_blob}
use Rattle.range_rows.specs.ObjectRules.{Cause, blob_size, cause_holds, named_blob, needs_blob, starts_past}
use Rattle.range_rows.specs.ObjectRules.Cause.{BlobIsAbsent, RangeIsPastTheEnd}
use Rattle.range_rows.proofs.AnswerLemmas.{named_blob-part_value}
use Rattle.stamp_model.specs.Ranges.{IsPartOf, is_md5, is_of_both, without_range}
use Rattle.stamp_model.specs.Effects.{effect}
use Rattle.stamp_model.specs.Refusals.{refusal}
use Rattle.stamp_model.specs.Responses.{reply, rows_answer}
use Rattle.stamp_model.proofs.ObjectLemmas.{left_false}
use Rattle.stamp_model.proofs.ArgumentLemmas.{free-with_args, no_cause}
use Rattle.stamp_model.proofs.ReadLemmas.{effect-read}
use Rattle.stamp_model.proofs.ReplyLemmas.{answer_of-rows, reply-admitted, reply-unrefused}
use Rattle.stamp_model.specs.Overrides.{overrides_of}
use Rattle.range_rows.specs.Replaced.{Replaced, or_own}

-- ---- the end of a range

-- a range that begins at this byte ends before this byte, in a blob of this size
record IsEnd (size first : ℕ) (last : Option ℕ) (end : ℕ) : Type 0 where
  pub some : first < end
  pub within : end ≤ size
  pub asked : IfSome last (λ asked. end - 1 ≡ min asked (size - 1))
  pub all : last ≡ None → end ≡ size

end_by : (size first last : ℕ) (b : Bool) → nat_lt last size ≡ b → first < size → first ≤ last → IsEnd size first (Some last) (if b then last + 1 else size)
end_by size first last true is start order =
    let less = ltb-true last size is in
    record { some = omega arith; within = omega arith; asked = omega arith; all = λ none. cc }
end_by size first last false is start order =
    let most = ltb-false last size is in
    record { some = omega arith; within = omega arith; asked = omega arith; all = λ none. cc }

end_of : (size first : ℕ) (last : Option ℕ) → first < size → IfSome last (λ last. first ≤ last) → IsEnd size first last (option_map_or (λ last. if nat_lt last size then last + 1 else size) last size)
end_of size first None start order = record { some = start; within = omega arith; asked = tt; all = λ none. refl }
end_of size first (Some last) start order = end_by size first last (nat_lt last size) refl start order

-- ---- the bytes of a part

-- the sizes of blocks make the number of bytes that the blocks have together
pub sizes_of_bytes : (bs : List (Block (List ℕ))) → sum_by (λ b. b.content) (map (block_value byte_count) bs) ≡ length (flat_map (λ b. b.content) bs)
sizes_of_bytes [] = refl
sizes_of_bytes (b ∷ bs) =
    sum_by-cons (λ (b : Block ℕ). b.content) (block_value byte_count b) (map (block_value byte_count) bs)
    ∙ ap (λ n. length b.content + n) (sizes_of_bytes bs)
    ∙ sym (length-append b.content (flat_map (λ b. b.content) bs))

length-slice : (bytes : List ℕ) (from end : ℕ) → end ≤ length bytes → length (slice_range bytes from end) ≡ end - from
length-slice bytes from end within =
    let left = length-drop from bytes in
    length-take-le (end - from) (drop from bytes) (omega (arith, left))

-- Content-Range is among the headers of a part
range_said : (v : Replaced) (sent : SentRange) (c : Committed ℕ) → Contains (part_headers v sent c) (header.ContentRange sent)
range_said v sent c =
    Contains-append_left (kept_lines v (without_md5 c.props) ++ header.ContentRange sent ∷ map header.Meta c.metadata) (header.BlobType ∷ header.AcceptRanges ∷ date_headers c.etag c.made) (header.ContentRange sent)
    (Contains-append_right (kept_lines v (without_md5 c.props)) (header.ContentRange sent ∷ map header.Meta c.metadata) (header.ContentRange sent) (0, omega arith, refl))

-- ---- a part has no Content-MD5

no_md5_line : (make : List ℕ → Header) → ((text : List ℕ) → is_md5 (make text) ≡ false) → (text : List ℕ) → list_any is_md5 (line_of make text) ≡ false
no_md5_line make none [] = refl
no_md5_line make none (b ∷ bs) = ap (λ (x : Bool). x || false) (none (b ∷ bs))

no_md5_metadata : (metadata : List Meta) → list_any is_md5 (map header.Meta metadata) ≡ false
no_md5_metadata [] = refl
no_md5_metadata (m ∷ ms) = no_md5_metadata ms

no_md5_both : (xs ys : List Header) → list_any is_md5 xs ≡ false → list_any is_md5 ys ≡ false → list_any is_md5 (xs ++ ys) ≡ false
no_md5_both xs ys first second = list_any-append is_md5 xs ys ∙ (λ i. first i || second i)

no_md5_kept : (v : Replaced) (k : PropsFields) → list_any is_md5 (kept_lines v (without_md5 k)) ≡ false
no_md5_kept v k =
    let type : List Header = header.ContentType (or_own v.content_type k.content_type) ∷ line_of header.ContentEncoding (or_own v.encoding k.encoding) in
    let language : List Header = line_of header.ContentLanguage (or_own v.language k.language) in
    let cache : List Header = line_of header.CacheControl (or_own v.cache_control k.cache_control) in
    no_md5_both (type ++ language ++ [] ++ cache) (line_of header.ContentDisposition v.disposition)
    (no_md5_both (type ++ language ++ []) cache
    (no_md5_both (type ++ language) []
    (no_md5_both type language (no_md5_line header.ContentEncoding (λ text. refl) (or_own v.encoding k.encoding)) (no_md5_line header.ContentLanguage (λ text. refl) (or_own v.language k.language))) refl)
    (no_md5_line header.CacheControl (λ text. refl) (or_own v.cache_control k.cache_control)))
    (no_md5_line header.ContentDisposition (λ text. refl) v.disposition)

no_md5_part : (v : Replaced) (sent : SentRange) (c : Committed ℕ) → list_any is_md5 (part_headers v sent c) ≡ false
no_md5_part v sent c =
    no_md5_both (kept_lines v (without_md5 c.props) ++ header.ContentRange sent ∷ map header.Meta c.metadata) (header.BlobType ∷ header.AcceptRanges ∷ date_headers c.etag c.made)
    (no_md5_both (kept_lines v (without_md5 c.props)) (header.ContentRange sent ∷ map header.Meta c.metadata) (no_md5_kept v c.props) (no_md5_metadata c.metadata)) refl

-- ---- the other headers of a part

md5_apart : (front : List Header) (sum : Option (List ℕ)) → filter is_of_both (front ++ map header.ContentMd5 (option_to_list sum)) ≡ filter is_of_both front
md5_apart front None = ap (λ (hs : List Header). filter is_of_both hs) (append-nil front)
md5_apart front (Some sum) = filter-append is_of_both front (header.ContentMd5 sum ∷ []) ∙ append-nil (filter is_of_both front)

same_kept_lines : (v : Replaced) (k : PropsFields) → filter is_of_both (kept_lines v (without_md5 k)) ≡ filter is_of_both (kept_lines v k)
same_kept_lines v k =
    let front : List Header = header.ContentType (or_own v.content_type k.content_type) ∷ line_of header.ContentEncoding (or_own v.encoding k.encoding) ++ line_of header.ContentLanguage (or_own v.language k.language) in
    let cache : List Header = line_of header.CacheControl (or_own v.cache_control k.cache_control) in
    let shown : List Header = line_of header.ContentDisposition v.disposition in
    let each : (sum : Option (List ℕ)) → filter is_of_both (front ++ map header.ContentMd5 (option_to_list sum) ++ cache ++ shown) ≡ filter is_of_both front ++ filter is_of_both cache ++ filter is_of_both shown =
    λ sum. filter-append is_of_both (front ++ map header.ContentMd5 (option_to_list sum) ++ cache) shown
    ∙ ap (λ (hs : List Header). hs ++ filter is_of_both shown)
    (filter-append is_of_both (front ++ map header.ContentMd5 (option_to_list sum)) cache ∙ ap (λ (hs : List Header). hs ++ filter is_of_both cache) (md5_apart front sum)) in
    each None ∙ sym (each k.md5)

-- beside Content-MD5 and Content-Range, a part has the headers of the whole
same_headers : (v : Replaced) (sent : SentRange) (c : Committed ℕ) → filter is_of_both (part_headers v sent c) ≡ filter is_of_both (read_headers v c)
same_headers v sent c =
    let metas : List Header = map header.Meta c.metadata in
    let last : List Header = header.BlobType ∷ header.AcceptRanges ∷ date_headers c.etag c.made in
    filter-append is_of_both (kept_lines v (without_md5 c.props) ++ header.ContentRange sent ∷ metas) last
    ∙ ap (λ (hs : List Header). hs ++ filter is_of_both last)
    (filter-append is_of_both (kept_lines v (without_md5 c.props)) (header.ContentRange sent ∷ metas)
    ∙ ap (λ (hs : List Header). hs ++ filter is_of_both metas) (same_kept_lines v c.props)
    ∙ sym (filter-append is_of_both (kept_lines v c.props) metas))
    ∙ sym (filter-append is_of_both (kept_lines v c.props ++ metas) last)

module _ (v : Replaced) (r : ByteRange) (d : Committed (List ℕ)) (start : r.first < length (blob_content d)) (order : IfSome r.last (λ last. r.first ≤ last)) where
  abbrev bytes : List ℕ
  bytes = blob_content d

  abbrev end : ℕ
  end = range_end r (length bytes)

  abbrev sized : Committed ℕ
  sized = committed_value byte_count d

  is_end : IsEnd (length bytes) r.first r.last end
  is_end = end_of (length bytes) r.first r.last start order

  last_byte : end - 1 + 1 ≡ end
  last_byte = let some = is_end.some in omega arith

  is_part : IsPartOf r (with_content (part_frame v r sized) (ranged_bytes (Some r) bytes)) (with_content (get_frame v sized) bytes)
  is_part =
      let some : r.first < end = is_end.some in
      let within : end ≤ length bytes = is_end.within in
      record {
        accepted = refl;
        whole_status = refl;
        part_status = refl;
        sent = sent_range r (length bytes);
        first = refl;
        last = is_end.asked;
        last_of_all = λ none. last_byte ∙ is_end.all none;
        total = refl;
        order = omega arith;
        within = subst (λ n. n ≤ length bytes) (sym last_byte) within;
        body = ap (λ n. slice_range bytes r.first n) (sym last_byte);
        said = subst (λ n. Contains (part_headers v (sent_range r n) sized) (header.ContentRange (sent_range r (length bytes)))) (sym (sizes_of_bytes d.blocks)) (range_said v (sent_range r (length bytes)) sized);
        no_md5 = no_md5_part v (sent_range r (blob_size sized)) sized;
        counted = ap (λ n. range_end r n - r.first) (sizes_of_bytes d.blocks) ∙ sym (length-slice bytes r.first end within);
      }

-- ---- the reply to a Get Blob

module _ (keys : Option Keys) (w : World (List ℕ)) (q : Asked) (t : ℕ) (bound : Option Key) (free : refusal keys (sizes (part_at w q.ask.key)) q t ≡ None)
    (gets : q.ask.op ≡ op.GetBlob) (d : Committed (List ℕ)) (there : named_blob (part_at w q.ask.key) q.ask ≡ Some d) where
  -- what readers see of the blob, with the sizes of its content
  pub named-sized : named_blob (sizes (part_at w q.ask.key)) q.ask ≡ Some (committed_value byte_count d)
  named-sized = named_blob-part_value byte_count (part_at w q.ask.key) q.ask ∙ ap (option_map (committed_value byte_count)) there

  -- the reply to a Get Blob, by its range
  pub reply-get : (range : Option ByteRange) → q.ask.args.range ≡ range → reply keys w q t bound ≡ with_content (ranged_frame (overrides_of q.ask) range (committed_value byte_count d)) (ranged_bytes range (blob_content d))
  reply-get range asks =
      reply-admitted keys w q t bound free
      ∙ answer_of-rows (effect keys w q t) q bound (ap lists_names gets)
      ∙ ap (λ (v : World (List ℕ)). rows_answer (part_at v q.ask.key) q) (effect-read keys w q t (ap writes gets))
      ∙ (λ i. with_content (frame_by (overrides_of q.ask) (gets i) q (standing_read (sizes (part_at w q.ask.key))) (unwrap_or (named-sized i) empty_blob) (target_blob (sizes (part_at w q.ask.key)) q.ask)) (bytes_by (gets i) q.ask.args.range (unwrap_or (there i) empty_blob)))
      ∙ ap (λ (range : Option ByteRange). with_content (ranged_frame (overrides_of q.ask) range (committed_value byte_count d)) (ranged_bytes range (blob_content d))) asks

  -- the first byte of the range is a byte of the blob
  starts_within : (r : ByteRange) → q.ask.args.range ≡ Some r → r.first < length (blob_content d)
  starts_within r asks =
      let unpast : nat_le (blob_size (committed_value byte_count d)) r.first ≡ false =
      sym (λ i. is_op op.GetBlob (gets i) && starts_past (named-sized i) (asks i)) ∙ no_cause keys (sizes (part_at w q.ask.key)) q t free RangeIsPastTheEnd in
      subst (λ n. r.first < n) (sizes_of_bytes d.blocks) (leb-false (blob_size (committed_value byte_count d)) r.first unpast)

-- ---- a part and the whole

and_false : (b : Bool) → (b && false) ≡ false
and_false true = refl
and_false false = refl

seen : {C D : Type 0} (f : C → D) (o : Option (Committed C)) → is_none (option_map (committed_value f) o) ≡ false → (c : Committed C) × (o ≡ Some c)
seen f None h = cc
seen f (Some c) h = (c, refl)

-- to take the range away adds no cause to refuse a request
fewer_causes : (q : Asked) (p : Part ℕ) (c : Cause) → cause_holds p q c ≡ false → cause_holds p (without_range q) c ≡ false
fewer_causes q p RangeIsPastTheEnd h = and_false (is_op op.GetBlob q.ask.op)
fewer_causes q p other h = h

module _ (keys : Option Keys) (w : World (List ℕ)) (q : Asked) (t : ℕ) (bound : Option Key) (r : ByteRange) (fits : IsAsk q.ask) (asks : q.ask.args.range ≡ Some r)
    (none : (reply keys w q t bound).rule ≡ None) where
  free : refusal keys (sizes (part_at w q.ask.key)) q t ≡ None
  free = reply-unrefused keys w q t bound none

  gets : q.ask.op ≡ op.GetBlob
  gets = fits.no_more.range (ap (λ (o : Option ByteRange). is_some o) asks)

  named : (c : Committed (List ℕ)) × (named_blob (part_at w q.ask.key) q.ask ≡ Some c)
  named =
      seen byte_count (named_blob (part_at w q.ask.key) q.ask)
      (sym (λ i. needs_blob (gets i) && is_none (named_blob-part_value byte_count (part_at w q.ask.key) q.ask i)) ∙ left_false _ _ (no_cause keys (sizes (part_at w q.ask.key)) q t free BlobIsAbsent))

  free-whole : refusal keys (sizes (part_at w q.ask.key)) (without_range q) t ≡ None
  free-whole = free-with_args keys (sizes (part_at w q.ask.key)) q t free (without_range q).ask.args refl (fewer_causes q (sizes (part_at w q.ask.key)))

  -- what is answered with the range is part of what is answered without it
  pub part-of_whole : IsPartOf r (reply keys w q t bound) (reply keys w (without_range q) t bound)
  part-of_whole =
      subst (λ (x : Reply). IsPartOf r x (reply keys w (without_range q) t bound)) (sym (reply-get keys w q t bound free gets named.0 named.1 (Some r) asks))
      (subst (λ (x : Reply). IsPartOf r (with_content (part_frame (overrides_of q.ask) r (committed_value byte_count named.0)) (ranged_bytes (Some r) (blob_content named.0))) x)
      (sym (reply-get keys w (without_range q) t bound free-whole gets named.0 named.1 None refl))
      (is_part (overrides_of q.ask) r named.0 (starts_within keys w q t bound free gets named.0 named.1 r asks) (subst (λ (o : Option ByteRange). IfSome o (λ r. IfSome r.last (λ last. r.first ≤ last))) asks fits.no_more.range_order)))

  -- what is answered with the range has the other headers of what is answered without it
  pub headers-of_both : filter is_of_both (reply keys w q t bound).headers ≡ filter is_of_both (reply keys w (without_range q) t bound).headers
  headers-of_both =
      let sized : Committed ℕ = committed_value byte_count named.0 in
      ap (λ (x : Reply). filter is_of_both x.headers) (reply-get keys w q t bound free gets named.0 named.1 (Some r) asks)
      ∙ same_headers (overrides_of q.ask) (sent_range r (blob_size sized)) sized
      ∙ sym (ap (λ (x : Reply). filter is_of_both x.headers) (reply-get keys w (without_range q) t bound free-whole gets named.0 named.1 None refl))
