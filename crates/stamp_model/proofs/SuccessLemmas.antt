-- What the success of a request says of its body, of its blob and of its status, and when a range refuses a request.
use Rattle.std.proofs.Common.{◌≡◌, ◌<◌, ◌≤◌, ℕ, Bool, true, false, not, ◌&&◌, ◌||◌, List, [], length, Option, Some, None, nat_le, refl, sym, ap, ◌∙◌, ◌+◌, ◌∷◌, ◌++◌, arith, map, subst}
use Rattle.std.proofs.lemmas.Bool.{lt-leb, le-leb}
use Rattle.std.proofs.lemmas.List.Elements.{Contains-append_left, Contains-append_right}
use Rattle.std.specs.Prelude.{find, is_some, nat_eq, Contains}
use Rattle.std.specs.Cmp.Lexicographic.{pointwise, bytes_decides}
use Rattle.std.specs.Option.{option_map, option_and_then, option_or, option_to_list}
use Rattle.md5.specs.Md5.{md5}
use Rattle.stamp_values.specs.Operations.{is_op, lists_names}
use Rattle.stamp_values.specs.declared.condition.ByteRange.{ByteRange}
use Rattle.stamp_values.specs.declared.key.Key.{Key}
use Rattle.stamp_values.specs.declared.op.Op.{Op}
use Rattle.stamp_values.specs.declared.op.Op.TheVariants as op
use Rattle.stamp_types.specs.declared.args.Kept.{Kept}
use Rattle.stamp_types.specs.declared.committed.Committed.{Committed}
use Rattle.stamp_types.specs.declared.header.Header.{Header}
use Rattle.stamp_types.specs.declared.header.Header.TheVariants as header
use Rattle.stamp_types.specs.declared.reply.Reply.{Reply}
use Rattle.stamp_types.specs.declared.standing.Standing.{Standing}
use Rattle.stamp_types.specs.PropsFields.{PropsFields, md5_or}
use Rattle.stamp_types.specs.Replies.{denied}
use Rattle.stamp_types.specs.Requests.{Asked, IsAsk}
use Rattle.stamp_types.specs.World.{Blob, Part, World, blob_in, part_at, committed_value}
use Rattle.access_rules.specs.declared.keys.Keys.{Keys}
use Rattle.access_rules.specs.Rules.{first_rule}
use Rattle.row_trees.specs.Access.{acl_of}
use Rattle.range_rows.specs.NamedBlobs.{target_blob}
use Rattle.range_rows.specs.Frames.{blob_read, date_headers, frame_by, kept_lines, line_of, ranged_frame, standing_read}
use Rattle.range_rows.specs.SentContent.{blob_content, byte_count, ranged_bytes, sizes, with_content}
use Rattle.range_rows.specs.ObjectRules.{Cause, cause_holds, cause_refusal, causes, has_other_md5, is_damaged, kept_md5, named_blob, needs_blob, object_refusal, starts_past}
use Rattle.range_rows.specs.ObjectRules.Cause.{BodyIsDamaged, RangeIsPastTheEnd}
use Rattle.range_rows.specs.RequestChanges.{put_props}
use Rattle.stamp_model.specs.Conditions.{without_content_md5}
use Rattle.stamp_model.specs.Effects.{effect}
use Rattle.stamp_model.specs.Ranges.{without_range}
use Rattle.stamp_model.specs.Refusals.{access_refusal, refusal}
use Rattle.stamp_model.specs.Responses.{answer_by, answer_of, own_answer_by, reply, response}
use Rattle.stamp_model.specs.Runs.{Timed, IsOn, reply_to_one, world_after_one}
use Rattle.stamp_model.specs.Statuses.{success_status}
use Rattle.stamp_model.proofs.ArgumentLemmas.{first_rule-with_args, free-with_args, no_cause}
use Rattle.stamp_model.proofs.ObjectLemmas.{blob_needed, left_false}
use Rattle.stamp_model.proofs.PartLemmas.{named-sized, reply-get, sizes_of_bytes}
use Rattle.stamp_model.proofs.ReadLemmas.{reply-read}
use Rattle.stamp_model.proofs.ReplyLemmas.{answer_of-rows, reply-admitted, reply-unrefused, unrefused}
use Rattle.stamp_model.proofs.WrittenLemmas.{body-get, headers-get, kept-put, some_of}
use Rattle.stamp_model.specs.Overrides.{overrides_of}
use Rattle.range_rows.specs.Replaced.{Replaced, or_own}

-- ---- the MD5 of a body

right_false : (a b : Bool) → (a || b) ≡ false → b ≡ false
right_false true b h = cc
right_false false b h = h

unnegated : (b : Bool) → not b ≡ false → b ≡ true
unnegated true h = refl
unnegated false h = cc

-- if the body does not have another MD5 than the one that is given, it has the one that is given
md5-given : (body sum : List ℕ) (given : Option (List ℕ)) → given ≡ Some sum → has_other_md5 body given ≡ false → md5 body ≡ sum
md5-given body sum given is fits =
    let same : pointwise nat_eq sum (md5 body) ≡ true = unnegated (pointwise nat_eq sum (md5 body)) (sym (ap (λ (o : Option (List ℕ)). has_other_md5 body o) is) ∙ fits) in
    sym ((bytes_decides sum (md5 body)).0 same)

module _ (keys : Option Keys) (w : World (List ℕ)) (q : Asked) (t : ℕ) (bound : Option Key) (none : (reply keys w q t bound).rule ≡ None) where
  undamaged : is_damaged q ≡ false
  undamaged = no_cause keys (sizes (part_at w q.ask.key)) q t (reply-unrefused keys w q t bound none) BodyIsDamaged

  -- the body of a request that succeeds has the MD5 that Content-MD5 says
  pub md5-content : (sum : List ℕ) → q.ask.args.content_md5 ≡ Some sum → md5 q.body ≡ sum
  md5-content sum given = md5-given q.body sum q.ask.args.content_md5 given (left_false _ _ undamaged)

  -- the body of a Put Blob that succeeds has the MD5 that x-ms-blob-content-md5 says
  pub md5-kept : (kept : Kept) (sum : List ℕ) → q.ask.op ≡ op.PutBlob → q.ask.args.kept ≡ Some kept → kept.md5 ≡ Some sum → md5 q.body ≡ sum
  md5-kept kept sum puts keeps given =
      md5-given q.body sum (kept_md5 q.ask) (ap (λ (o : Option Kept). option_and_then (λ k. k.md5) o) keeps ∙ given)
      (sym (ap (λ (o : Op). is_op op.PutBlob o && has_other_md5 q.body (kept_md5 q.ask)) puts) ∙ right_false _ _ undamaged)

-- a damaged body alone
abbrev is_damage_cause : Cause → Bool
is_damage_cause BodyIsDamaged = true
is_damage_cause other = false

damage_alone : (q : Asked) (p : Part ℕ) → cause_holds p q BodyIsDamaged ≡ true → ((c : Cause) → cause_holds p (without_content_md5 q) c ≡ false) → (c : Cause) → cause_holds p q c ≡ is_damage_cause c
damage_alone q p damaged free BodyIsDamaged = damaged
damage_alone q p damaged free other = free other

other_md5 : (b : Bool) (body sum : List ℕ) → pointwise nat_eq sum (md5 body) ≡ b → (md5 body ≡ sum → ⊥) → not b ≡ true
other_md5 true body sum same apart = absurd (apart (sym ((bytes_decides sum (md5 body)).0 same)))
other_md5 false body sum same apart = refl

-- a request that is refused for nothing else is refused if its body has another MD5 than Content-MD5 says
pub reply-damaged : (keys : Option Keys) (w : World (List ℕ)) (q : Asked) (t : ℕ) (bound : Option Key) (sum : List ℕ) → (reply keys w (without_content_md5 q) t bound).rule ≡ None
    → q.ask.args.content_md5 ≡ Some sum → (md5 q.body ≡ sum → ⊥) → reply keys w q t bound ≡ denied (cause_refusal BodyIsDamaged)
reply-damaged keys w q t bound sum none given apart =
    let p : Part ℕ = sizes (part_at w q.ask.key) in
    let free : refusal keys p (without_content_md5 q) t ≡ None = reply-unrefused keys w (without_content_md5 q) t bound none in
    let damaged : is_damaged q ≡ true =
    ap (λ (o : Option (List ℕ)). has_other_md5 q.body o || (is_op op.PutBlob q.ask.op && has_other_md5 q.body (kept_md5 q.ask))) given
    ∙ ap (λ (b : Bool). b || (is_op op.PutBlob q.ask.op && has_other_md5 q.body (kept_md5 q.ask))) (other_md5 (pointwise nat_eq sum (md5 q.body)) q.body sum refl apart) in
    let alone : (c : Cause) → cause_holds p q c ≡ is_damage_cause c = damage_alone q p damaged (no_cause keys p (without_content_md5 q) t free) in
    let refused : object_refusal p q ≡ Some (cause_refusal BodyIsDamaged) = λ i. option_map cause_refusal (find (λ c. alone c i) causes) in
    let permitted : first_rule keys (acl_of p) q.ask t ≡ None =
    first_rule-with_args keys (acl_of p) (without_content_md5 q).ask q.ask.args t refl ∙ (unrefused keys p (without_content_md5 q) t free).permitted in
    λ i. response (option_or (option_map access_refusal (permitted i)) (refused i)) (answer_of (effect keys w q t) q bound)

-- ---- the MD5 of a blob that was put

module _ (w : World (List ℕ)) (key : Key) (name : List ℕ) (put : Timed) (fits : IsAsk put.request.ask) (puts : IsOn op.PutBlob key name put.request) (none : (reply_to_one w put).rule ≡ None) where
  abbrev sum_put : List ℕ
  sum_put = md5 put.request.body

  -- the MD5 that a Put Blob keeps is the MD5 of its body
  md5-props : (kept : Kept) → put.request.ask.args.kept ≡ Some kept → (put_props put.request kept).md5 ≡ Some sum_put
  md5-props kept keeps = by_given kept.md5 refl
    where
      by_given : (given : Option (List ℕ)) → kept.md5 ≡ given → md5_or given (Some sum_put) ≡ Some sum_put
      by_given None is = refl
      by_given (Some sum) is = ap (λ (bytes : List ℕ). Some bytes) (sym (md5-kept put.keys w put.request put.moment put.bound none kept sum puts.op keeps is))

  kept_md5_line : (v : Replaced) (k : PropsFields) (sum : List ℕ) → k.md5 ≡ Some sum → Contains (kept_lines v k) (header.ContentMd5 sum)
  kept_md5_line v k sum is =
      let front : List Header = header.ContentType (or_own v.content_type k.content_type) ∷ line_of header.ContentEncoding (or_own v.encoding k.encoding) ++ line_of header.ContentLanguage (or_own v.language k.language) in
      let sums : List Header = map header.ContentMd5 (option_to_list k.md5) in
      let cache : List Header = line_of header.CacheControl (or_own v.cache_control k.cache_control) in
      Contains-append_left (front ++ sums ++ cache) (line_of header.ContentDisposition v.disposition) (header.ContentMd5 sum)
      (Contains-append_left (front ++ sums) cache (header.ContentMd5 sum)
      (Contains-append_right front sums (header.ContentMd5 sum)
      (subst (λ (o : Option (List ℕ)). Contains (map header.ContentMd5 (option_to_list o)) (header.ContentMd5 sum)) (sym is) (0, omega arith, refl))))

  -- the reply to the Get Blob that comes next has the MD5 of its own body
  pub md5-get : (get : Timed) → IsOn op.GetBlob key name get.request → get.request.ask.args.range ≡ None → (reply_to_one (world_after_one w put) get).rule ≡ None
      → Contains (reply_to_one (world_after_one w put) get).headers (header.ContentMd5 (md5 (reply_to_one (world_after_one w put) get).body))
  md5-get get gets whole free =
      let keeps = kept-put put.request key name fits puts in
      let props : PropsFields = put_props put.request keeps.0 in
      let v : Replaced = overrides_of get.request.ask in
      let metas : List Header = map header.Meta put.request.ask.args.metadata in
      let last : List Header = header.BlobType ∷ header.AcceptRanges ∷ date_headers ((part_at w key).count + 1) put.moment in
      let said : Contains (kept_lines v props ++ metas ++ last) (header.ContentMd5 sum_put) =
      Contains-append_left (kept_lines v props ++ metas) last (header.ContentMd5 sum_put)
      (Contains-append_left (kept_lines v props) metas (header.ContentMd5 sum_put) (kept_md5_line v props sum_put (md5-props keeps.0 keeps.1))) in
      subst (λ (bytes : List ℕ). Contains (reply_to_one (world_after_one w put) get).headers (header.ContentMd5 (md5 bytes))) (sym (body-get w key name keeps.0 put puts keeps.1 none get gets whole free))
      (subst (λ (hs : List Header). Contains hs (header.ContentMd5 sum_put)) (sym (headers-get w key name keeps.0 put puts keeps.1 none get gets whole free)) said)

-- ---- the status of a success

status-ranged : (v : Replaced) (range : Option ByteRange) (c : Committed ℕ) → (ranged_frame v range c).status ≡ success_status op.GetBlob range
status-ranged v None c = refl
status-ranged v (Some r) c = refl

status-frame : (o : Op) (q : Asked) (s : Standing) (c : Committed ℕ) (b : Blob ℕ) → (frame_by (overrides_of q.ask) o q s c b).status ≡ success_status o q.ask.args.range
status-frame op.CreateContainer q s c b = refl
status-frame op.DeleteContainer q s c b = refl
status-frame op.PutBlob q s c b = refl
status-frame op.GetBlob q s c b = status-ranged (overrides_of q.ask) q.ask.args.range c
status-frame op.DeleteBlob q s c b = refl
status-frame op.PutBlock q s c b = refl
status-frame op.PutBlockList q s c b = refl
status-frame other q s c b = refl

status-own : (o : Op) (p : Part (List ℕ)) (q : Asked) → q.ask.op ≡ o → (own_answer_by o p q).status ≡ success_status o q.ask.args.range
status-own op.ListBlobs p q is = refl
status-own o p q is =
    status-frame q.ask.op q (standing_read (sizes p)) (blob_read (sizes p) q.ask) (target_blob (sizes p) q.ask) ∙ ap (λ o. success_status o q.ask.args.range) is

status-answer : (o : Op) (w : World (List ℕ)) (q : Asked) (bound : Option Key) → q.ask.op ≡ o → (answer_by o w q bound).status ≡ success_status o q.ask.args.range
status-answer op.ListContainers w q bound is = refl
status-answer o w q bound is = status-own q.ask.op (part_at w q.ask.key) q refl ∙ ap (λ o. success_status o q.ask.args.range) is

-- a request that succeeds has the status of its operation
pub status-unrefused : (keys : Option Keys) (w : World (List ℕ)) (q : Asked) (t : ℕ) (bound : Option Key) → (reply keys w q t bound).rule ≡ None
    → (reply keys w q t bound).status ≡ success_status q.ask.op q.ask.args.range
status-unrefused keys w q t bound none =
    ap (λ (r : Reply). r.status) (reply-admitted keys w q t bound (reply-unrefused keys w q t bound none))
    ∙ status-answer q.ask.op (effect keys w q t) q bound refl

-- ---- the blob of a success

module _ (w : World (List ℕ)) (key : Key) (name : List ℕ) where
  -- readers saw the blob of a request that succeeds, if its operation is on a blob that they have to see
  pub seen-before : (o : Op) (r : Timed) → needs_blob o ≡ true → IsOn o key name r.request → (reply_to_one w r).rule ≡ None
      → (c : Committed (List ℕ)) × ((blob_in (part_at w key) name).committed ≡ Some c)
  seen-before o r needs on none =
      some_of (blob_in (part_at w key) name).committed
      (sym (λ i. is_some (option_and_then (λ name. (blob_in (part_at w (on.container i)) name).committed) (on.blob i)))
      ∙ blob_needed (part_at w r.request.ask.key) r.request
      (unrefused r.keys (sizes (part_at w r.request.ask.key)) r.request r.moment (reply-unrefused r.keys w r.request r.moment r.bound none)).unopposed (ap needs_blob on.op ∙ needs))

  module _ (properties get : Timed) (asks : IsOn op.BlobProperties key name properties.request) (gets : IsOn op.GetBlob key name get.request)
      (whole : get.request.ask.args.range ≡ None) (alike : overrides_of get.request.ask ≡ overrides_of properties.request.ask)
      (free : (reply_to_one w properties).rule ≡ None) (none : (reply_to_one w get).rule ≡ None) where
    -- if both replace the same headers, the reply to a Get Blob Properties is the reply to a Get Blob without a range of the same blob, without its body
    pub reply-properties : reply_to_one w get ≡ with_content (reply_to_one w properties) (reply_to_one w get).body
    reply-properties =
        let there = seen-before op.GetBlob get refl gets none in
        let sized : Committed ℕ = committed_value byte_count there.0 in
        let got : reply_to_one w get ≡ with_content (ranged_frame (overrides_of properties.request.ask) None sized) (blob_content there.0) =
        reply-read get.keys w get.request get.moment get.bound none op.GetBlob key name there.0 refl refl gets there.1
        ∙ (λ i. with_content (ranged_frame (alike i) (whole i) sized) (ranged_bytes (whole i) (blob_content there.0))) in
        let nothing : List ℕ = [] in
        let said : reply_to_one w properties ≡ with_content (ranged_frame (overrides_of properties.request.ask) None sized) nothing =
        reply-read properties.keys w properties.request properties.moment properties.bound free op.BlobProperties key name there.0 refl refl asks there.1 in
        got ∙ (λ i. with_content (sym said i) (ap (λ (r : Reply). r.body) (sym got) i))

-- ---- a range past the end

-- a range whose first byte is a byte of the blob adds no cause to refuse a request
more_causes : (q : Asked) (p : Part ℕ) → cause_holds p q RangeIsPastTheEnd ≡ false → (c : Cause) → cause_holds p (without_range q) c ≡ false → cause_holds p q c ≡ false
more_causes q p within RangeIsPastTheEnd h = within
more_causes q p within other h = h

-- the range alone
abbrev is_range_cause : Cause → Bool
is_range_cause RangeIsPastTheEnd = true
is_range_cause other = false

range_alone : (q : Asked) (p : Part ℕ) → cause_holds p q RangeIsPastTheEnd ≡ true → ((c : Cause) → cause_holds p (without_range q) c ≡ false) → (c : Cause) → cause_holds p q c ≡ is_range_cause c
range_alone q p past free RangeIsPastTheEnd = past
range_alone q p past free other = free other

module _ (keys : Option Keys) (w : World (List ℕ)) (q : Asked) (t : ℕ) (bound : Option Key) (r : ByteRange) (fits : IsAsk q.ask) (asks : q.ask.args.range ≡ Some r)
    (none : (reply keys w (without_range q) t bound).rule ≡ None) where
  abbrev own : Part ℕ
  own = sizes (part_at w q.ask.key)

  abbrev whole_body : List ℕ
  whole_body = (reply keys w (without_range q) t bound).body

  gets : q.ask.op ≡ op.GetBlob
  gets = fits.no_more.range (ap (λ (o : Option ByteRange). is_some o) asks)

  free : refusal keys own (without_range q) t ≡ None
  free = reply-unrefused keys w (without_range q) t bound none

  seen : (c : Committed (List ℕ)) × (named_blob (part_at w q.ask.key) q.ask ≡ Some c)
  seen = some_of (named_blob (part_at w q.ask.key) q.ask) (blob_needed (part_at w q.ask.key) (without_range q) (unrefused keys own (without_range q) t free).unopposed (ap needs_blob gets))

  whole-body : whole_body ≡ blob_content seen.0
  whole-body = ap (λ (x : Reply). x.body) (reply-get keys w (without_range q) t bound free gets seen.0 seen.1 None refl)

  -- whether the range comes after the end is decided by its first byte and the bytes of the other reply
  past-range : cause_holds own q RangeIsPastTheEnd ≡ nat_le (length whole_body) r.first
  past-range =
      (λ i. is_op op.GetBlob (gets i) && starts_past (named-sized keys w (without_range q) t bound free gets seen.0 seen.1 i) (asks i))
      ∙ ap (λ n. nat_le n r.first) (sizes_of_bytes seen.0.blocks)
      ∙ ap (λ (bytes : List ℕ). nat_le (length bytes) r.first) (sym whole-body)

  -- a range whose first byte is one of those bytes does not refuse the request
  pub rule-within : r.first < length whole_body → (reply keys w q t bound).rule ≡ None
  rule-within within =
      ap (λ (x : Reply). x.rule) (reply-admitted keys w q t bound
      (free-with_args keys own (without_range q) t free q.ask.args refl (more_causes q own (past-range ∙ lt-leb (length whole_body) r.first within))))
      ∙ ap (λ (x : Reply). x.rule) (answer_of-rows (effect keys w q t) q bound (ap lists_names gets))
      ∙ ap (λ (o : Op). (frame_by (overrides_of q.ask) o q (standing_read (sizes (part_at (effect keys w q t) q.ask.key))) (blob_read (sizes (part_at (effect keys w q t) q.ask.key)) q.ask) (target_blob (sizes (part_at (effect keys w q t) q.ask.key)) q.ask)).rule) gets
      ∙ ap (λ (range : Option ByteRange). (ranged_frame (overrides_of q.ask) range (blob_read (sizes (part_at (effect keys w q t) q.ask.key)) q.ask)).rule) asks

  -- a range whose first byte comes after them does
  pub reply-past : length whole_body ≤ r.first → reply keys w q t bound ≡ denied (cause_refusal RangeIsPastTheEnd)
  reply-past past =
      let alone : (c : Cause) → cause_holds own q c ≡ is_range_cause c =
      range_alone q own (past-range ∙ le-leb (length whole_body) r.first past) (no_cause keys own (without_range q) t free) in
      let refused : object_refusal own q ≡ Some (cause_refusal RangeIsPastTheEnd) = λ i. option_map cause_refusal (find (λ c. alone c i) causes) in
      let permitted : first_rule keys (acl_of own) q.ask t ≡ None =
      first_rule-with_args keys (acl_of own) (without_range q).ask q.ask.args t refl ∙ (unrefused keys own (without_range q) t free).permitted in
      λ i. response (option_or (option_map access_refusal (permitted i)) (refused i)) (answer_of (effect keys w q t) q bound)
