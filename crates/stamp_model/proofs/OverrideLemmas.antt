-- What a token overrides in a reply.
use Rattle.std.proofs.Common.{◌≡◌, ◌⊎◌, inl, inr, ℕ, Bool, true, false, ◌&&◌, cond, if◌then◌else◌, List, [], ◌∷◌, ◌++◌, map, Option, Some, None, append_assoc, codes, refl, sym, ap, ◌∙◌, subst, unwrap_or}
use Rattle.std.proofs.lemmas.List.{append-nil}
use Rattle.std.specs.Option.{option_map_or, option_to_list}
use Rattle.stamp_values.specs.Fields.{first_value}
use Rattle.stamp_values.specs.declared.condition.ByteRange.{ByteRange}
use Rattle.stamp_values.specs.declared.key.Key.{Key}
use Rattle.stamp_values.specs.declared.op.Op.{Op}
use Rattle.stamp_values.specs.declared.op.Op.TheVariants as op
use Rattle.stamp_values.specs.declared.signing.Credential.{Credential}
use Rattle.stamp_values.specs.declared.signing.Credential.TheVariants as credential
use Rattle.stamp_values.specs.declared.signing.Field.{Field}
use Rattle.stamp_types.specs.declared.ask.Ask.{Ask}
use Rattle.stamp_types.specs.declared.committed.Committed.{Committed}
use Rattle.stamp_types.specs.declared.header.Header.{Header}
use Rattle.stamp_types.specs.declared.header.Header.TheVariants as header
use Rattle.stamp_types.specs.declared.reply.Reply.{Reply}
use Rattle.stamp_types.specs.World.{World, committed_value}
use Rattle.sas_token.specs.TokenReading.{replaced_headers, token_of}
use Rattle.sas_token.specs.Tokens.{IsToken, Overridden, Sent, has_overrides, newer_version, no_overrides, overrides_for, overrides_in, served_version, text_under}
use Rattle.sas_token.proofs.ReadingLemmas.{token_sound}
use Rattle.access_rules.specs.Rules.{on_token}
use Rattle.range_rows.specs.Frames.{date_headers, kept_lines, ranged_frame, without_md5}
use Rattle.range_rows.specs.ObjectRules.{blob_size}
use Rattle.range_rows.specs.Ranges.{sent_range}
use Rattle.range_rows.specs.Replaced.{Replaced, nothing_replaced}
use Rattle.range_rows.specs.SentContent.{blob_content, byte_count, ranged_bytes, with_content}
use Rattle.stamp_model.specs.Overrides.{DiffersInFive, overrides_of, replaced_by, tells_kept}
use Rattle.stamp_model.specs.Runs.{Timed, IsOn, reply_to_one}
use Rattle.stamp_model.proofs.ReadLemmas.{reply-read}
use Rattle.stamp_model.proofs.SuccessLemmas.{seen-before}

-- ---- what a request overrides

either_nothing : (b : Bool) → (if b then nothing_replaced else nothing_replaced) ≡ nothing_replaced
either_nothing true = refl
either_nothing false = refl

-- a request whose query replaces no header overrides nothing
if_none : (a : Ask) → replaced_headers a.signing.query ≡ no_overrides → overrides_of a ≡ nothing_replaced
if_none a none = ap (λ (o : Overridden). if tells_kept a.op && on_token a.credential then replaced_by o else nothing_replaced) none ∙ either_nothing (tells_kept a.op && on_token a.credential)

-- a token of the first version overrides nothing
pub first-overrides_of : (a : Ask) (t : Sent) → token_of a.signing.query ≡ Some t → t.version ≡ served_version → overrides_of a ≡ nothing_replaced
first-overrides_of a t is first =
    let token : IsToken a.signing.query t = token_sound a.signing.query t is in
    if_none a
    (ap (λ (o : Option Sent). option_map_or (λ t. t.overrides) o no_overrides) is ∙ token.overrides ∙ ap (overrides_for a.signing.query) first)

either_none : (b : Bool) (o : Overridden) → o ≡ no_overrides → cond b o no_overrides ≡ no_overrides
either_none true o none = none
either_none false o none = refl

-- a query without the five parameters overrides nothing
pub without-overrides_of : (a : Ask) → first_value a.signing.query (codes "rscc") ≡ None → first_value a.signing.query (codes "rscd") ≡ None → first_value a.signing.query (codes "rsce") ≡ None
    → first_value a.signing.query (codes "rscl") ≡ None → first_value a.signing.query (codes "rsct") ≡ None → overrides_of a ≡ nothing_replaced
without-overrides_of a cache disposition encoding language type = if_none a (by (token_of a.signing.query) refl)
  where
    none_sent : overrides_in a.signing.query ≡ no_overrides
    none_sent = λ i. record {
      cache_control = unwrap_or (cache i) [];
      disposition = unwrap_or (disposition i) [];
      encoding = unwrap_or (encoding i) [];
      language = unwrap_or (language i) [];
      content_type = unwrap_or (type i) [];
    }

    by : (o : Option Sent) → token_of a.signing.query ≡ o → option_map_or (λ t. t.overrides) o no_overrides ≡ no_overrides
    by None is = refl
    by (Some t) is = (token_sound a.signing.query t is).overrides ∙ either_none (has_overrides t.version) (overrides_in a.signing.query) none_sent

no_token : (c : Credential) → (c ≡ credential.Token → ⊥) → on_token c ≡ false
no_token (credential.Shared values) other = refl
no_token credential.Token other = absurd (other refl)
no_token credential.Anonymous other = refl

and_none : (b : Bool) → (b && false) ≡ false
and_none true = refl
and_none false = refl

-- a request of another route overrides nothing
pub route-overrides_of : (a : Ask) → (a.credential ≡ credential.Token → ⊥) → overrides_of a ≡ nothing_replaced
route-overrides_of a other =
    ap (λ (b : Bool). if b then replaced_by (replaced_headers a.signing.query) else nothing_replaced)
    (ap (λ (b : Bool). tells_kept a.op && b) (no_token a.credential other) ∙ and_none (tells_kept a.op))

tells_none : (o : Op) → (o ≡ op.GetBlob → ⊥) → (o ≡ op.BlobProperties → ⊥) → tells_kept o ≡ false
tells_none op.GetBlob get properties = absurd (get refl)
tells_none op.BlobProperties get properties = absurd (properties refl)
tells_none other get properties = refl

-- a request of another operation overrides nothing
pub operation-overrides_of : (a : Ask) → (a.op ≡ op.GetBlob → ⊥) → (a.op ≡ op.BlobProperties → ⊥) → overrides_of a ≡ nothing_replaced
operation-overrides_of a get properties =
    ap (λ (b : Bool). if b && on_token a.credential then replaced_by (replaced_headers a.signing.query) else nothing_replaced) (tells_none a.op get properties)

tells_one : (o : Op) → (o ≡ op.GetBlob) ⊎ (o ≡ op.BlobProperties) → tells_kept o ≡ true
tells_one o (inl is) = ap tells_kept is
tells_one o (inr is) = ap tells_kept is

-- a request with a token overrides what its token says
pub token-overrides_of : (a : Ask) (t : Sent) → (a.op ≡ op.GetBlob) ⊎ (a.op ≡ op.BlobProperties) → a.credential ≡ credential.Token → token_of a.signing.query ≡ Some t
    → overrides_of a ≡ replaced_by t.overrides
token-overrides_of a t reads by_token is =
    (λ i. if tells_one a.op reads i && on_token (by_token i) then replaced_by (replaced_headers a.signing.query) else nothing_replaced)
    ∙ ap (λ (o : Option Sent). replaced_by (option_map_or (λ t. t.overrides) o no_overrides)) is

-- ---- the headers of a reply

module _ (c : Committed ℕ) where
  abbrev last_lines : List Header
  last_lines = map header.Meta c.metadata ++ header.BlobType ∷ header.AcceptRanges ∷ date_headers c.etag c.made

  -- two replies about one blob that differ in what is replaced
  pub differs : (v : Replaced) (range : Option ByteRange) (bytes : List ℕ) → DiffersInFive (with_content (ranged_frame v range c) bytes) (with_content (ranged_frame nothing_replaced range c) bytes) v
  differs v None bytes = record {
    status = refl;
    len = refl;
    body = refl;
    kept = c.props;
    part = None;
    metadata = c.metadata;
    etag = c.etag;
    made = c.made;
    replaced = append_assoc (kept_lines v c.props) (map header.Meta c.metadata) (header.BlobType ∷ header.AcceptRanges ∷ date_headers c.etag c.made);
    own = append_assoc (kept_lines nothing_replaced c.props) (map header.Meta c.metadata) (header.BlobType ∷ header.AcceptRanges ∷ date_headers c.etag c.made);
  }
  differs v (Some r) bytes = record {
    status = refl;
    len = refl;
    body = refl;
    kept = without_md5 c.props;
    part = Some (sent_range r (blob_size c));
    metadata = c.metadata;
    etag = c.etag;
    made = c.made;
    replaced = append_assoc (kept_lines v (without_md5 c.props)) (header.ContentRange (sent_range r (blob_size c)) ∷ map header.Meta c.metadata) (header.BlobType ∷ header.AcceptRanges ∷ date_headers c.etag c.made);
    own = append_assoc (kept_lines nothing_replaced (without_md5 c.props)) (header.ContentRange (sent_range r (blob_size c)) ∷ map header.Meta c.metadata) (header.BlobType ∷ header.AcceptRanges ∷ date_headers c.etag c.made);
  }

-- two values of an option are one value
same_value : {X : Type 0} (o : Option X) (x y : X) → o ≡ Some x → o ≡ Some y → x ≡ y
same_value o x y e f = cc

module _ (w : World (List ℕ)) (key : Key) (name : List ℕ) (get plain : Timed)
    (own : overrides_of plain.request.ask ≡ nothing_replaced) (none : (reply_to_one w get).rule ≡ None) (free : (reply_to_one w plain).rule ≡ None) where
  -- two Get Blobs of one blob
  pub differs-get : IsOn op.GetBlob key name get.request → IsOn op.GetBlob key name plain.request → get.request.ask.args.range ≡ plain.request.ask.args.range
      → DiffersInFive (reply_to_one w get) (reply_to_one w plain) (overrides_of get.request.ask)
  differs-get gets reads alike =
      let there = seen-before w key name op.GetBlob get refl gets none in
      let sized : Committed ℕ = committed_value byte_count there.0 in
      let v : Replaced = overrides_of get.request.ask in
      let got : reply_to_one w get ≡ with_content (ranged_frame v plain.request.ask.args.range sized) (ranged_bytes plain.request.ask.args.range (blob_content there.0)) =
      reply-read get.keys w get.request get.moment get.bound none op.GetBlob key name there.0 refl refl gets there.1
      ∙ ap (λ (range : Option ByteRange). with_content (ranged_frame v range sized) (ranged_bytes range (blob_content there.0))) alike in
      let read : reply_to_one w plain ≡ with_content (ranged_frame nothing_replaced plain.request.ask.args.range sized) (ranged_bytes plain.request.ask.args.range (blob_content there.0)) =
      reply-read plain.keys w plain.request plain.moment plain.bound free op.GetBlob key name there.0 refl refl reads there.1
      ∙ ap (λ (v : Replaced). with_content (ranged_frame v plain.request.ask.args.range sized) (ranged_bytes plain.request.ask.args.range (blob_content there.0))) own in
      subst (λ (x : Reply). DiffersInFive x (reply_to_one w plain) v) (sym got)
      (subst (λ (x : Reply). DiffersInFive (with_content (ranged_frame v plain.request.ask.args.range sized) (ranged_bytes plain.request.ask.args.range (blob_content there.0))) x v) (sym read)
      (differs sized v plain.request.ask.args.range (ranged_bytes plain.request.ask.args.range (blob_content there.0))))

  -- two Get Blob Properties of one blob
  pub differs-properties : IsOn op.BlobProperties key name get.request → IsOn op.BlobProperties key name plain.request
      → DiffersInFive (reply_to_one w get) (reply_to_one w plain) (overrides_of get.request.ask)
  differs-properties gets reads =
      let there = seen-before w key name op.BlobProperties get refl gets none in
      let sized : Committed ℕ = committed_value byte_count there.0 in
      let v : Replaced = overrides_of get.request.ask in
      let nothing : List ℕ = [] in
      let got : reply_to_one w get ≡ with_content (ranged_frame v None sized) nothing =
      reply-read get.keys w get.request get.moment get.bound none op.BlobProperties key name there.0 refl refl gets there.1 in
      let read : reply_to_one w plain ≡ with_content (ranged_frame nothing_replaced None sized) nothing =
      reply-read plain.keys w plain.request plain.moment plain.bound free op.BlobProperties key name there.0 refl refl reads there.1
      ∙ ap (λ (v : Replaced). with_content (ranged_frame v None sized) nothing) own in
      subst (λ (x : Reply). DiffersInFive x (reply_to_one w plain) v) (sym got)
      (subst (λ (x : Reply). DiffersInFive (with_content (ranged_frame v None sized) nothing) x v) (sym read) (differs sized v None nothing))
