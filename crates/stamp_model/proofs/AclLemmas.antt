-- What a Set Container ACL leaves, and what a Get Container ACL shows after it.
use Rattle.std.proofs.Common.{◌≡◌, ℕ, ◌+◌, false, List, [], ◌∷◌, ◌++◌, Option, Some, None, refl, sym, ap, ◌∙◌, subst, unwrap_or}
use Rattle.std.proofs.lemmas.List.{append-nil}
use Rattle.std.specs.Prelude.{IfSome, Result, Ok, Err, is_some}
use Rattle.std.specs.Option.{option_map}
use Rattle.stamp_values.specs.declared.key.Key.{Key}
use Rattle.stamp_values.specs.declared.level.Level.TheVariants as level
use Rattle.stamp_values.specs.declared.meta.Meta.{Meta}
use Rattle.stamp_values.specs.declared.op.Op.{Op}
use Rattle.stamp_values.specs.declared.op.Op.TheVariants as op
use Rattle.stamp_values.specs.declared.policy.Policy.{Policy}
use Rattle.stamp_types.specs.declared.act.Act.{Act}
use Rattle.stamp_types.specs.declared.act.Act.TheVariants as act
use Rattle.stamp_types.specs.declared.act.SetAcl.{SetAcl}
use Rattle.stamp_types.specs.declared.header.Header.{Header}
use Rattle.stamp_types.specs.declared.reply.Reply.{Reply}
use Rattle.stamp_types.specs.declared.standing.Standing.{Standing}
use Rattle.stamp_types.specs.Pieces.{held}
use Rattle.stamp_types.specs.Requests.{Asked}
use Rattle.stamp_types.specs.World.{Part, World, changed, part_at, standing_with_acl}
use Rattle.access_rules.specs.declared.keys.Keys.{Keys}
use Rattle.body_forms.specs.PolicyValues.{SaysPolicies, policies_reading}
use Rattle.body_forms.specs.WrittenPolicies.{policies_text}
use Rattle.body_forms.specs.declared.body_fault.BodyFault.{BodyFault}
use Rattle.body_forms.proofs.PolicyFaults.{says_policies}
use Rattle.body_forms.proofs.ReadAgain.{read_again}
use Rattle.stamp_types.specs.Replies.{xml_header}
use Rattle.range_rows.specs.Frames.{acl_frame, date_headers, empty_standing, level_headers}
use Rattle.range_rows.specs.SentContent.{byte_count, sizes, with_content}
use Rattle.range_rows.specs.ObjectRules.{needs_container}
use Rattle.range_rows.specs.ObjectRules.Cause.{BodyIsMalformed}
use Rattle.range_rows.specs.Readings.{is_malformed, policies_in, reading_by, reading_from, sent_policies}
use Rattle.range_rows.specs.RequestChanges.{act_by, change_of, part_after, set_acl}
use Rattle.range_rows.specs.declared.reading.Reading.TheVariants as reading
use Rattle.stamp_model.specs.Effects.{effect}
use Rattle.stamp_model.specs.Refusals.{refusal}
use Rattle.stamp_model.specs.Runs.{Timed, IsIn, world_after_one, reply_to_one}
use Rattle.stamp_model.specs.ShownAcls.{ShowsAcl}
use Rattle.stamp_model.proofs.ArgumentLemmas.{no_cause}
use Rattle.stamp_model.proofs.EffectLemmas.{related-after_act, related-effect}
use Rattle.stamp_model.proofs.ObjectLemmas.{container_needed}
use Rattle.stamp_model.proofs.ReadLemmas.{part_at-act, reply-write_in, reply-read_in}
use Rattle.stamp_model.proofs.ReplyLemmas.{reply-unrefused, unrefused}
use Rattle.stamp_model.proofs.WrittenLemmas.{some_of}

-- ---- what a Set Container ACL leaves

abbrev pub metadata_of : Option Standing → Option (List Meta)
metadata_of o = option_map (λ s. s.metadata) o

metadata_of-standing_with_acl : (n : ℕ) (a : SetAcl) (o : Option Standing) → metadata_of (option_map (standing_with_acl n a) o) ≡ metadata_of o
metadata_of-standing_with_acl n a None = refl
metadata_of-standing_with_acl n a (Some s) = refl

-- the blobs and the metadata are the same in both containers
pub record HasSameContent (p r : Part (List ℕ)) : Type 0 where
  pub blobs : r.blobs ≡ p.blobs
  pub metadata : metadata_of r.standing ≡ metadata_of p.standing

same_content : (p : Part (List ℕ)) → HasSameContent p p
same_content p = record { blobs = refl; metadata = refl }

module _ (keys : Option Keys) (w : World (List ℕ)) (q : Asked) (t : ℕ) (sets : q.ask.op ≡ op.SetAcl) where
  after_acl : (z : Part ℕ) (p : Part (List ℕ)) → HasSameContent p (part_after held (change_of z q t) p)
  after_acl z p =
      related-after_act held HasSameContent same_content q.ask.key p (act_by q.ask.op z q t)
      (subst (λ (a : Option Act). IfSome a (λ a. HasSameContent p (changed held a p))) (sym (ap (λ (o : Op). act_by o z q t) sets))
      (record { blobs = refl; metadata = metadata_of-standing_with_acl (p.count + 1) (set_acl q t) p.standing }))

  -- a Set Container ACL leaves the blobs and the metadata of each container
  pub content-acl : (k : Key) → HasSameContent (part_at w k) (part_at (effect keys w q t) k)
  content-acl = related-effect held HasSameContent same_content byte_count keys w q t after_acl

-- ---- what a Get Container ACL shows

-- a reading that is not malformed says policies
said_policies : (r : Result (List Policy) BodyFault) → is_malformed op.SetAcl (reading_from reading.Policies r) ≡ false
    → (ps : List Policy) × (r ≡ Ok ps) × (policies_in (reading_from reading.Policies r) ≡ ps)
said_policies (Ok ps) good = (ps, refl, refl)
said_policies (Err fault) good = cc

module _ (w : World (List ℕ)) (key : Key) (set : Timed)
    (sets : IsIn op.SetAcl key set.request) (none : (reply_to_one w set).rule ≡ None) where
  free : refusal set.keys (sizes (part_at w set.request.ask.key)) set.request set.moment ≡ None
  free = reply-unrefused set.keys w set.request set.moment set.bound none

  container_then : (s : Standing) × ((part_at w key).standing ≡ Some s)
  container_then =
      some_of (part_at w key).standing
      (sym (ap (λ (k : Key). is_some (part_at w k).standing) sets.container)
      ∙ container_needed (part_at w set.request.ask.key) set.request
      (unrefused set.keys (sizes (part_at w set.request.ask.key)) set.request set.moment free).unopposed
      (ap needs_container sets.op))

  well_formed : is_malformed op.SetAcl (reading_by op.SetAcl set.request.body) ≡ false
  well_formed =
      sym (ap (λ (o : Op). is_malformed o (reading_by o set.request.body)) sets.op)
      ∙ no_cause set.keys (sizes (part_at w set.request.ask.key)) set.request set.moment free BodyIsMalformed

  -- the body of an accepted Set Container ACL says policies
  policies_said : (ps : List Policy) × (policies_reading set.request.body ≡ Ok ps) × (sent_policies set.request ≡ ps)
  unfolding reading_by
  policies_said =
      let said = said_policies (policies_reading set.request.body) well_formed in
      (said.0, said.1, ap (λ (o : Op). policies_in (reading_by o set.request.body)) sets.op ∙ said.2)

  abbrev set_standing : Standing
  set_standing = standing_with_acl ((part_at w key).count + 1) (set_acl set.request set.moment) container_then.0

  standing-acl : (part_at (world_after_one w set) key).standing ≡ Some set_standing
  standing-acl =
      ap (λ (p : Part (List ℕ)). p.standing)
      (part_at-act set.keys w set.request set.moment set.bound key (act.SetAcl (set_acl set.request set.moment)) sets.container none
      (λ z. ap (λ (o : Op). act_by o z set.request set.moment) sets.op))
      ∙ ap (λ (o : Option Standing). option_map (standing_with_acl ((part_at w key).count + 1) (set_acl set.request set.moment)) o) container_then.1

  -- the reply to a Set Container ACL has the ETag and the moment of its change
  pub headers-set_acl : (reply_to_one w set).headers ≡ date_headers ((part_at w key).count + 1) set.moment
  headers-set_acl =
      ap (λ (r : Reply). r.headers) (reply-write_in set.keys w set.request set.moment set.bound none op.SetAcl key refl sets)
      ∙ ap (λ (o : Option Standing). date_headers (unwrap_or o empty_standing).etag (unwrap_or o empty_standing).made) standing-acl

  module _ (get : Timed) (gets : IsIn op.GetAcl key get.request) (unrefused : (reply_to_one (world_after_one w set) get).rule ≡ None) where
    shown : reply_to_one (world_after_one w set) get ≡ with_content (acl_frame set_standing) []
    shown =
        reply-read_in get.keys (world_after_one w set) get.request get.moment get.bound unrefused op.GetAcl key refl refl gets
        ∙ ap (λ (o : Option Standing). with_content (acl_frame (unwrap_or o empty_standing)) []) standing-acl

    body-get_acl : (reply_to_one (world_after_one w set) get).body ≡ policies_text policies_said.0
    body-get_acl =
        ap (λ (r : Reply). r.body) shown ∙ append-nil (policies_text (sent_policies set.request)) ∙ ap policies_text policies_said.2

    -- the reply to a Get Container ACL after it has the level that was set and the policies that were sent
    pub shows-get_acl : ShowsAcl set.request (reply_to_one w set) (reply_to_one (world_after_one w set) get)
    shows-get_acl = record {
      headers = ap (λ (r : Reply). r.headers) shown
          ∙ ap (λ (hs : List Header). xml_header ∷ level_headers (unwrap_or set.request.ask.args.level level.Closed) ++ hs) (sym headers-set_acl);
      policies = policies_said.0;
      sent = says_policies set.request.body policies_said.0 policies_said.1;
      body = body-get_acl;
      read = subst (λ (body : List ℕ). SaysPolicies body policies_said.0) (sym body-get_acl)
          (says_policies (policies_text policies_said.0) policies_said.0 (read_again set.request.body policies_said.0 policies_said.1));
    }
