-- What a reply tells a caller whom permission refuses.
use Rattle.std.proofs.Common.{◌≡◌, ℕ, Bool, true, false, cond, not, ◌&&◌, List, [], ◌∷◌, Option, Some, None, Result, Ok, Err, refl, sym, ap, ◌∙◌, is_none, is_some}
use Rattle.std.proofs.lemmas.Bool.{and_parts}
use Rattle.std.specs.Prelude.{find, nat_le, nat_lt}
use Rattle.std.specs.List.{list_all}
use Rattle.std.specs.Option.{option_map, option_or}
use Rattle.stamp_values.specs.Levels.{level_number}
use Rattle.stamp_values.specs.declared.acl.Acl.{Acl}
use Rattle.stamp_values.specs.declared.key.Key.{Key}
use Rattle.stamp_values.specs.declared.level.Level.{Level}
use Rattle.stamp_values.specs.declared.signing.Credential.{Credential}
use Rattle.stamp_values.specs.declared.signing.Credential.TheVariants.{Shared, Token, Anonymous}
use Rattle.stamp_types.specs.declared.ask.Ask.{Ask}
use Rattle.stamp_types.specs.declared.refusal.Refusal.{Refusal}
use Rattle.stamp_types.specs.declared.rule.Rule.{Rule}
use Rattle.stamp_types.specs.declared.rule.Rule.TheVariants.{P1, P2, S2, S3, S4, S5, S6, S7, S8, S9, S10, S11}
use Rattle.stamp_types.specs.Replies.{denied}
use Rattle.stamp_types.specs.Requests.{Asked}
use Rattle.stamp_types.specs.World.{Part, World, part_at}
use Rattle.sas_token.specs.Tokens.{Sent}
use Rattle.sas_token.specs.declared.token.Resource.{Resource}
use Rattle.sas_token.specs.declared.token.Resource.TheVariants.{Container, Blob}
use Rattle.container_acl.specs.JoinedFields.{acl_or_closed, fields_with}
use Rattle.container_acl.specs.declared.fields.Fields.{Fields}
use Rattle.container_acl.specs.declared.fields.FieldFault.{FieldFault}
use Rattle.container_acl.specs.declared.fields.FieldFault.TheVariants.{Absent, Both, Lacks}
use Rattle.access_rules.specs.declared.keys.Keys.{Keys}
use Rattle.access_rules.specs.declared.needs.Letter.{Letter}
use Rattle.access_rules.specs.Needs.{need_of}
use Rattle.access_rules.specs.Parts.{is_signed, keys_for}
use Rattle.access_rules.specs.Routes.{Admits}
use Rattle.access_rules.specs.Rules.{access_rules, allows_less, first_rule, holds, on_public, some_passes}
use Rattle.access_rules.specs.TokenParts.{allows, is_named, names_resource, text_of, token_in}
use Rattle.access_rules.specs.TokenRoute.{rule_after_signature, rule_of_given, token_rule}
use Rattle.access_rules.proofs.RouteLaw.{asking, by_route}
use Rattle.access_rules.proofs.TokenLemmas.{first_token_rule}
use Rattle.row_trees.specs.Access.{acl_of}
use Rattle.range_rows.specs.SentContent.{sizes}
use Rattle.range_rows.specs.ObjectRules.{object_holds, object_refusal, object_rules}
use Rattle.stamp_model.specs.Effects.{effect}
use Rattle.stamp_model.specs.Refusals.{access_refusal, is_object_rule, sees_no_container}
use Rattle.stamp_model.specs.Responses.{answer_of, reply, response}
use Rattle.stamp_model.proofs.CountLemmas.{found_passes}
use Rattle.stamp_model.proofs.ReplyLemmas.{rule-reply}
use Rattle.stamp_model.proofs.RuleLemmas.{object_rule-first}

unmarked_if : (b : Bool) → not b ≡ true → b ≡ false
unmarked_if true h = cc
unmarked_if false h = refl

module _ {X : Type 0} (test mark : X → Bool) where
  by_test : (b : Bool) (y x : X) (o : Option X) → mark y ≡ false → (o ≡ Some x → mark x ≡ false) → cond b (Some y) o ≡ Some x → mark x ≡ false
  by_test true y x o unmarked more found = let same : y ≡ x = cc in ap mark (sym same) ∙ unmarked
  by_test false y x o unmarked more found = more found

  -- if no element of a list has a mark, what is found in the list has no mark
  pub found-unmarked : (xs : List X) (x : X) → list_all (λ y. not (mark y)) xs ≡ true → find test xs ≡ Some x → mark x ≡ false
  found-unmarked [] x all found = cc
  found-unmarked (y ∷ ys) x all found =
      let both = and_parts (not (mark y)) (list_all (λ y. not (mark y)) ys) all in
      by_test (test y) y x (find test ys) (unmarked_if (mark y) both.0) (found-unmarked ys x both.1) found

-- ---- the rule of a refusal that permission does not give

module _ (mark : Rule → Bool) (none : list_all (λ r. not (mark r)) object_rules ≡ true) (p : Part ℕ) (q : Asked) where
  -- the refusal is none of permission, so its rule has no mark
  pub lower-unmarked : (r : Refusal) → object_refusal p q ≡ Some r → mark r.rule ≡ false
  lower-unmarked r is = found-unmarked (object_holds p q) mark object_rules r.rule none (sym (object_rule-first p q) ∙ ap (option_map (λ (s : Refusal). s.rule)) is)

-- ---- what permission looks at

-- the rules after the signature of a token look at the container, or at what only an admitted signature is asked
by_four : (a b c d : Bool) (r : Rule) → cond a (Some S8) (cond b (Some S9) (cond c (Some S10) (cond d (Some S11) None))) ≡ Some r → sees_no_container r ≡ false
by_four true b c d r h = let same : S8 ≡ r = cc in ap sees_no_container (sym same)
by_four false true c d r h = let same : S9 ≡ r = cc in ap sees_no_container (sym same)
by_four false false true d r h = let same : S10 ≡ r = cc in ap sees_no_container (sym same)
by_four false false false true r h = let same : S11 ≡ r = cc in ap sees_no_container (sym same)
by_four false false false false r h = cc

after_signature : (letter : Option Letter) (t : ℕ) (given : Result Fields FieldFault) (r : Rule) → rule_of_given letter t given ≡ Some r → sees_no_container r ≡ false
after_signature letter t (Err Absent) r h = let same : S5 ≡ r = cc in ap sees_no_container (sym same)
after_signature letter t (Err Both) r h = let same : S6 ≡ r = cc in ap sees_no_container (sym same)
after_signature letter t (Err Lacks) r h = let same : S7 ≡ r = cc in ap sees_no_container (sym same)
after_signature letter t (Ok f) r h =
    by_four (some_passes (nat_lt t) f.start) (nat_le f.expiry t) (is_none letter) (some_passes (λ l. not (allows l f.letters)) letter) r h

by_three : (a b c : Bool) (rest other : Option Rule) (r : Rule) → sees_no_container r ≡ true → (rest ≡ Some r → sees_no_container r ≡ false)
    → cond a (Some S2) (cond b (Some S3) (cond c (Some S4) rest)) ≡ Some r → cond a (Some S2) (cond b (Some S3) (cond c (Some S4) other)) ≡ Some r
by_three true b c rest other r blind seen h = h
by_three false true c rest other r blind seen h = h
by_three false false true rest other r blind seen h = h
by_three false false false rest other r blind seen h = let never : true ≡ false = sym blind ∙ seen h in cc

only_P1 : (none : Bool) (less : Bool) (r : Rule) → sees_no_container r ≡ true → cond none (Some P1) (cond less (Some P2) None) ≡ Some r → (none ≡ true) × (P1 ≡ r)
only_P1 true less r blind h = (refl, cc)
only_P1 false true r blind h = let same : P2 ≡ r = cc in let never : true ≡ false = sym blind ∙ ap sees_no_container (sym same) in cc
only_P1 false false r blind h = cc

module _ (keys : Option Keys) (a b : Option Acl) (q : Ask) (t : ℕ) where
  blind_token : (token : Option Sent) (r : Rule) → sees_no_container r ≡ true → token_rule keys a q t token ≡ Some r → token_rule keys b q t token ≡ Some r
  blind_token None r blind h = h
  blind_token (Some token) r blind h =
      by_three (is_none (keys_for keys q.key.account)) (not (names_resource q token.resource))
      (some_passes (λ pair. not (is_signed pair (text_of q token) token.signature)) (keys_for keys q.key.account))
      (rule_after_signature a q t token) (rule_after_signature b q t token) r blind
      (after_signature (need_of q.op q.args.kinds).letter t (fields_with (acl_or_closed a) token) r) h

  blind_by : (c : Credential) (r : Rule) → sees_no_container r ≡ true → first_rule keys a (asking q c) t ≡ Some r → first_rule keys b (asking q c) t ≡ Some r
  blind_by (Shared values) r blind h = h
  blind_by Token r blind h =
      first_token_rule keys b (asking q Token) t refl ∙ blind_token_asking (sym (first_token_rule keys a (asking q Token) t refl) ∙ h)
    where
      blind_token_asking : token_rule keys a (asking q Token) t (token_in q) ≡ Some r → token_rule keys b (asking q Token) t (token_in q) ≡ Some r
      blind_token_asking = blind_token (token_in q) r blind
  blind_by Anonymous r blind h =
      let need = (need_of q.op q.args.kinds).level in
      let first = only_P1 (is_none need) (some_passes (allows_less a) need) r blind h in
      ap (λ x. cond x (Some P1) (cond (some_passes (allows_less b) need) (Some P2) None)) first.0 ∙ ap (λ (r : Rule). Some r) first.1

  -- a rule that sees no container is the first for each level and for each list of policies
  pub first_rule-blind : (r : Rule) → sees_no_container r ≡ true → first_rule keys a q t ≡ Some r → first_rule keys b q t ≡ Some r
  first_rule-blind r blind h = blind_by q.credential r blind h

  abbrev level_of : Option Acl → Option Level
  level_of c = option_map (λ acl. acl.level) c

  less : (x y : Option Acl) (need : Level) → level_of x ≡ level_of y → allows_less x need ≡ allows_less y need
  less None None need h = refl
  less None (Some y) need h = cc
  less (Some x) None need h = cc
  less (Some x) (Some y) need h = let same : x.level ≡ y.level = cc in ap (λ (l : Level). not (nat_le (level_number need) (level_number l))) same

  passes : (need : Option Level) → level_of a ≡ level_of b → some_passes (allows_less a) need ≡ some_passes (allows_less b) need
  passes None h = refl
  passes (Some need) h = less a b need h

  level_by : (c : Credential) → level_of a ≡ level_of b → on_public c ≡ true → first_rule keys a (asking q c) t ≡ first_rule keys b (asking q c) t
  level_by (Shared values) same public = cc
  level_by Token same public = cc
  level_by Anonymous same public =
      let need = (need_of q.op q.args.kinds).level in
      ap (λ x. cond (is_none need) (Some P1) (cond x (Some P2) None)) (passes need same)

  -- if P2 is the first rule, it is the first rule for each container of the same level
  pub first_rule-level : level_of a ≡ level_of b → first_rule keys a q t ≡ Some P2 → first_rule keys b q t ≡ Some P2
  first_rule-level same h =
      let public = (and_parts (on_public q.credential) (some_passes (allows_less a) (need_of q.op q.args.kinds).level) (found_passes (holds keys a q t) access_rules P2 h)).0 in
      sym (level_by q.credential same public) ∙ h

  -- ---- List Containers

  names_nothing : (r : Resource) → q.key.container ≡ [] → names_resource q r ≡ false
  names_nothing Container none = ap is_named none
  names_nothing Blob none = ap (λ name. is_named name && is_some q.blob) none

  unnamed_token : (token : Option Sent) → q.key.container ≡ [] → token_rule keys a q t token ≡ token_rule keys b q t token
  unnamed_token None none = refl
  unnamed_token (Some token) none =
      ap (λ names. cond (is_none (keys_for keys q.key.account)) (Some S2) (cond (not names) (Some S3) (before a))) (names_nothing token.resource none)
      ∙ sym (ap (λ names. cond (is_none (keys_for keys q.key.account)) (Some S2) (cond (not names) (Some S3) (before b))) (names_nothing token.resource none))
    where
      before : Option Acl → Option Rule
      before c = cond (some_passes (λ pair. not (is_signed pair (text_of q token) token.signature)) (keys_for keys q.key.account)) (Some S4) (rule_after_signature c q t token)

  unlevelled_by : (c : Credential) → q.key.container ≡ [] → (need_of q.op q.args.kinds).level ≡ None → first_rule keys a (asking q c) t ≡ first_rule keys b (asking q c) t
  unlevelled_by (Shared values) unnamed none = refl
  unlevelled_by Token unnamed none =
      first_token_rule keys a (asking q Token) t refl ∙ same_token ∙ sym (first_token_rule keys b (asking q Token) t refl)
    where
      same_token : token_rule keys a (asking q Token) t (token_in q) ≡ token_rule keys b (asking q Token) t (token_in q)
      same_token = unnamed_token (token_in q) unnamed
  unlevelled_by Anonymous unnamed none =
      ap (λ need. cond (is_none need) (Some P1) (cond (some_passes (allows_less a) need) (Some P2) None)) none
      ∙ sym (ap (λ need. cond (is_none need) (Some P1) (cond (some_passes (allows_less b) need) (Some P2) None)) none)

  -- if a request names no container and no level allows the operation, the first rule is the same for each container
  pub first_rule-unnamed : q.key.container ≡ [] → (need_of q.op q.args.kinds).level ≡ None → first_rule keys a q t ≡ first_rule keys b q t
  first_rule-unnamed = unlevelled_by q.credential

-- ---- what a reply tells

module _ (keys : Option Keys) (w : World (List ℕ)) (q : Asked) (t : ℕ) (bound : Option Key) where
  abbrev own : Part (List ℕ)
  own = part_at w q.ask.key

  abbrev permission : Option Rule
  permission = first_rule keys (acl_of own) q.ask t

  -- the reply to a request that a rule of permission refuses
  pub reply-denied : (r : Rule) → permission ≡ Some r → reply keys w q t bound ≡ denied (access_refusal r)
  reply-denied r h =
      ap (λ (o : Option Rule). response (option_or (option_map access_refusal o) (object_refusal (sizes own) q)) (answer_of (effect keys w q t) q bound)) h

  named : (rule : Rule) → (reply keys w q t bound).rule ≡ Some rule
      → option_map (λ (r : Refusal). r.rule) (option_or (option_map access_refusal permission) (object_refusal (sizes own) q)) ≡ Some rule
  named rule told = sym (rule-reply keys w q t bound) ∙ told

  -- a rule that no rule of the object is is a rule of permission
  by_permission : (mark : Rule → Bool) → list_all (λ r. not (mark r)) object_rules ≡ true → (rule : Rule) → mark rule ≡ true
      → (o : Option Rule) → permission ≡ o
      → option_map (λ (r : Refusal). r.rule) (option_or (option_map access_refusal o) (object_refusal (sizes own) q)) ≡ Some rule → permission ≡ Some rule
  by_permission mark none rule marked (Some r) is told = let same : r ≡ rule = cc in is ∙ ap (λ (r : Rule). Some r) same
  by_permission mark none rule marked None is told = by_lower (object_refusal (sizes own) q) refl told
    where
      by_lower : (o : Option Refusal) → object_refusal (sizes own) q ≡ o → option_map (λ (r : Refusal). r.rule) o ≡ Some rule → permission ≡ Some rule
      by_lower None is told = cc
      by_lower (Some r) is told =
          let same : r.rule ≡ rule = cc in
          let unmarked = lower-unmarked mark none (sizes own) q r is in
          let never : true ≡ false = sym marked ∙ ap mark (sym same) ∙ unmarked in cc

  pub permission-named : (mark : Rule → Bool) → list_all (λ r. not (mark r)) object_rules ≡ true → (rule : Rule) → mark rule ≡ true
      → (reply keys w q t bound).rule ≡ Some rule → permission ≡ Some rule
  permission-named mark none rule marked told = by_permission mark none rule marked permission refl (named rule told)

  -- a reply that names a rule of the object goes to a caller whom its own route admits
  pub admitted-told : (rule : Rule) → is_object_rule rule ≡ true → (reply keys w q t bound).rule ≡ Some rule → Admits keys (acl_of own) q.ask.credential q.ask t
  admitted-told rule objects told = by_first permission refl (named rule told)
    where
      by_first : (o : Option Rule) → permission ≡ o
          → option_map (λ (r : Refusal). r.rule) (option_or (option_map access_refusal o) (object_refusal (sizes own) q)) ≡ Some rule
          → Admits keys (acl_of own) q.ask.credential q.ask t
      by_first None is told = (by_route keys (acl_of own) q.ask t q.ask.credential).0 is
      by_first (Some r) is told =
          let same : r ≡ rule = cc in
          let unmarked = found-unmarked (holds keys (acl_of own) q.ask t) is_object_rule access_rules r refl is in
          let never : true ≡ false = sym objects ∙ ap is_object_rule (sym same) ∙ unmarked in absurd (cc)

module _ (keys : Option Keys) (w v : World (List ℕ)) (q : Asked) (t : ℕ) (bound : Option Key) where
  -- a request that a rule refuses which sees no container has this reply whatever the stamp holds
  pub reply-blind : (rule : Rule) → sees_no_container rule ≡ true → (reply keys w q t bound).rule ≡ Some rule → reply keys v q t bound ≡ reply keys w q t bound
  reply-blind rule blind told =
      let first = permission-named keys w q t bound sees_no_container refl rule blind told in
      reply-denied keys v q t bound rule (first_rule-blind keys (acl_of (part_at w q.ask.key)) (acl_of (part_at v q.ask.key)) q.ask t rule blind first)
      ∙ sym (reply-denied keys w q t bound rule first)

  abbrev is_level_rule : Rule → Bool
  is_level_rule P2 = true
  is_level_rule _ = false

  -- P2 gives a request one reply
  pub reply-closed : (reply keys w q t bound).rule ≡ Some P2 → (reply keys v q t bound).rule ≡ Some P2 → reply keys v q t bound ≡ reply keys w q t bound
  reply-closed told other =
      reply-denied keys v q t bound P2 (permission-named keys v q t bound is_level_rule refl P2 refl other)
      ∙ sym (reply-denied keys w q t bound P2 (permission-named keys w q t bound is_level_rule refl P2 refl told))

  -- a request that P2 refuses has this reply in each world in which the container has the same level
  pub reply-level : (reply keys w q t bound).rule ≡ Some P2
      → option_map (λ (a : Acl). a.level) (acl_of (part_at v q.ask.key)) ≡ option_map (λ (a : Acl). a.level) (acl_of (part_at w q.ask.key)) → reply keys v q t bound ≡ reply keys w q t bound
  reply-level told same =
      let first = permission-named keys w q t bound is_level_rule refl P2 refl told in
      reply-denied keys v q t bound P2 (first_rule-level keys (acl_of (part_at w q.ask.key)) (acl_of (part_at v q.ask.key)) q.ask t (sym same) first)
      ∙ sym (reply-denied keys w q t bound P2 first)
