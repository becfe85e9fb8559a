-- What a container says about who may do what after a history, and what a token may write.
use Rattle.std.proofs.Common.{◌≡◌, ◌≢◌, ◌⊎◌, inl, inr, ◌↔◌, IsSome, ℕ, ◌+◌, Bool, true, false, cond, not, ◌||◌, ◌&&◌, List, [], ◌∷◌, ◌++◌, Option, Some, None, Err, All, refl, ap, ◌∙◌, subst, find, is_none, is_some, bytes_eq}
use Rattle.std.proofs.lemmas.List.Elements.{All-head, All-tail}
use Rattle.std.proofs.lemmas.List.Sums.{fold-append}
use Rattle.std.proofs.lemmas.Slice.Eq.{bytes_eq-Decides}
use Rattle.std.specs.Option.{option_map}
use Rattle.stamp_values.specs.Operations.{writes}
use Rattle.stamp_values.specs.declared.acl.Acl.{Acl}
use Rattle.stamp_values.specs.declared.block.BlockKinds.{BlockKinds}
use Rattle.stamp_values.specs.declared.block.BlockKinds.TheVariants as kinds
use Rattle.stamp_values.specs.declared.key.Key.{Key}
use Rattle.stamp_values.specs.declared.op.Op.{Op}
use Rattle.stamp_values.specs.declared.op.Op.TheVariants as op
use Rattle.stamp_values.specs.declared.signing.Credential.{Credential}
use Rattle.stamp_values.specs.declared.signing.Credential.TheVariants.{Token}
use Rattle.stamp_values.specs.Letters.{Permissions}
use Rattle.stamp_types.specs.declared.ask.Ask.{Ask}
use Rattle.stamp_types.specs.declared.past.Past.{Past}
use Rattle.stamp_types.specs.declared.refusal.Refusal.{Refusal}
use Rattle.stamp_types.specs.declared.rule.Rule.{Rule}
use Rattle.stamp_types.specs.declared.rule.Rule.TheVariants.{S2, S3, S4, S5}
use Rattle.stamp_types.specs.declared.standing.Standing.{Standing}
use Rattle.stamp_types.specs.Pieces.{held}
use Rattle.stamp_types.specs.Requests.{Asked}
use Rattle.stamp_types.specs.World.{Part, World, no_part, part_at, standing_with_acl}
use Rattle.sas_token.specs.Tokens.{IsToken, Sent}
use Rattle.sas_token.proofs.ReadingLemmas.{token_complete}
use Rattle.container_acl.specs.JoinedFields.{acl_or_closed, fields_with, names_unknown_policy, policy_of, policy_with, with_policy}
use Rattle.container_acl.specs.declared.fields.FieldFault.TheVariants.{Absent}
use Rattle.access_rules.specs.declared.keys.Keys.{Keys}
use Rattle.access_rules.specs.declared.needs.Letter.{Letter}
use Rattle.access_rules.specs.declared.needs.Letter.TheVariants as letter
use Rattle.access_rules.specs.Needs.{need_of}
use Rattle.access_rules.specs.Parts.{is_signed, keys_for}
use Rattle.access_rules.specs.Routes.{Admits, ByToken}
use Rattle.access_rules.specs.Rules.{first_rule, some_passes}
use Rattle.access_rules.specs.TokenParts.{allows, names_resource, text_of}
use Rattle.access_rules.specs.TokenRoute.{rule_of_given, token_rule}
use Rattle.access_rules.proofs.RouteLaw.{by_route}
use Rattle.access_rules.proofs.TokenLemmas.{first_token_rule}
use Rattle.row_trees.specs.Access.{acl_of}
use Rattle.range_rows.specs.SentContent.{byte_count, sizes}
use Rattle.range_rows.specs.ObjectRules.{needs_container}
use Rattle.range_rows.specs.RequestChanges.{act_by, change_of, part_after, set_acl}
use Rattle.stamp_model.specs.Effects.{alters_access, effect, unless_refused}
use Rattle.stamp_model.specs.Histories.{IsAccepted, IsLegal, IsLegalFrom, after_entry, pair_of, replay, replay_from}
use Rattle.stamp_model.specs.Refusals.{refusal}
use Rattle.stamp_model.specs.Withdrawals.{acl_given, acl_given_by, gives_policy, gives_policy_by, is_before_fields, sends_policy, withdraws_policy, withdraws_policy_by}
use Rattle.stamp_model.proofs.AccessLemmas.{keeps_access}
use Rattle.stamp_model.proofs.CountLemmas.{IsLegalFrom-after, IsLegalFrom-rest}
use Rattle.stamp_model.proofs.EffectLemmas.{effect-refused, on_key, related-after_act, related-unless_refused}
use Rattle.stamp_model.proofs.ObjectLemmas.{container_needed}
use Rattle.stamp_model.proofs.ReadLemmas.{effect-read}
use Rattle.stamp_model.proofs.ReplyLemmas.{unrefused}

-- ---- one entry

module _ (pairs : List Keys) (p : Part (List ℕ)) (e : Past) where
  abbrev then_part : Part (List ℕ)
  then_part = after_entry pairs p e

  -- an entry that does not set access leaves the level and the policies
  access-left : alters_access e.request.ask.op ≡ false → acl_of then_part ≡ acl_of p
  access-left unaltered =
      related-unless_refused held (λ p r. acl_of r ≡ acl_of p) (λ p. refl) p (refusal (pair_of pairs e.epoch) (sizes p) e.request e.moment) (change_of (sizes p) e.request e.moment)
      (related-after_act held (λ p r. acl_of r ≡ acl_of p) (λ p. refl) e.request.ask.key p (act_by e.request.ask.op (sizes p) e.request e.moment)
      (keeps_access held (sizes p) p e.request e.moment e.request.ask.op unaltered))

  set_exists : (o : Option Standing) → is_some o ≡ true → (n : ℕ) (t : ℕ) → option_map (λ (s : Standing). s.acl) (option_map (standing_with_acl n (set_acl e.request t)) o) ≡ acl_given_by op.SetAcl e.request
  set_exists None there n t = cc
  set_exists (Some s) there n t = refl

  module _ (key : Key) (new : IsAccepted pairs key p e) where
    abbrev acl_after : Op → Option Acl
    acl_after o = acl_of (part_after held (option_map (on_key e.request.ask.key) (act_by o (sizes p) e.request e.moment)) p)

    given_by : (o : Op) → e.request.ask.op ≡ o → alters_access o ≡ true → acl_after o ≡ acl_given_by o e.request
    given_by op.CreateContainer is alters = refl
    given_by op.DeleteContainer is alters = refl
    given_by op.SetAcl is alters =
        set_exists p.standing
        (container_needed p e.request (unrefused (pair_of pairs e.epoch) (sizes p) e.request e.moment new.allowed).unopposed (ap needs_container is))
        (p.count + 1) e.moment
    given_by other is alters = cc

    -- an accepted entry that sets access leaves the level and the policies that it gives
    access-given : alters_access e.request.ask.op ≡ true → acl_of then_part ≡ acl_given e.request
    access-given alters =
        ap (λ (o : Option Refusal). acl_of (part_after held (unless_refused o (change_of (sizes p) e.request e.moment)) p)) new.allowed
        ∙ given_by e.request.ask.op refl alters

-- ---- all entries

-- entries that do not set access leave the level and the policies
access-kept : (pairs : List Keys) (p : Part (List ℕ)) (rest : List Past) → All (λ e. alters_access e.request.ask.op ≡ false) rest → acl_of (replay_from pairs p rest) ≡ acl_of p
access-kept pairs p [] none = refl
access-kept pairs p (e ∷ rest) none =
    access-kept pairs (after_entry pairs p e) rest (All-tail (λ (e : Past). alters_access e.request.ask.op ≡ false) e rest none)
    ∙ access-left pairs p e (All-head (λ (e : Past). alters_access e.request.ask.op ≡ false) e rest none)

module _ (pairs : List Keys) (key : Key) (front rest : List Past) (e : Past) (legal : IsLegal pairs key (front ++ e ∷ rest)) where
  abbrev before : Part (List ℕ)
  before = replay pairs front

  replay-then : replay pairs (front ++ e ∷ rest) ≡ replay_from pairs (after_entry pairs before e) rest
  replay-then = fold-append (after_entry pairs) no_part front (e ∷ rest)

  new : IsAccepted pairs key before e
  new = legal.accepted front e (rest, refl)

  -- the level and the policies are those that were given last
  pub access-last : alters_access e.request.ask.op ≡ true → All (λ e. alters_access e.request.ask.op ≡ false) rest → acl_of (replay pairs (front ++ e ∷ rest)) ≡ acl_given e.request
  access-last alters none =
      ap acl_of replay-then ∙ access-kept pairs (after_entry pairs before e) rest none ∙ access-given pairs before e key new alters

-- ---- a policy that was withdrawn

-- the container does not have a policy of this id
abbrev Lacks : List ℕ → Option Acl → Type 0
Lacks id acl = policy_with (acl_or_closed acl) id ≡ None

none_found : {A : Type 0} (o : Option A) → is_some o ≡ false → o ≡ None
none_found None h = refl
none_found (Some x) h = cc

not_true : (b : Bool) → not b ≡ true → b ≡ false
not_true true h = cc
not_true false h = refl

module _ (id : List ℕ) (q : Asked) where
  -- a request withdraws a policy if it is a Delete Container, or a Set Container ACL without the policy, and by no other way
  pub withdraws_if : (o : Op) → (withdraws_policy_by o id q ≡ true) ↔ ((o ≡ op.DeleteContainer) ⊎ ((o ≡ op.SetAcl) × Lacks id (acl_given_by o q)))
  withdraws_if op.DeleteContainer = (λ h. inl refl, λ h. refl)
  withdraws_if op.SetAcl = (λ h. inr (refl, none_found (find (λ p. bytes_eq p.id id) _) (not_true (sends_policy id q) h)), λ h. elim h [ inl e ↦ cc | inr p ↦ ap (λ o. not (is_some o)) p.1 ])
  withdraws_if other = (λ h. cc, λ h. elim h [ inl e ↦ cc | inr p ↦ let is = p.0 in cc ])

  -- a request gives a policy if it is a Set Container ACL with the policy, and by no other way
  pub gives_if : (o : Op) → (gives_policy_by o id q ≡ true) ↔ ((o ≡ op.SetAcl) × IsSome (policy_with (acl_or_closed (acl_given_by o q)) id))
  gives_if op.SetAcl = (λ h. (refl, h), λ p. p.1)
  gives_if other = (λ h. cc, λ p. let is = p.0 in cc)

  lacks_given : (o : Op) → alters_access o ≡ true → gives_policy_by o id q ≡ false → Lacks id (acl_given_by o q)
  lacks_given op.CreateContainer alters none = refl
  lacks_given op.DeleteContainer alters none = refl
  lacks_given op.SetAcl alters none = none_found (find (λ p. bytes_eq p.id id) _) none
  lacks_given other alters none = cc

  withdrawal_alters : (o : Op) → withdraws_policy_by o id q ≡ true → alters_access o ≡ true
  withdrawal_alters op.DeleteContainer h = refl
  withdrawal_alters op.SetAcl h = refl
  withdrawal_alters other h = cc

  withdrawal_gives_none : (o : Op) → withdraws_policy_by o id q ≡ true → gives_policy_by o id q ≡ false
  withdrawal_gives_none o h = elim ((withdraws_if o).0 h) [
    | inl deletes ↦ ap (λ (o : Op). gives_policy_by o id q) deletes
    | inr sets ↦ ap (λ (o : Op). gives_policy_by o id q) sets.0 ∙ ap is_some (subst (λ (o : Op). Lacks id (acl_given_by o q)) sets.0 sets.1)
  ]

module _ (pairs : List Keys) (key : Key) (id : List ℕ) where
  -- an accepted entry that does not give the policy leaves a container that lacks it without it
  lacks-after : (p : Part (List ℕ)) (e : Past) → IsAccepted pairs key p e → gives_policy id e.request ≡ false → Lacks id (acl_of p) → Lacks id (acl_of (after_entry pairs p e))
  lacks-after p e new none lacks = by_kind (alters_access e.request.ask.op) refl
    where
      by_kind : (b : Bool) → alters_access e.request.ask.op ≡ b → Lacks id (acl_of (after_entry pairs p e))
      by_kind true alters = ap (λ (a : Option Acl). policy_with (acl_or_closed a) id) (access-given pairs p e key new alters) ∙ lacks_given id e.request e.request.ask.op alters none
      by_kind false unaltered = ap (λ (a : Option Acl). policy_with (acl_or_closed a) id) (access-left pairs p e unaltered) ∙ lacks

  lacks-kept : (start : Part (List ℕ)) (rest : List Past) → IsLegalFrom pairs key start rest → All (λ e. gives_policy id e.request ≡ false) rest → Lacks id (acl_of start) → Lacks id (acl_of (replay_from pairs start rest))
  lacks-kept start [] legal none lacks = lacks
  lacks-kept start (e ∷ rest) legal none lacks =
      lacks-kept (after_entry pairs start e) rest (IsLegalFrom-rest pairs key start e rest legal) (All-tail (λ (e : Past). gives_policy id e.request ≡ false) e rest none)
      (lacks-after start e (legal.accepted [] e (rest, refl)) (All-head (λ (e : Past). gives_policy id e.request ≡ false) e rest none) lacks)

module _ (pairs : List Keys) (key : Key) (front rest : List Past) (e : Past) (id : List ℕ) (legal : IsLegal pairs key (front ++ e ∷ rest))
    (withdraws : withdraws_policy id e.request ≡ true) (none : All (λ e. gives_policy id e.request ≡ false) rest) where
  abbrev history : List Past
  history = front ++ e ∷ rest

  lacks-withdrawn : Lacks id (acl_of (after_entry pairs (replay pairs front) e))
  lacks-withdrawn =
      ap (λ (a : Option Acl). policy_with (acl_or_closed a) id)
      (access-given pairs (replay pairs front) e key (legal.accepted front e (rest, refl)) (withdrawal_alters id e.request e.request.ask.op withdraws))
      ∙ lacks_given id e.request e.request.ask.op (withdrawal_alters id e.request e.request.ask.op withdraws) (withdrawal_gives_none id e.request e.request.ask.op withdraws)

  lacks-end : Lacks id (acl_of (replay pairs history))
  lacks-end =
      ap (λ (p : Part (List ℕ)). policy_with (acl_or_closed (acl_of p)) id) (replay-then pairs key front rest e legal)
      ∙ lacks-kept pairs key id (after_entry pairs (replay pairs front) e) rest (IsLegalFrom-after pairs key no_part front e rest legal) none lacks-withdrawn

  -- the first rule of three, or else this rule
  one_of_four : (a b c : Bool) → (rule : Rule) × (is_before_fields rule ≡ true) × (cond a (Some S2) (cond b (Some S3) (cond c (Some S4) (Some S5))) ≡ Some rule)
  one_of_four true b c = (S2, refl, refl)
  one_of_four false true c = (S3, refl, refl)
  one_of_four false false true = (S4, refl, refl)
  one_of_four false false false = (S5, refl, refl)

  module _ (keys : Option Keys) (q : Ask) (t : ℕ) (token : Sent) (asks : q.credential ≡ Token) (reads : IsToken q.signing.query token) (named : token.id ≡ id) (some : id ≢ []) where
    abbrev acl : Option Acl
    acl = acl_of (replay pairs history)

    unknown : names_unknown_policy (acl_or_closed acl) token ≡ true
    unknown =
        ap (λ (x : List ℕ). not (bytes_eq x []) && is_none (policy_with (acl_or_closed acl) x)) named
        ∙ (λ i. not (is_other i) && is_none (lacks-end i))
      where
        is_other : bytes_eq id [] ≡ false
        is_other = by_case (bytes_eq id []) refl
          where
            by_case : (b : Bool) → bytes_eq id [] ≡ b → b ≡ false
            by_case true is = absurd (some ((bytes_eq-Decides id []).0 is))
            by_case false is = refl

    absent : fields_with (acl_or_closed acl) token ≡ Err Absent
    absent = ap (λ b. cond b (Err Absent) (with_policy token (policy_of (acl_or_closed acl) token))) unknown

    abbrev tests : Rule → Type 0
    tests rule = first_rule keys acl q t ≡ Some rule

    abbrev which : (rule : Rule) × (is_before_fields rule ≡ true) × (cond (is_none (keys_for keys q.key.account)) (Some S2) (cond (not (names_resource q token.resource)) (Some S3) (cond (some_passes (λ pair. not (is_signed pair (text_of q token) token.signature)) (keys_for keys q.key.account)) (Some S4) (Some S5))) ≡ Some rule)
    which = one_of_four (is_none (keys_for keys q.key.account)) (not (names_resource q token.resource)) (some_passes (λ pair. not (is_signed pair (text_of q token) token.signature)) (keys_for keys q.key.account))

    -- one of S2 to S5 refuses a request by a token that names the policy
    pub refused-withdrawn : (rule : Rule) × (is_before_fields rule ≡ true) × (first_rule keys acl q t ≡ Some rule)
    refused-withdrawn = (
      which.0,
      which.1,
      first_token_rule keys acl q t asks
          ∙ ap (token_rule keys acl q t) (token_complete q.signing.query token reads)
          ∙ ap (λ given. cond (is_none (keys_for keys q.key.account)) (Some S2) (cond (not (names_resource q token.resource)) (Some S3) (cond (some_passes (λ pair. not (is_signed pair (text_of q token) token.signature)) (keys_for keys q.key.account)) (Some S4) (rule_of_given (need_of q.op q.args.kinds).letter t given)))) absent
          ∙ which.2,
    )

-- ---- what a token writes

needed_is : (needed l : Letter) (p : Permissions) → Some needed ≡ Some l → allows l p ≡ true → allows needed p ≡ true
needed_is needed l p e allowed = let same : needed ≡ l = cc in ap (λ x. allows x p) same ∙ allowed

write_or : (p : Permissions) → p.write ≡ true → (p.write || p.delete) ≡ true
write_or p h = ap (λ b. b || p.delete) h

or_true : (b : Bool) → (b || true) ≡ true
or_true true = refl
or_true false = refl

delete_or : (p : Permissions) → p.delete ≡ true → (p.write || p.delete) ≡ true
delete_or p h = ap (λ b. p.write || b) h ∙ or_true p.write

writes_by : (o : Op) (k : Option BlockKinds) (l : Letter) (p : Permissions) → writes o ≡ true → (need_of o k).letter ≡ Some l → allows l p ≡ true → (p.write || p.delete) ≡ true
writes_by op.CreateContainer k l p writing e allowed = cc
writes_by op.SetContainerMetadata k l p writing e allowed = cc
writes_by op.SetAcl k l p writing e allowed = cc
writes_by op.DeleteContainer k l p writing e allowed = cc
writes_by op.PutBlob k l p writing e allowed = write_or p (needed_is letter.Write l p e allowed)
writes_by op.SetMetadata k l p writing e allowed = write_or p (needed_is letter.Write l p e allowed)
writes_by op.DeleteBlob k l p writing e allowed = delete_or p (needed_is letter.Delete l p e allowed)
writes_by op.PutBlock k l p writing e allowed = write_or p (needed_is letter.Write l p e allowed)
writes_by op.PutBlockList k l p writing e allowed = write_or p (needed_is letter.Write l p e allowed)
writes_by other k l p writing e allowed = cc

module _ (keys : Option Keys) (w : World (List ℕ)) (q : Asked) (t : ℕ) (asks : q.ask.credential ≡ Token) (changes : effect keys w q t ≢ w) where
  abbrev own : Part (List ℕ)
  own = part_at w q.ask.key

  is_free : (o : Option Refusal) → refusal keys (sizes own) q t ≡ o → o ≡ None
  is_free None is = refl
  is_free (Some r) is = absurd (changes (effect-refused byte_count held keys w q t r is))

  does_write : (b : Bool) → writes q.ask.op ≡ b → b ≡ true
  does_write true is = refl
  does_write false is = absurd (changes (effect-read keys w q t is))

  by_its_token : ByToken keys (acl_of own) q.ask t
  by_its_token =
      subst (λ (c : Credential). Admits keys (acl_of own) c q.ask t) asks
      ((by_route keys (acl_of own) q.ask t q.ask.credential).0 (unrefused keys (sizes own) q t (is_free (refusal keys (sizes own) q t) refl)).permitted)

  -- a request by a token that changes anything has w or d
  pub writes-token : (by : ByToken keys (acl_of own) q.ask t) × ((by.fields.letters.write || by.fields.letters.delete) ≡ true)
  writes-token = (by_its_token, writes_by q.ask.op q.ask.args.kinds by_its_token.letter by_its_token.fields.letters (does_write (writes q.ask.op) refl) by_its_token.needed by_its_token.allowed)
