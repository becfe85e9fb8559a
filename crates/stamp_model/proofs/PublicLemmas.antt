-- Requests without a credential.
use Rattle.std.proofs.Common.{◌≡◌, ℕ, ◌≤◌, cond, List, Option, Some, None, IsSome, refl, sym, ap, ◌∙◌, subst, is_none}
use Rattle.std.specs.Option.{option_map, option_or}
use Rattle.stamp_values.specs.declared.acl.Acl.{Acl}
use Rattle.stamp_values.specs.declared.block.BlockKinds.{BlockKinds}
use Rattle.stamp_values.specs.declared.block.BlockKinds.TheVariants.{Committed, Uncommitted, All}
use Rattle.stamp_values.specs.declared.key.Key.{Key}
use Rattle.stamp_values.specs.declared.level.Level.{Level}
use Rattle.stamp_values.specs.declared.level.Level.TheVariants as level
use Rattle.stamp_values.specs.declared.op.Op.{Op}
use Rattle.stamp_values.specs.declared.op.Op.TheVariants as op
use Rattle.stamp_values.specs.declared.policy.Policy.{Policy}
use Rattle.stamp_values.specs.declared.signing.Credential.{Credential}
use Rattle.stamp_values.specs.declared.signing.Credential.TheVariants.{Anonymous}
use Rattle.stamp_values.specs.Levels.{level_number}
use Rattle.stamp_types.specs.declared.act.Act.{Act}
use Rattle.stamp_types.specs.declared.ask.Ask.{Ask}
use Rattle.stamp_types.specs.declared.code.Code.{Code}
use Rattle.stamp_types.specs.declared.code.Code.TheVariants as code
use Rattle.stamp_types.specs.declared.refusal.Refusal.{Refusal}
use Rattle.stamp_types.specs.declared.reply.Reply.{Reply}
use Rattle.stamp_types.specs.declared.rule.Rule.{Rule}
use Rattle.stamp_types.specs.declared.rule.Rule.TheVariants.{P1, P2}
use Rattle.stamp_types.specs.declared.standing.Standing.{Standing}
use Rattle.stamp_types.specs.declared.status.Status.TheVariants.{NotFound}
use Rattle.stamp_types.specs.Pieces.{held}
use Rattle.stamp_types.specs.Replies.{denied}
use Rattle.stamp_types.specs.Requests.{Asked}
use Rattle.stamp_types.specs.World.{Part, World, part_at}
use Rattle.access_rules.specs.declared.keys.Keys.{Keys}
use Rattle.access_rules.specs.Needs.{need_of}
use Rattle.access_rules.specs.Routes.{ByPublic, Admits}
use Rattle.access_rules.specs.Rules.{allows_less, first_rule, some_passes}
use Rattle.access_rules.proofs.RouteLaw.{asking, by_route}
use Rattle.range_rows.specs.SentContent.{byte_count, sizes}
use Rattle.range_rows.specs.ObjectRules.{object_refusal}
use Rattle.row_trees.specs.Access.{acl_of}
use Rattle.range_rows.specs.RequestChanges.{act_by}
use Rattle.stamp_model.specs.Refusals.{access_code, access_refusal, refusal}
use Rattle.stamp_model.specs.Effects.{unless_refused, world_after, effect}
use Rattle.stamp_model.specs.Responses.{answer_of, response, reply}
use Rattle.stamp_model.proofs.EffectLemmas.{on_key, effect-refused}
use Rattle.stamp_model.proofs.ReplyLemmas.{reply-unrefused, unrefused}

-- the rule of the public route
abbrev pub public_rule : Option Acl → Option Level → Option Rule
public_rule access need = cond (is_none need) (Some P1) (cond (some_passes (allows_less access) need) (Some P2) None)

pub first_public : (keys : Option Keys) (access : Option Acl) (q : Ask) (t : ℕ) (c : Credential) → c ≡ Anonymous → first_rule keys access (asking q c) t ≡ public_rule access (need_of q.op q.args.kinds).level
first_public keys access q t c is =
    subst (λ (c : Credential). first_rule keys access (asking q c) t ≡ public_rule access (need_of q.op q.args.kinds).level) (sym is) refl

-- the rule that refuses if the container does not exist, and its code
absent : (need : Option Level) → (rule : Rule) × (public_rule None need ≡ Some rule) × (access_code rule ≡ code.ResourceNotFound)
absent None = (P1, refl, refl)
absent (Some need) = (P2, refl, refl)

-- the public route has the same rule for a closed container and for a container that does not exist
as_closed : (policies : List Policy) (o : Op) (k : Option BlockKinds) → public_rule (Some (record { level = level.Closed; policies = policies })) (need_of o k).level ≡ public_rule None (need_of o k).level
as_closed policies op.GetBlockList None = refl
as_closed policies op.GetBlockList (Some Committed) = refl
as_closed policies op.GetBlockList (Some Uncommitted) = refl
as_closed policies op.GetBlockList (Some All) = refl
as_closed policies other k = refl

-- if a container says who may do what, the container exists
acl_exists : (o : Option Standing) (has : Acl) → option_map (λ (s : Standing). s.acl) o ≡ Some has → (s : Standing) × (o ≡ Some s) × (s.acl ≡ has)
acl_exists None has h = cc
acl_exists (Some s) has h = let same : s.acl ≡ has = cc in (s, refl, same)

module _ (keys : Option Keys) (w : World (List ℕ)) (q : Asked) (t : ℕ) (bound : Option Key) where
  abbrev own_part : Part (List ℕ)
  own_part = part_at w q.ask.key

  -- a rule of permission decides the reply
  told : (rule : Rule) → first_rule keys (acl_of own_part) q.ask t ≡ Some rule → reply keys w q t bound ≡ denied (access_refusal rule)
  told rule is =
      ap (λ (o : Option Rule). response (option_or (option_map access_refusal o) (object_refusal (sizes own_part) q)) (answer_of (effect keys w q t) q bound)) is

  abbrev the_need : Option Level
  the_need = (need_of q.ask.op q.ask.args.kinds).level

  absent_refused : q.ask.credential ≡ Anonymous → own_part.standing ≡ None → first_rule keys (acl_of own_part) q.ask t ≡ Some (absent the_need).0
  absent_refused anonymous none =
      ap (λ (o : Option Standing). first_rule keys (acl_of (record own_part { standing = o })) q.ask t) none
      ∙ first_public keys None q.ask t q.ask.credential anonymous
      ∙ (absent the_need).1

  closed_refused : (s : Standing) → q.ask.credential ≡ Anonymous → own_part.standing ≡ Some s → s.acl.level ≡ level.Closed → first_rule keys (acl_of own_part) q.ask t ≡ Some (absent the_need).0
  closed_refused s anonymous exists closed =
      ap (λ (o : Option Standing). first_rule keys (acl_of (record own_part { standing = o })) q.ask t) exists
      ∙ ap (λ (l : Level). first_rule keys (Some (record { level = l; policies = s.acl.policies })) q.ask t) closed
      ∙ first_public keys (Some (record { level = level.Closed; policies = s.acl.policies })) q.ask t q.ask.credential anonymous
      ∙ as_closed s.acl.policies q.ask.op q.ask.args.kinds
      ∙ (absent the_need).1

  told_absent : first_rule keys (acl_of own_part) q.ask t ≡ Some (absent the_need).0 → reply keys w q t bound ≡ denied (record { rule = (absent the_need).0; code = code.ResourceNotFound })
  told_absent is = told (absent the_need).0 is ∙ ap (λ (c : Code). denied (record { rule = (absent the_need).0; code = c })) (absent the_need).2

  -- if the container does not exist, the reply says that the resource was not found
  pub status-absent : q.ask.credential ≡ Anonymous → own_part.standing ≡ None → (reply keys w q t bound).status ≡ NotFound
  status-absent anonymous none = ap (λ (x : Reply). x.status) (told_absent (absent_refused anonymous none))

  -- a closed container refuses each request without a credential
  pub rule-closed : (s : Standing) → q.ask.credential ≡ Anonymous → own_part.standing ≡ Some s → s.acl.level ≡ level.Closed → IsSome (reply keys w q t bound).rule
  rule-closed s anonymous exists closed = subst (λ (x : Reply). IsSome x.rule) (sym (told_absent (closed_refused s anonymous exists closed))) refl

  public_route : q.ask.credential ≡ Anonymous → refusal keys (sizes own_part) q t ≡ None → ByPublic (acl_of own_part) q.ask
  public_route anonymous free =
      subst (λ (c : Credential). Admits keys (acl_of own_part) c q.ask t) anonymous
      ((by_route keys (acl_of own_part) q.ask t q.ask.credential).0 (unrefused keys (sizes own_part) q t free).permitted)

  -- a request without a credential is answered only if its container exists and the container's level is enough
  pub given-publicly : q.ask.credential ≡ Anonymous → (reply keys w q t bound).rule ≡ None
      → (need : Level) × (s : Standing) × (the_need ≡ Some need) × (own_part.standing ≡ Some s) × (level_number need ≤ level_number s.acl.level)
  given-publicly anonymous none =
      let by = public_route anonymous (reply-unrefused keys w q t bound none) in
      let there = acl_exists own_part.standing by.has by.exists in
      (by.need, there.0, by.needed, there.1, subst (λ (a : Acl). level_number by.need ≤ level_number a.level) (sym there.2) by.enough)

-- nobody without a credential can tell a container that does not exist from a closed one
pub reply-absent_as_closed : (keys : Option Keys) (w v : World (List ℕ)) (q : Asked) (t : ℕ) (bound : Option Key) (s : Standing) → q.ask.credential ≡ Anonymous
    → (part_at w q.ask.key).standing ≡ None → (part_at v q.ask.key).standing ≡ Some s → s.acl.level ≡ level.Closed → reply keys w q t bound ≡ reply keys v q t bound
reply-absent_as_closed keys w v q t bound s anonymous none exists closed =
    told keys w q t bound (absent (need_of q.ask.op q.ask.args.kinds).level).0 (absent_refused keys w q t bound anonymous none)
    ∙ sym (told keys v q t bound (absent (need_of q.ask.op q.ask.args.kinds).level).0 (closed_refused keys v q t bound s anonymous exists closed))

-- ---- requests without a credential write nothing

-- an operation that a level of public access allows changes nothing
act_by-public : (o : Op) (kinds : Option BlockKinds) (need : Level) (z : Part ℕ) (q : Asked) (t : ℕ) → (need_of o kinds).level ≡ Some need → act_by o z q t ≡ None
act_by-public op.CreateContainer kinds need z q t h = cc
act_by-public op.SetContainerMetadata kinds need z q t h = cc
act_by-public op.SetAcl kinds need z q t h = cc
act_by-public op.DeleteContainer kinds need z q t h = cc
act_by-public op.PutBlob kinds need z q t h = cc
act_by-public op.SetMetadata kinds need z q t h = cc
act_by-public op.DeleteBlob kinds need z q t h = cc
act_by-public op.PutBlock kinds need z q t h = cc
act_by-public op.PutBlockList kinds need z q t h = cc
act_by-public other kinds need z q t h = refl

module _ (keys : Option Keys) (w : World (List ℕ)) (q : Asked) (t : ℕ) (anonymous : q.ask.credential ≡ Anonymous) where
  abbrev their_refusal : Option Refusal
  their_refusal = refusal keys (sizes (part_at w q.ask.key)) q t

  by_refusal : (r : Option Refusal) → their_refusal ≡ r → effect keys w q t ≡ w
  by_refusal (Some r) is = effect-refused byte_count held keys w q t r is
  by_refusal None is =
      let by = public_route keys w q t None anonymous is in
      ap (λ (a : Option Act). world_after held (unless_refused their_refusal (option_map (on_key q.ask.key) a)) w)
      (act_by-public q.ask.op q.ask.args.kinds by.need (sizes (part_at w q.ask.key)) q t by.needed)
      ∙ ap (λ (o : Option Refusal). world_after held (unless_refused o None) w) is

  -- a request without a credential leaves all containers as they are
  pub effect-public : effect keys w q t ≡ w
  effect-public = by_refusal their_refusal refl
