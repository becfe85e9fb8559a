-- A reply names the rule that refuses its request. If no rule refuses the request, the reply names no rule.
use Rattle.std.proofs.Common.{◌≡◌, ℕ, Bool, true, false, List, Option, Some, None, refl, sym, ap, ◌∙◌, if◌then◌else◌}
use Rattle.std.specs.Option.{option_map, option_or}
use Rattle.stamp_values.specs.Operations.{lists_names, names_container}
use Rattle.stamp_values.specs.declared.condition.ByteRange.{ByteRange}
use Rattle.stamp_values.specs.declared.key.Key.{Key}
use Rattle.stamp_values.specs.declared.op.Op.{Op}
use Rattle.stamp_values.specs.declared.op.Op.TheVariants as op
use Rattle.stamp_types.specs.declared.committed.Committed.{Committed}
use Rattle.stamp_types.specs.declared.refusal.Refusal.{Refusal}
use Rattle.stamp_types.specs.declared.reply.Reply.{Reply}
use Rattle.stamp_types.specs.declared.rule.Rule.{Rule}
use Rattle.stamp_types.specs.declared.standing.Standing.{Standing}
use Rattle.stamp_types.specs.Codes.{has_error_body}
use Rattle.stamp_types.specs.Pieces.{held}
use Rattle.stamp_types.specs.Replies.{denied}
use Rattle.stamp_types.specs.Requests.{Asked}
use Rattle.stamp_types.specs.World.{Blob, Part, World, part_at}
use Rattle.access_rules.specs.declared.keys.Keys.{Keys}
use Rattle.access_rules.specs.Routes.{Admits}
use Rattle.access_rules.specs.Rules.{first_rule}
use Rattle.access_rules.proofs.RouteLaw.{by_route}
use Rattle.range_rows.specs.Frames.{blob_read, frame_by, ranged_frame, standing_read}
use Rattle.range_rows.specs.SentContent.{byte_count, sizes}
use Rattle.range_rows.specs.NamedBlobs.{target_blob}
use Rattle.range_rows.specs.ObjectRules.{object_refusal}
use Rattle.row_trees.specs.Access.{acl_of}
use Rattle.stamp_model.specs.Refusals.{access_refusal, refusal, refusing_rule}
use Rattle.stamp_model.specs.Effects.{change, effect}
use Rattle.stamp_model.specs.Responses.{answer_by, answer_of, own_answer, own_answer_by, response, reply, rows_answer}
use Rattle.stamp_model.proofs.EffectLemmas.{part_at-effect, effect-refused}
use Rattle.stamp_model.specs.Overrides.{overrides_of}
use Rattle.range_rows.specs.Replaced.{Replaced}

either_names : (b : Bool) (x y : Reply) (rule : Option Rule) → x.rule ≡ rule → y.rule ≡ rule → (if b then x else y).rule ≡ rule
either_names true x y rule first second = first
either_names false x y rule first second = second

-- the reply to a refusal names its rule
pub denied-names : (r : Refusal) → (denied r).rule ≡ Some r.rule
denied-names r = either_names (has_error_body r.code) _ _ (Some r.rule) refl refl

ranged_names_none : (v : Replaced) (range : Option ByteRange) (c : Committed ℕ) → (ranged_frame v range c).rule ≡ None
ranged_names_none v None c = refl
ranged_names_none v (Some r) c = refl

frame_names_none : (o : Op) (q : Asked) (s : Standing) (c : Committed ℕ) (b : Blob ℕ) → (frame_by (overrides_of q.ask) o q s c b).rule ≡ None
frame_names_none op.CreateContainer q s c b = refl
frame_names_none op.GetBlob q s c b = ranged_names_none (overrides_of q.ask) q.ask.args.range c
frame_names_none other q s c b = refl

-- what the operation answers from its own container names no rule
own_answer_names_none : (o : Op) (p : Part (List ℕ)) (q : Asked) → (own_answer_by o p q).rule ≡ None
own_answer_names_none op.ListBlobs p q = refl
own_answer_names_none other p q = frame_names_none q.ask.op q (standing_read (sizes p)) (blob_read (sizes p) q.ask) (target_blob (sizes p) q.ask)

answer_names_none : (o : Op) (w : World (List ℕ)) (q : Asked) (bound : Option Key) → (answer_by o w q bound).rule ≡ None
answer_names_none op.ListContainers w q bound = refl
answer_names_none other w q bound = own_answer_names_none q.ask.op (part_at w q.ask.key) q

names : (r : Option Refusal) (w : World (List ℕ)) (q : Asked) (bound : Option Key) → (response r (answer_of w q bound)).rule ≡ option_map (λ r. r.rule) r
names None w q bound = answer_names_none q.ask.op w q bound
names (Some r) w q bound = denied-names r

-- ---- what is answered from one container

own_answer_by-rows : (o : Op) (p : Part (List ℕ)) (q : Asked) → lists_names o ≡ false → own_answer_by o p q ≡ rows_answer p q
own_answer_by-rows op.ListBlobs p q other = cc
own_answer_by-rows op.ListContainers p q other = cc
own_answer_by-rows o p q other = refl

-- an operation that lists no names is answered by what rows have of the container
pub own_answer-rows : (p : Part (List ℕ)) (q : Asked) → lists_names q.ask.op ≡ false → own_answer p q ≡ rows_answer p q
own_answer-rows p q other = own_answer_by-rows q.ask.op p q other

answer_by-own : (o : Op) (w : World (List ℕ)) (q : Asked) (bound : Option Key) → names_container o ≡ true → answer_by o w q bound ≡ own_answer (part_at w q.ask.key) q
answer_by-own op.ListContainers w q bound named = cc
answer_by-own o w q bound named = refl

-- an operation that names a container is answered from that container
pub answer_of-own : (w : World (List ℕ)) (q : Asked) (bound : Option Key) → names_container q.ask.op ≡ true → answer_of w q bound ≡ own_answer (part_at w q.ask.key) q
answer_of-own w q bound named = answer_by-own q.ask.op w q bound named

names_one : (o : Op) → lists_names o ≡ false → names_container o ≡ true
names_one op.ListContainers other = cc
names_one op.ListBlobs other = refl
names_one o other = refl

-- an operation that lists no names is answered by what rows have of its container
pub answer_of-rows : (w : World (List ℕ)) (q : Asked) (bound : Option Key) → lists_names q.ask.op ≡ false → answer_of w q bound ≡ rows_answer (part_at w q.ask.key) q
answer_of-rows w q bound other = answer_of-own w q bound (names_one q.ask.op other) ∙ own_answer-rows (part_at w q.ask.key) q other

-- if two options have no first refusal, each of the two is `None`
none_of_two : (a b : Option Refusal) → option_or a b ≡ None → (a ≡ None) × (b ≡ None)
none_of_two None b h = (refl, h)
none_of_two (Some r) b h = cc

-- an option that is mapped to `None` is `None`
pub unmapped : {X Y : Type 0} (f : X → Y) (o : Option X) → option_map f o ≡ None → o ≡ None
unmapped f None h = refl
unmapped f (Some x) h = cc

-- if a rule is named, a refusal names it
pub mapped : (o : Option Refusal) (rule : Rule) → option_map (λ r. r.rule) o ≡ Some rule → (r : Refusal) × (o ≡ Some r)
mapped None rule h = cc
mapped (Some r) rule h = (r, refl)

-- what follows for a request if nothing refuses it
pub record IsUnrefused (keys : Option Keys) (p : Part ℕ) (q : Asked) (t : ℕ) : Type 0 where
  pub permitted : first_rule keys (acl_of p) q.ask t ≡ None
  pub unopposed : object_refusal p q ≡ None

pub unrefused : (keys : Option Keys) (p : Part ℕ) (q : Asked) (t : ℕ) → refusal keys p q t ≡ None → IsUnrefused keys p q t
unrefused keys p q t h =
    let parts = none_of_two (option_map access_refusal (first_rule keys (acl_of p) q.ask t)) (object_refusal p q) h in
    record {
      permitted = unmapped access_refusal (first_rule keys (acl_of p) q.ask t) parts.0;
      unopposed = parts.1;
    }

module _ (keys : Option Keys) (w : World (List ℕ)) (q : Asked) (t : ℕ) (bound : Option Key) where
  abbrev own_part : Part (List ℕ)
  own_part = part_at w q.ask.key

  -- a reply names the rule that refuses the request
  pub rule-reply : (reply keys w q t bound).rule ≡ refusing_rule keys (sizes own_part) q t
  rule-reply = names (refusal keys (sizes own_part) q t) (effect keys w q t) q bound

  -- the own container decides the reply, if the operation names a container
  pub reply-own : names_container q.ask.op ≡ true → reply keys w q t bound ≡ response (refusal keys (sizes own_part) q t) (own_answer (change keys own_part q t) q)
  reply-own named =
      ap (response (refusal keys (sizes own_part) q t)) (answer_of-own (effect keys w q t) q bound named)
      ∙ ap (λ (p : Part (List ℕ)). response (refusal keys (sizes own_part) q t) (own_answer p q)) (part_at-effect byte_count held keys w q t)

  -- if the reply names no rule, nothing refuses the request
  pub reply-unrefused : (reply keys w q t bound).rule ≡ None → refusal keys (sizes own_part) q t ≡ None
  reply-unrefused none = unmapped (λ (r : Refusal). r.rule) (refusal keys (sizes own_part) q t) (sym rule-reply ∙ none)

  -- nothing refuses a request if its own route admits it and the object does not refuse it
  pub refusal-admitted : Admits keys (acl_of own_part) q.ask.credential q.ask t → object_refusal (sizes own_part) q ≡ None → refusal keys (sizes own_part) q t ≡ None
  refusal-admitted admits free =
      ap (λ (o : Option Rule). option_or (option_map access_refusal o) (object_refusal (sizes own_part) q))
      ((by_route keys (acl_of own_part) q.ask t q.ask.credential).1 admits)
      ∙ free

  -- if nothing refuses the request, the reply is what the operation answers from the container after the effect
  pub reply-admitted : refusal keys (sizes own_part) q t ≡ None → reply keys w q t bound ≡ answer_of (effect keys w q t) q bound
  reply-admitted free = ap (λ (o : Option Refusal). response o (answer_of (effect keys w q t) q bound)) free

  -- if the reply names a rule, all containers stay as they are
  pub effect-named : (rule : Rule) → (reply keys w q t bound).rule ≡ Some rule → effect keys w q t ≡ w
  effect-named rule named =
      let there = mapped (refusal keys (sizes own_part) q t) rule (sym rule-reply ∙ named) in
      effect-refused byte_count held keys w q t there.0 there.1

  -- if the reply names no rule, the request's own route admits the request
  pub reply-admits : (reply keys w q t bound).rule ≡ None → Admits keys (acl_of own_part) q.ask.credential q.ask t
  reply-admits none = (by_route keys (acl_of own_part) q.ask t q.ask.credential).0 (unrefused keys (sizes own_part) q t (reply-unrefused none)).permitted
