-- What is decided on a request.
use Rattle.std.proofs.Common.{◌≡◌, ◌≤◌, ◌<◌, ◌⊎◌, inl, inr, ℕ, ◌+◌, arith, false, List, [], length, Option, Some, None, refl, sym, ap, ◌∙◌, subst}
use Rattle.std.specs.Prelude.{Result, Ok, Err, IfOk}
use Rattle.std.specs.List.{list_all}
use Rattle.std.specs.Option.{option_map, option_or}
use Rattle.std.specs.declared.alloc.AllocError.{AllocError}
use Rattle.stamp_values.specs.Operations.{writes}
use Rattle.stamp_values.specs.declared.key.Key.{Key}
use Rattle.stamp_values.specs.declared.condition.ByteRange.{ByteRange}
use Rattle.stamp_values.specs.declared.op.Op.{Op}
use Rattle.stamp_values.specs.declared.op.Op.TheVariants as op
use Rattle.stamp_types.specs.declared.committed.Committed.{Committed}
use Rattle.stamp_types.specs.declared.piece.Piece.{Piece}
use Rattle.stamp_types.specs.declared.refusal.Refusal.{Refusal}
use Rattle.stamp_types.specs.declared.reply.Reply.{Reply}
use Rattle.stamp_types.specs.declared.rule.Rule.{Rule}
use Rattle.stamp_types.specs.declared.standing.Standing.{Standing}
use Rattle.stamp_types.specs.Changes.{KeyedAct}
use Rattle.stamp_types.specs.Requests.{Asked}
use Rattle.stamp_types.specs.World.{Blob, Part, World}
use Rattle.access_rules.specs.declared.judgement.Verdict.TheVariants.{Allow, Deny}
use Rattle.access_rules.specs.declared.judgement.Way.{Way}
use Rattle.access_rules.specs.declared.keys.Keys.{Keys}
use Rattle.access_rules.specs.Rules.{first_rule, verdict_by, verdict_of, way_of}
use Rattle.block_blobs.specs.declared.found_blocks.FoundBlocks.{FoundBlocks}
use Rattle.row_trees.specs.Access.{acl_of}
use Rattle.range_rows.specs.declared.answer.FramedAnswer.{FramedAnswer}
use Rattle.range_rows.specs.declared.answer.Span.{Span}
use Rattle.row_trees.specs.FoundParts.{sizes_found}
use Rattle.range_rows.specs.Judgements.{IsAllowed, blocks_found}
use Rattle.range_rows.specs.NamedBlobs.{target_blob}
use Rattle.range_rows.specs.declared.judged.Allowed.{Allowed}
use Rattle.range_rows.specs.declared.target.Target.{Target}
use Rattle.range_rows.specs.Frames.{blob_read, frame, frame_by, ranged_frame, standing_read}
use Rattle.range_rows.specs.Replaced.{Replaced}
use Rattle.range_rows.specs.SentContent.{AreShort, is_within, spans, spans_by, spans_len}
use Rattle.range_rows.specs.ObjectRules.{object_refusal}
use Rattle.range_rows.specs.RequestChanges.{change_of}
use Rattle.range_rows.proofs.FrameLemmas.{act_by-read}
use Rattle.stamp_model.specs.Refusals.{access_refusal}
use Rattle.stamp_model.proofs.EffectLemmas.{on_key}
use Rattle.stamp_model.proofs.ReplyLemmas.{unrefused}
use Rattle.range_partition.specs.Decisions.{CanBeSent, found_refusal, framed_by, row_answer}
use Rattle.range_partition.specs.declared.framed.FramedDecision.{FramedDecision}
use Rattle.range_partition.specs.declared.framed.FramedDecision.TheVariants as framed

-- ---- the verdict

denied_by : (rule : Option Rule) (way : Way) (r : Rule) → verdict_by rule way ≡ Deny r → rule ≡ Some r
denied_by None way r e = cc
denied_by (Some x) way r e = let same : x ≡ r = cc in ap Some same

allowed_by : (rule : Option Rule) (way w : Way) → verdict_by rule way ≡ Allow w → rule ≡ None
allowed_by None way w e = refl
allowed_by (Some x) way w e = cc

module _ (keys : Option Keys) (p : Part (List Piece)) (q : Asked) (t : ℕ) where
  by_first : (o : Option Rule) → first_rule keys (acl_of p) q.ask t ≡ o → option_or (option_map access_refusal o) (object_refusal (sizes_found p) q) ≡ found_refusal keys p q t
  by_first o e = sym (ap (λ (o : Option Rule). option_or (option_map access_refusal o) (object_refusal (sizes_found p) q)) e)

  -- a verdict that denies gives the refusal
  pub refusal_denied : (r : Rule) → Deny r ≡ verdict_of keys (acl_of p) q.ask t → Some (access_refusal r) ≡ found_refusal keys p q t
  refusal_denied r e = by_first (Some r) (denied_by _ (way_of q.ask.credential) r (sym e))

  -- a verdict that allows leaves the refusal to the object
  pub refusal_allowed : (way : Way) → Allow way ≡ verdict_of keys (acl_of p) q.ask t → object_refusal (sizes_found p) q ≡ found_refusal keys p q t
  refusal_allowed way e = by_first None (allowed_by _ (way_of q.ask.credential) way (sym e))

  -- if nothing refuses a request, the object does not refuse it
  pub unopposed : None ≡ found_refusal keys p q t → object_refusal (sizes_found p) q ≡ None
  unopposed free = (unrefused keys (sizes_found p) q t (sym free)).unopposed

-- ---- the decision

-- a request that is decided to be refused before its content is read has this refusal
pub framed_refused : (o : Option Refusal) (answer : FramedAnswer) (change : Option KeyedAct) (found : FoundBlocks) (r : Refusal) → framed.Refused r ≡ framed_by o answer change found → o ≡ Some r
framed_refused None answer change found r e = cc
framed_refused (Some x) answer change found r e = let same : x ≡ r = cc in ap Some same

-- nothing refuses a request that is decided to be allowed, and it has this answer, this change and these blocks
pub framed_allowed : (o : Option Refusal) (answer given : FramedAnswer) (change made : Option KeyedAct) (found blocks : FoundBlocks)
    → framed.Allowed given made blocks ≡ framed_by o answer change found → (o ≡ None) × ((given ≡ answer) × ((made ≡ change) × (blocks ≡ found)))
framed_allowed None answer given change made found blocks e = (refl, (ap answer_told e, (ap change_told e, ap found_told e)))
  where
    answer_told : FramedDecision → FramedAnswer
    answer_told (framed.Allowed r c bs) = r
    answer_told (framed.Refused r) = answer

    change_told : FramedDecision → Option KeyedAct
    change_told (framed.Allowed r c bs) = c
    change_told (framed.Refused r) = None

    found_told : FramedDecision → FoundBlocks
    found_told (framed.Allowed r c bs) = bs
    found_told (framed.Refused r) = found
framed_allowed (Some x) answer given change made found blocks e = cc

module _ (w : World (List Piece)) (q : Asked) (t : ℕ) (bound : Option Key) where
  -- what is decided on a permitted request, from its container
  abbrev permitted : Part (List Piece) → FramedDecision
  permitted p = framed_by (object_refusal (sizes_found p) q) (row_answer w p q t bound) (change_of (sizes_found p) q t) (blocks_found p q).blocks

  -- a request that the object refuses is refused by this
  pub object_refused : (p : Part (List Piece)) (r : Refusal) → Some r ≡ object_refusal (sizes_found p) q → framed.Refused r ≡ permitted p
  object_refused p r is = ap (λ o. framed_by o (row_answer w p q t bound) (change_of (sizes_found p) q t) (blocks_found p q).blocks) is

  -- a request that nothing refuses has its answer, its change and its blocks
  allowed_decided : (a : Allowed) (target : Target) → IsAllowed a q → a.target ≡ target
      → framed.Allowed (row_answer w a.target.container q t bound) (change_of (sizes_found a.target.container) q t) a.found.blocks ≡ permitted target.container
  allowed_decided a target is same =
      (λ i. framed_by (sym is.1 i) (row_answer w a.target.container q t bound) (change_of (sizes_found a.target.container) q t) (is.2 i).blocks)
      ∙ ap (λ (target : Target). permitted target.container) same

  pub given_allowed : (a : Allowed) (target : Target) (given : Result FramedDecision AllocError) → IsAllowed a q → a.target ≡ target
      → IfOk given (λ given. given ≡ framed.Allowed (row_answer w a.target.container q t bound) (change_of (sizes_found a.target.container) q t) a.found.blocks)
      → IfOk given (λ given. given ≡ permitted target.container)
  given_allowed a target (Ok given) is same made = made ∙ allowed_decided a target is same
  given_allowed a target (Err fault) is same made = tt

-- ---- memory

ranged_body : (v : Replaced) (range : Option ByteRange) (c : Committed ℕ) → (ranged_frame v range c).body ≡ []
ranged_body v None c = refl
ranged_body v (Some r) c = refl

-- a frame has no body of its own, or nothing goes out after it
one_body : (v : Replaced) (o : Op) (q : Asked) (s : Standing) (c : Committed ℕ) (b : Blob ℕ) (range : Option ByteRange) (d : Committed (List Piece))
    → ((frame_by v o q s c b).body ≡ []) ⊎ (spans_by o range d ≡ [])
one_body v op.CreateContainer q s c b range d = inl refl
one_body v op.ContainerProperties q s c b range d = inl refl
one_body v op.SetContainerMetadata q s c b range d = inl refl
one_body v op.DeleteContainer q s c b range d = inl refl
one_body v op.PutBlob q s c b range d = inl refl
one_body v op.GetBlob q s c b range d = inl (ranged_body v q.ask.args.range c)
one_body v op.BlobProperties q s c b range d = inl refl
one_body v op.GetMetadata q s c b range d = inl refl
one_body v op.SetMetadata q s c b range d = inl refl
one_body v op.DeleteBlob q s c b range d = inl refl
one_body v op.PutBlock q s c b range d = inl refl
one_body v op.PutBlockList q s c b range d = inl refl
one_body v op.GetAcl q s c b range d = inr refl
one_body v op.GetBlockList q s c b range d = inr refl
one_body v other q s c b range d = inl refl

fits_by : (body : List ℕ) (ss : List Span) → (body ≡ []) ⊎ (ss ≡ []) → spans_len ss ≤ 268435456 → AreShort body ss
fits_by body ss (inl none) short = inr (subst (λ (bs : List ℕ). length bs + spans_len ss < 18446744073709551616) (sym none) (omega (arith, short)))
fits_by body ss (inr none) short = inl none

-- a frame and its spans fit in memory
pub fits_memory : (v : Replaced) (r : Reply) (p : Part ℕ) (d : Part (List Piece)) (q : Asked) (ss : List Span) → r ≡ frame v p q → ss ≡ spans d q
    → spans_len ss ≤ 268435456 → AreShort r.body ss
fits_memory v r p d q ss is out short =
    fits_by r.body ss
    (subst (λ (r : Reply). (r.body ≡ []) ⊎ (ss ≡ [])) (sym is)
    (subst (λ (ss : List Span). ((frame v p q).body ≡ []) ⊎ (ss ≡ [])) (sym out)
    (one_body v q.ask.op q (standing_read p) (blob_read p q.ask) (target_blob p q.ask) q.ask.args.range (blob_read d q.ask))))
    short

-- an answer without content fits
pub sent_whole : (a : FramedAnswer) → a.spans ≡ [] → CanBeSent a
sent_whole a none = record { within = ap (list_all is_within) none; short = inl none }

-- ---- the change

-- a request that reads has no change
pub no_change : (z : Part ℕ) (q : Asked) (t : ℕ) → writes q.ask.op ≡ false → None ≡ change_of z q t
no_change z q t reads = sym (ap (option_map (on_key q.ask.key)) (act_by-read z q t q.ask.op reads))
