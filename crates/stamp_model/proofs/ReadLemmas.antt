-- What a request answers from the container and the blob that it names, and what it leaves of them.
use Rattle.std.proofs.Common.{◌≡◌, ℕ, false, List, Option, Some, None, refl, sym, ap, ◌∙◌, unwrap_or}
use Rattle.std.specs.Option.{option_map, option_and_then, option_or}
use Rattle.stamp_values.specs.Operations.{lists_names, writes}
use Rattle.stamp_values.specs.declared.key.Key.{Key}
use Rattle.stamp_values.specs.declared.op.Op.{Op}
use Rattle.stamp_values.specs.declared.op.Op.TheVariants as op
use Rattle.stamp_types.specs.declared.act.Act.{Act}
use Rattle.stamp_types.specs.declared.committed.Committed.{Committed}
use Rattle.stamp_types.specs.declared.refusal.Refusal.{Refusal}
use Rattle.stamp_types.specs.declared.reply.Reply.{Reply}
use Rattle.stamp_types.specs.Pieces.{held}
use Rattle.stamp_types.specs.Replies.{denied}
use Rattle.stamp_types.specs.Requests.{Asked}
use Rattle.stamp_types.specs.World.{Part, World, blob_in, committed_value, part_at, changed}
use Rattle.access_rules.specs.declared.keys.Keys.{Keys}
use Rattle.access_rules.specs.Routes.{Admits}
use Rattle.access_rules.proofs.RouteLaw.{by_route}
use Rattle.row_trees.specs.Access.{acl_of}
use Rattle.range_rows.specs.Frames.{empty_blob, frame_by, standing_read}
use Rattle.range_rows.specs.SentContent.{byte_count, bytes_by, bytes_sent, sizes, with_content}
use Rattle.range_rows.specs.NamedBlobs.{target_blob}
use Rattle.range_rows.specs.ObjectRules.{object_refusal}
use Rattle.range_rows.specs.RequestChanges.{act_by, change_of, part_after}
use Rattle.range_rows.proofs.AnswerLemmas.{named_blob-part_value}
use Rattle.range_rows.proofs.FrameLemmas.{act_by-read}
use Rattle.stamp_model.specs.Refusals.{access_refusal, refusal}
use Rattle.stamp_model.specs.Effects.{unless_refused, world_after, effect}
use Rattle.stamp_model.specs.Responses.{answer_of, response, reply, rows_answer}
use Rattle.stamp_model.specs.Runs.{IsIn, IsOn}
use Rattle.stamp_model.proofs.EffectLemmas.{on_key, part_at-effect}
use Rattle.stamp_model.proofs.ReplyLemmas.{answer_of-rows, reply-unrefused, reply-admitted}
use Rattle.stamp_model.specs.Overrides.{overrides_of}

-- ---- what a request leaves

without_change : (r : Option Refusal) (w : World (List ℕ)) → world_after held (unless_refused r None) w ≡ w
without_change None w = refl
without_change (Some r) w = refl

module _ (keys : Option Keys) (w : World (List ℕ)) (q : Asked) (t : ℕ) where
  -- a request that reads leaves all containers as they are
  pub effect-read : writes q.ask.op ≡ false → effect keys w q t ≡ w
  effect-read reads =
      ap (λ (a : Option Act). world_after held (unless_refused (refusal keys (sizes (part_at w q.ask.key)) q t) (option_map (on_key q.ask.key) a)) w)
      (act_by-read (sizes (part_at w q.ask.key)) q t q.ask.op reads)
      ∙ without_change (refusal keys (sizes (part_at w q.ask.key)) q t) w

  -- the container after a request that nothing refuses is what its act makes of the container, if the container's sizes give this act
  pub part_at-own_act : (bound : Option Key) (key : Key) (a : Act) → q.ask.key ≡ key → (reply keys w q t bound).rule ≡ None → act_by q.ask.op (sizes (part_at w key)) q t ≡ Some a
      → part_at (effect keys w q t) key ≡ changed held a (part_at w key)
  part_at-own_act bound key a same none acts =
      ap (λ (k : Key). part_at (effect keys w q t) k) (sym same)
      ∙ part_at-effect byte_count held keys w q t
      ∙ ap (λ (o : Option Refusal). part_after held (unless_refused o (change_of (sizes (part_at w q.ask.key)) q t)) (part_at w q.ask.key)) (reply-unrefused keys w q t bound none)
      ∙ ap (λ (o : Option Act). part_after held (option_map (on_key q.ask.key) o) (part_at w q.ask.key)) (ap (λ (k : Key). act_by q.ask.op (sizes (part_at w k)) q t) same ∙ acts)
      ∙ ap (λ (k : Key). changed held a (part_at w k)) same

  -- the same, if the sizes of any container give this act
  pub part_at-act : (bound : Option Key) (key : Key) (a : Act) → q.ask.key ≡ key → (reply keys w q t bound).rule ≡ None → ((z : Part ℕ) → act_by q.ask.op z q t ≡ Some a)
      → part_at (effect keys w q t) key ≡ changed held a (part_at w key)
  part_at-act bound key a same none acts = part_at-own_act bound key a same none (acts (sizes (part_at w key)))

-- ---- what a request answers

module _ (v : World (List ℕ)) (q : Asked) where
  -- the answer to the operation in this container, if this is what readers see of the blob
  abbrev pub answer : Op → Key → Option (Committed (List ℕ)) → Reply
  answer o k c =
      with_content (frame_by (overrides_of q.ask) o q (standing_read (part_at v k)) (unwrap_or (option_map (committed_value byte_count) c) empty_blob) (target_blob (sizes (part_at v k)) q.ask)) (bytes_by o q.ask.args.range (unwrap_or c empty_blob))

  abbrev seen : Key → Option (List ℕ) → Option (Committed (List ℕ))
  seen k blob = option_and_then (λ name. (blob_in (part_at v k) name).committed) blob

  reply_of-seen : rows_answer (part_at v q.ask.key) q ≡ answer q.ask.op q.ask.key (seen q.ask.key q.ask.blob)
  reply_of-seen =
      ap (λ (c : Option (Committed ℕ)). with_content (frame_by (overrides_of q.ask) q.ask.op q (standing_read (part_at v q.ask.key)) (unwrap_or c empty_blob) (target_blob (sizes (part_at v q.ask.key)) q.ask)) (bytes_sent (part_at v q.ask.key) q))
      (named_blob-part_value byte_count (part_at v q.ask.key) q.ask)

  reply_of-on : (o : Op) (key : Key) (name : List ℕ) → IsOn o key name q → rows_answer (part_at v q.ask.key) q ≡ answer o key (blob_in (part_at v key) name).committed
  reply_of-on o key name on = reply_of-seen ∙ (λ i. answer (on.op i) (on.container i) (seen (on.container i) (on.blob i)))

  reply_of-in : (o : Op) (key : Key) → IsIn o key q → rows_answer (part_at v q.ask.key) q ≡ answer o key (seen key q.ask.blob)
  reply_of-in o key is_in = reply_of-seen ∙ (λ i. answer (is_in.op i) (is_in.container i) (seen (is_in.container i) q.ask.blob))

module _ (keys : Option Keys) (w : World (List ℕ)) (q : Asked) (t : ℕ) (bound : Option Key) (none : (reply keys w q t bound).rule ≡ None) where
  answered : lists_names q.ask.op ≡ false → reply keys w q t bound ≡ rows_answer (part_at (effect keys w q t) q.ask.key) q
  answered other = reply-admitted keys w q t bound (reply-unrefused keys w q t bound none) ∙ answer_of-rows (effect keys w q t) q bound other

  -- the reply to a request that reads is what the operation answers from the container as it is
  pub read_before : (o : Op) → q.ask.op ≡ o → lists_names o ≡ false → writes o ≡ false → reply keys w q t bound ≡ rows_answer (part_at w q.ask.key) q
  read_before o is other reads = answered (ap lists_names is ∙ other) ∙ ap (λ (v : World (List ℕ)). rows_answer (part_at v q.ask.key) q) (effect-read keys w q t (ap writes is ∙ reads))

  -- the reply to a request that writes is about the blob as it is after the request
  pub reply-write : (o : Op) (key : Key) (name : List ℕ) (c : Committed (List ℕ)) → lists_names o ≡ false → IsOn o key name q → (blob_in (part_at (effect keys w q t) key) name).committed ≡ Some c
      → reply keys w q t bound ≡ answer (effect keys w q t) q o key (Some c)
  reply-write o key name c other on there = answered (ap lists_names on.op ∙ other) ∙ reply_of-on (effect keys w q t) q o key name on ∙ ap (λ (c : Option (Committed (List ℕ))). answer (effect keys w q t) q o key c) there

  -- the reply to a request that reads is about the blob as it is
  pub reply-read : (o : Op) (key : Key) (name : List ℕ) (c : Committed (List ℕ)) → lists_names o ≡ false → writes o ≡ false → IsOn o key name q → (blob_in (part_at w key) name).committed ≡ Some c
      → reply keys w q t bound ≡ answer w q o key (Some c)
  reply-read o key name c other reads on there = read_before o on.op other reads ∙ reply_of-on w q o key name on ∙ ap (λ (c : Option (Committed (List ℕ))). answer w q o key c) there

  -- the reply to a request that writes is about the container as it is after the request
  pub reply-write_in : (o : Op) (key : Key) → lists_names o ≡ false → IsIn o key q → reply keys w q t bound ≡ answer (effect keys w q t) q o key (seen (effect keys w q t) q key q.ask.blob)
  reply-write_in o key other is_in = answered (ap lists_names is_in.op ∙ other) ∙ reply_of-in (effect keys w q t) q o key is_in

  -- the reply to a request that reads is about the container as it is
  pub reply-read_in : (o : Op) (key : Key) → lists_names o ≡ false → writes o ≡ false → IsIn o key q → reply keys w q t bound ≡ answer w q o key (seen w q key q.ask.blob)
  reply-read_in o key other reads is_in = read_before o is_in.op other reads ∙ reply_of-in w q o key is_in

-- a request that permission admits, and that the object refuses, is answered with the refusal by the object
pub reply-refused : (keys : Option Keys) (w : World (List ℕ)) (q : Asked) (t : ℕ) (bound : Option Key) (r : Refusal) → Admits keys (acl_of (part_at w q.ask.key)) q.ask.credential q.ask t
    → object_refusal (sizes (part_at w q.ask.key)) q ≡ Some r → reply keys w q t bound ≡ denied r
reply-refused keys w q t bound r admits refused =
    λ i. response (option_or (option_map access_refusal ((by_route keys (acl_of (part_at w q.ask.key)) q.ask t q.ask.credential).1 admits i))
    (refused i)) (answer_of (effect keys w q t) q bound)
