-- What a request with conditions found if nothing refuses it, and what it is without them.
use Rattle.std.proofs.Common.{◌≡◌, ◌≢◌, ℕ, Bool, true, false, not, ◌&&◌, List, [], ◌++◌, Option, Some, None, IfSome, IsSomeAnd, arith, nat_eq, refl, sym, ap, ◌∙◌}
use Rattle.std.proofs.lemmas.Bool.{ne_eqb}
use Rattle.std.proofs.lemmas.Bool.Decides.{nat_tests}
use Rattle.std.proofs.lemmas.List.{append-nil}
use Rattle.std.specs.Prelude.{is_some}
use Rattle.std.specs.Option.{option_map, option_and_then}
use Rattle.stamp_values.specs.Operations.{has_conditions, writes}
use Rattle.stamp_values.specs.declared.condition.Condition.{Condition}
use Rattle.stamp_values.specs.declared.condition.Condition.TheVariants as condition
use Rattle.stamp_values.specs.declared.key.Key.{Key}
use Rattle.stamp_values.specs.declared.op.Op.{Op}
use Rattle.stamp_values.specs.declared.op.Op.TheVariants as op
use Rattle.stamp_types.specs.declared.act.Act.{Act}
use Rattle.stamp_types.specs.declared.committed.Committed.{Committed}
use Rattle.stamp_types.specs.declared.past.Past.{Past}
use Rattle.stamp_types.specs.declared.refusal.Refusal.{Refusal}
use Rattle.stamp_types.specs.declared.reply.Reply.{Reply}
use Rattle.stamp_types.specs.declared.standing.Standing.{Standing}
use Rattle.stamp_types.specs.EffectKinds.{EtagsAtMost}
use Rattle.stamp_types.specs.Pieces.{held}
use Rattle.stamp_types.specs.Requests.{Asked, IsAsk}
use Rattle.stamp_types.specs.World.{Blob, Part, World, blob_in, committed_value, part_at}
use Rattle.access_rules.specs.declared.keys.Keys.{Keys}
use Rattle.range_rows.specs.Frames.{blob_read, frame_by, standing_read}
use Rattle.range_rows.specs.SentContent.{byte_count, bytes_by, sizes, with_content}
use Rattle.range_rows.specs.NamedBlobs.{target_blob}
use Rattle.range_rows.specs.ObjectRules.{Cause, cause_holds, fails_if_match, fails_if_none_match, is_any, matches, meets, misses, named_blob}
use Rattle.range_rows.specs.ObjectRules.Cause.{BlobExists, IsNotModified, MatchFails, NoneMatchFails}
use Rattle.range_rows.specs.RequestChanges.{act_by, change_of}
use Rattle.range_rows.proofs.AnswerLemmas.{named_blob-part_value}
use Rattle.stamp_model.specs.Conditions.{MeetsConditions, MeetsIfMatch, MeetsIfNoneMatch, without_conditions}
use Rattle.stamp_model.specs.Effects.{effect, unless_refused, world_after}
use Rattle.stamp_model.specs.Histories.{IsAccepted, pair_of, replay}
use Rattle.stamp_model.specs.Refusals.{refusal}
use Rattle.stamp_model.specs.Responses.{answer_by, answer_of, own_answer_by, reply, response, rows_answer}
use Rattle.stamp_model.specs.Runs.{Timed, world_after_all, reply_to_one}
use Rattle.stamp_model.proofs.ArgumentLemmas.{free-with_args, no_cause, refusal-with_args}
use Rattle.stamp_model.proofs.EffectLemmas.{effect-refused, on_key}
use Rattle.stamp_model.proofs.EtagLemmas.{one_state-replayed, one_state-run}
use Rattle.stamp_model.proofs.ReplyLemmas.{reply-unrefused}
use Rattle.stamp_model.specs.Overrides.{overrides_of}

-- ---- what a condition says of a blob

equal_numbers : (m n : ℕ) → nat_eq m n ≡ true → m ≡ n
equal_numbers m n h = grind (arith, nat_tests)

other_numbers : (m n : ℕ) → nat_eq m n ≡ false → m ≢ n
other_numbers m n h same = grind (arith, nat_tests)

module _ {C : Type 0} where
  etag_matched : (o : Option (Committed C)) (etag : ℕ) → matches o (condition.Count etag) ≡ true → IsSomeAnd o (λ c. c.etag ≡ etag)
  etag_matched None etag h = cc
  etag_matched (Some c) etag h = equal_numbers c.etag etag h

  any_matched : (o : Option (Committed C)) → matches o condition.Any ≡ true → is_some o ≡ true
  any_matched None h = cc
  any_matched (Some c) h = refl

  never_matched : (o : Option (Committed C)) → matches o condition.Never ≡ true → ⊥
  never_matched None h = cc
  never_matched (Some c) h = cc

  any_unmatched : (o : Option (Committed C)) → matches o condition.Any ≡ false → o ≡ None
  any_unmatched None h = refl
  any_unmatched (Some c) h = cc

  etag_unmatched : (o : Option (Committed C)) (etag : ℕ) → matches o (condition.Count etag) ≡ false → IfSome o (λ c. c.etag ≢ etag)
  etag_unmatched None etag h = tt
  etag_unmatched (Some c) etag h = other_numbers c.etag etag h

  matched_any : (o : Option (Committed C)) → is_some o ≡ true → matches o condition.Any ≡ true
  matched_any None there = cc
  matched_any (Some c) there = refl

  matched_etag : (o : Option (Committed C)) (etag : ℕ) → IsSomeAnd o (λ c. c.etag ≡ etag) → matches o (condition.Count etag) ≡ true
  matched_etag None etag there = absurd there
  matched_etag (Some c) etag same = grind (arith, nat_tests)

  unmatched_any : (o : Option (Committed C)) → o ≡ None → matches o condition.Any ≡ false
  unmatched_any None none = refl
  unmatched_any (Some c) none = cc

  unmatched_etag : (o : Option (Committed C)) (etag : ℕ) → IfSome o (λ c. c.etag ≢ etag) → matches o (condition.Count etag) ≡ false
  unmatched_etag None etag other = refl
  unmatched_etag (Some c) etag other = ne_eqb c.etag etag other

  unmatched_never : (o : Option (Committed C)) → matches o condition.Never ≡ false
  unmatched_never None = refl
  unmatched_never (Some c) = refl

-- the content of a blob may be read before a condition is judged or after it
matches-read : {C D : Type 0} (f : C → D) (o : Option (Committed C)) (wanted : Condition) → matches (option_map (committed_value f) o) wanted ≡ matches o wanted
matches-read f None wanted = refl
matches-read f (Some c) condition.Any = refl
matches-read f (Some c) (condition.Count etag) = refl
matches-read f (Some c) condition.Never = refl

-- ---- what is found if no cause to refuse the request exists

sent_and_failed : (sent b : Bool) → sent ≡ true → (sent && not b) ≡ false → b ≡ true
sent_and_failed true true s h = refl
sent_and_failed true false s h = cc
sent_and_failed false b s h = cc

sent_and_held : (sent b : Bool) → sent ≡ true → (sent && b) ≡ false → b ≡ false
sent_and_held true b s h = h
sent_and_held false b s h = cc

none_of_three : (writes any fails : Bool) → (not writes && fails) ≡ false → (writes && (any && fails)) ≡ false → (writes && (not any && fails)) ≡ false → fails ≡ false
none_of_three false any fails reads some other = reads
none_of_three true true fails reads some other = some
none_of_three true false fails reads some other = other

module _ (p : Part (List ℕ)) (q : Asked) (fits : IsAsk q.ask) where
  abbrev named : Option (Committed (List ℕ))
  named = named_blob p q.ask

  as_read : (wanted : Condition) → matches (named_blob (sizes p) q.ask) wanted ≡ matches named wanted
  as_read wanted = ap (λ (o : Option (Committed ℕ)). matches o wanted) (named_blob-part_value byte_count p q.ask) ∙ matches-read byte_count named wanted

  matched : fails_if_match (sizes p) q.ask ≡ false → (wanted : Condition) → q.ask.args.if_match ≡ Some wanted → matches named wanted ≡ true
  matched met wanted is =
      sym (as_read wanted)
      ∙ sent_and_failed (has_conditions q.ask.op) (matches (named_blob (sizes p) q.ask) wanted) (fits.no_more.if_match (ap (λ (o : Option Condition). is_some o) is))
      (sym (ap (λ (o : Option Condition). has_conditions q.ask.op && misses (named_blob (sizes p) q.ask) o) is) ∙ met)

  unmatched : fails_if_none_match (sizes p) q.ask ≡ false → (wanted : Condition) → q.ask.args.if_none_match ≡ Some wanted → matches named wanted ≡ false
  unmatched met wanted is =
      sym (as_read wanted)
      ∙ sent_and_held (has_conditions q.ask.op) (matches (named_blob (sizes p) q.ask) wanted) (fits.no_more.if_none_match (ap (λ (o : Option Condition). is_some o) is))
      (sym (ap (λ (o : Option Condition). has_conditions q.ask.op && meets (named_blob (sizes p) q.ask) o) is) ∙ met)

  -- if If-Match does not fail, it is true
  pub meets_if_match : fails_if_match (sizes p) q.ask ≡ false → MeetsIfMatch p q.ask
  meets_if_match met = record {
    has_etag = λ etag is. etag_matched named etag (matched met (condition.Count etag) is);
    is_seen = λ is. any_matched named (matched met condition.Any is);
    may_match = λ is. never_matched named (matched met condition.Never is);
  }

  -- if If-None-Match does not fail, it is true
  pub meets_if_none_match : fails_if_none_match (sizes p) q.ask ≡ false → MeetsIfNoneMatch p q.ask
  meets_if_none_match met = record {
    is_unseen = λ is. any_unmatched named (unmatched met condition.Any is);
    has_another_etag = λ etag is. etag_unmatched named etag (unmatched met (condition.Count etag) is);
  }

  pub meets_conditions : ((c : Cause) → cause_holds (sizes p) q c ≡ false) → MeetsConditions p q.ask
  meets_conditions unopposed = record {
    if_match = meets_if_match (unopposed MatchFails);
    if_none_match = meets_if_none_match
        (none_of_three (writes q.ask.op) (is_any q.ask.args.if_none_match) (fails_if_none_match (sizes p) q.ask) (unopposed IsNotModified) (unopposed BlobExists) (unopposed NoneMatchFails));
  }

module _ (keys : Option Keys) (w : World (List ℕ)) (q : Asked) (t : ℕ) (fits : IsAsk q.ask) where
  abbrev own_sizes : Part ℕ
  own_sizes = sizes (part_at w q.ask.key)

  -- if nothing refuses a request, its conditions are true
  met : refusal keys own_sizes q t ≡ None → MeetsConditions (part_at w q.ask.key) q.ask
  met free = meets_conditions (part_at w q.ask.key) q fits (no_cause keys own_sizes q t free)

  -- the conditions of a request whose reply names no rule are true before the request
  pub met-answered : (bound : Option Key) → (reply keys w q t bound).rule ≡ None → MeetsConditions (part_at w q.ask.key) q.ask
  met-answered bound none = met (reply-unrefused keys w q t bound none)

  by_refusal : (r : Option Refusal) → refusal keys own_sizes q t ≡ r → effect keys w q t ≢ w → MeetsConditions (part_at w q.ask.key) q.ask
  by_refusal None is changes = met is
  by_refusal (Some r) is changes = absurd (changes (effect-refused byte_count held keys w q t r is))

  -- the conditions of a request that changes something are true before the request
  pub met-changed : effect keys w q t ≢ w → MeetsConditions (part_at w q.ask.key) q.ask
  met-changed changes = by_refusal (refusal keys own_sizes q t) refl changes

-- ---- what is judged if a condition is true

module _ (p : Part (List ℕ)) (q : Asked) where
  found : (wanted : Condition) → matches (named_blob (sizes p) q.ask) wanted ≡ matches (named_blob p q.ask) wanted
  found wanted = ap (λ (o : Option (Committed ℕ)). matches o wanted) (named_blob-part_value byte_count p q.ask) ∙ matches-read byte_count (named_blob p q.ask) wanted

  pub not_missed : MeetsIfMatch p q.ask → (o : Option Condition) → q.ask.args.if_match ≡ o → misses (named_blob (sizes p) q.ask) o ≡ false
  not_missed met None is = refl
  not_missed met (Some condition.Any) is = ap (λ (b : Bool). not b) (found condition.Any ∙ matched_any (named_blob p q.ask) (met.is_seen is))
  not_missed met (Some (condition.Count etag)) is = ap (λ (b : Bool). not b) (found (condition.Count etag) ∙ matched_etag (named_blob p q.ask) etag (met.has_etag etag is))
  not_missed met (Some condition.Never) is = absurd (met.may_match is)

  not_met : MeetsIfNoneMatch p q.ask → (o : Option Condition) → q.ask.args.if_none_match ≡ o → meets (named_blob (sizes p) q.ask) o ≡ false
  not_met met None is = refl
  not_met met (Some condition.Any) is = found condition.Any ∙ unmatched_any (named_blob p q.ask) (met.is_unseen is)
  not_met met (Some (condition.Count etag)) is = found (condition.Count etag) ∙ unmatched_etag (named_blob p q.ask) etag (met.has_another_etag etag is)
  not_met met (Some condition.Never) is = found condition.Never ∙ unmatched_never (named_blob p q.ask)

-- ---- a caller that has seen the blob

some_with : {C : Type 0} (o : Option (Committed C)) (etag : ℕ) → IsSomeAnd o (λ c. c.etag ≡ etag) → (c : Committed C) × (o ≡ Some c) × (c.etag ≡ etag)
some_with None etag h = absurd h
some_with (Some c) etag h = (c, refl, h)

-- an accepted entry whose If-Match has the ETag that its caller saw finds the blob as the caller saw it
pub seen-accepted : (pairs : List Keys) (key : Key) (front middle : List Past) (e : Past) (name : List ℕ) (seen : Committed (List ℕ)) → IsAsk e.request.ask → e.request.ask.blob ≡ Some name
    → e.request.ask.args.if_match ≡ Some (condition.Count seen.etag) → (blob_in (replay pairs front) name).committed ≡ Some seen → IsAccepted pairs key (replay pairs (front ++ middle)) e
    → (blob_in (replay pairs (front ++ middle)) name).committed ≡ Some seen
seen-accepted pairs key front middle e name seen fits on asks at_first new =
    let p : Part (List ℕ) = replay pairs (front ++ middle) in
    let found = some_with (named_blob p e.request.ask) seen.etag
    ((meets_conditions p e.request fits (no_cause (pair_of pairs e.epoch) (sizes p) e.request e.moment new.allowed)).if_match.has_etag seen.etag asks) in
    let at_last : (blob_in p name).committed ≡ Some found.0 =
    sym (ap (λ (blob : Option (List ℕ)). option_and_then (λ name. (blob_in p name).committed) blob) on) ∙ found.1 in
    one_state-replayed pairs front middle [] name seen found.0 at_first
    (ap (λ (history : List Past). (blob_in (replay pairs history) name).committed) (append-nil (front ++ middle)) ∙ at_last) (sym found.2)

-- the same of a request that is answered after requests in turn
pub seen-answered : (w : World (List ℕ)) (front middle : List Timed) (r : Timed) (name : List ℕ) (seen : Committed (List ℕ))
    → EtagsAtMost (part_at w r.request.ask.key).count (part_at w r.request.ask.key) → IsAsk r.request.ask → r.request.ask.blob ≡ Some name
    → r.request.ask.args.if_match ≡ Some (condition.Count seen.etag) → (blob_in (part_at (world_after_all w front) r.request.ask.key) name).committed ≡ Some seen
    → (reply_to_one (world_after_all w (front ++ middle)) r).rule ≡ None → (blob_in (part_at (world_after_all w (front ++ middle)) r.request.ask.key) name).committed ≡ Some seen
seen-answered w front middle r name seen within fits on asks at_first none =
    let key : Key = r.request.ask.key in
    let v : World (List ℕ) = world_after_all w (front ++ middle) in
    let found = some_with (named_blob (part_at v key) r.request.ask) seen.etag ((met-answered r.keys v r.request r.moment fits r.bound none).if_match.has_etag seen.etag asks) in
    let at_last : (blob_in (part_at v key) name).committed ≡ Some found.0 =
    sym (ap (λ (blob : Option (List ℕ)). option_and_then (λ name. (blob_in (part_at v key) name).committed) blob) on) ∙ found.1 in
    one_state-run w key within front middle [] name seen found.0 at_first
    (ap (λ (rs : List Timed). (blob_in (part_at (world_after_all w rs) key) name).committed) (append-nil (front ++ middle)) ∙ at_last) (sym found.2)

-- ---- a request without its conditions

pub and_false : (b : Bool) → (b && false) ≡ false
and_false true = refl
and_false false = refl

alike_if_any : (writes any sent : Bool) → (writes && false) ≡ (writes && (any && (sent && false)))
alike_if_any writes true sent = ap (λ (b : Bool). writes && b) (sym (and_false sent))
alike_if_any writes false sent = refl

alike_if_other : (writes other sent : Bool) → (writes && (sent && false)) ≡ (writes && (other && (sent && false)))
alike_if_other writes true sent = refl
alike_if_other writes false sent = ap (λ (b : Bool). writes && b) (and_false sent)

module _ (q : Asked) where
  abbrev bare : Asked
  bare = without_conditions q

  -- to take the conditions away adds no cause to refuse a request
  fewer_causes : (p : Part ℕ) (c : Cause) → cause_holds p q c ≡ false → cause_holds p bare c ≡ false
  fewer_causes p MatchFails h = and_false (has_conditions q.ask.op)
  fewer_causes p IsNotModified h = ap (λ (b : Bool). not (writes q.ask.op) && b) (and_false (has_conditions q.ask.op)) ∙ and_false (not (writes q.ask.op))
  fewer_causes p BlobExists h = and_false (writes q.ask.op)
  fewer_causes p NoneMatchFails h = ap (λ (b : Bool). writes q.ask.op && b) (and_false (has_conditions q.ask.op)) ∙ and_false (writes q.ask.op)
  fewer_causes p other h = h

  -- if the conditions are true, the causes to refuse a request are the same without them
  module _ (p : Part (List ℕ)) (met : MeetsConditions p q.ask) where
    same_causes : (c : Cause) → cause_holds (sizes p) bare c ≡ cause_holds (sizes p) q c
    same_causes MatchFails = ap (λ (b : Bool). has_conditions q.ask.op && b) (sym (not_missed p q met.if_match q.ask.args.if_match refl))
    same_causes IsNotModified = ap (λ (b : Bool). not (writes q.ask.op) && (has_conditions q.ask.op && b)) (sym (not_met p q met.if_none_match q.ask.args.if_none_match refl))
    same_causes BlobExists =
        alike_if_any (writes q.ask.op) (is_any q.ask.args.if_none_match) (has_conditions q.ask.op)
        ∙ ap (λ (b : Bool). writes q.ask.op && (is_any q.ask.args.if_none_match && (has_conditions q.ask.op && b))) (sym (not_met p q met.if_none_match q.ask.args.if_none_match refl))
    same_causes NoneMatchFails =
        alike_if_other (writes q.ask.op) (not (is_any q.ask.args.if_none_match)) (has_conditions q.ask.op)
        ∙ ap (λ (b : Bool). writes q.ask.op && (not (is_any q.ask.args.if_none_match) && (has_conditions q.ask.op && b))) (sym (not_met p q met.if_none_match q.ask.args.if_none_match refl))
    same_causes other = refl

  act_by-bare : (o : Op) (z : Part ℕ) (t : ℕ) → act_by o z bare t ≡ act_by o z q t
  act_by-bare op.CreateContainer z t = refl
  act_by-bare other z t = refl

  change_of-bare : (z : Part ℕ) (t : ℕ) → change_of z bare t ≡ change_of z q t
  change_of-bare z t = ap (λ (a : Option Act). option_map (on_key q.ask.key) a) (act_by-bare q.ask.op z t)

  frame_by-bare : (o : Op) (s : Standing) (c : Committed ℕ) (b : Blob ℕ) → frame_by (overrides_of q.ask) o bare s c b ≡ frame_by (overrides_of q.ask) o q s c b
  frame_by-bare op.CreateContainer s c b = refl
  frame_by-bare other s c b = refl

  reply_of-bare : (p : Part (List ℕ)) → rows_answer p bare ≡ rows_answer p q
  reply_of-bare p =
      ap (λ (r : Reply). with_content r (bytes_by q.ask.op q.ask.args.range (blob_read p q.ask)))
      (frame_by-bare q.ask.op (standing_read (sizes p)) (blob_read (sizes p) q.ask) (target_blob (sizes p) q.ask))

  own_answer_by-bare : (o : Op) (p : Part (List ℕ)) → own_answer_by o p bare ≡ own_answer_by o p q
  own_answer_by-bare op.ListBlobs p = refl
  own_answer_by-bare other p = reply_of-bare p

  answer_by-bare : (o : Op) (w : World (List ℕ)) (bound : Option Key) → answer_by o w bare bound ≡ answer_by o w q bound
  answer_by-bare op.ListContainers w bound = refl
  answer_by-bare other w bound = own_answer_by-bare q.ask.op (part_at w q.ask.key)

  module _ (keys : Option Keys) (w : World (List ℕ)) (t : ℕ) (bound : Option Key) where
    abbrev own : Part (List ℕ)
    own = part_at w q.ask.key

    -- a request that is refused by the same rule as without its conditions, or by no rule either, is answered in the same way
    reply-alike : refusal keys (sizes own) bare t ≡ refusal keys (sizes own) q t → reply keys w bare t bound ≡ reply keys w q t bound
    reply-alike alike =
        (λ i. response (alike i) (answer_of (world_after held (unless_refused (alike i) (change_of-bare (sizes own) t i)) w) bare bound))
        ∙ ap (response (refusal keys (sizes own) q t)) (answer_by-bare q.ask.op (effect keys w q t) bound)

    effect-alike : refusal keys (sizes own) bare t ≡ refusal keys (sizes own) q t → effect keys w bare t ≡ effect keys w q t
    effect-alike alike = λ i. world_after held (unless_refused (alike i) (change_of-bare (sizes own) t i)) w

    free-alike : (reply keys w q t bound).rule ≡ None → refusal keys (sizes own) bare t ≡ refusal keys (sizes own) q t
    free-alike none =
        let free = reply-unrefused keys w q t bound none in
        free-with_args keys (sizes own) q t free bare.ask.args refl (fewer_causes (sizes own)) ∙ sym free

    met-alike : MeetsConditions own q.ask → refusal keys (sizes own) bare t ≡ refusal keys (sizes own) q t
    met-alike met = refusal-with_args keys (sizes own) q t bare.ask.args refl (same_causes own met)

    -- a request that no rule refuses is answered in the same way without its conditions
    pub reply-free : (reply keys w q t bound).rule ≡ None → reply keys w bare t bound ≡ reply keys w q t bound
    reply-free none = reply-alike (free-alike none)

    -- a request that no rule refuses has the same effect without its conditions
    pub effect-free : (reply keys w q t bound).rule ≡ None → effect keys w bare t ≡ effect keys w q t
    effect-free none = effect-alike (free-alike none)

    -- a request whose conditions are true is answered in the same way without them
    pub reply-met : MeetsConditions own q.ask → reply keys w bare t bound ≡ reply keys w q t bound
    reply-met met = reply-alike (met-alike met)

    -- a request whose conditions are true has the same effect without them
    pub effect-met : MeetsConditions own q.ask → effect keys w bare t ≡ effect keys w q t
    effect-met met = effect-alike (met-alike met)
