-- How a request is refused whose conditions are judged, and are not true.
use Rattle.std.proofs.Common.{◌≡◌, ℕ, Bool, true, false, not, ◌&&◌, ◌||◌, cond, drop, List, ◌∷◌, Option, Some, None, refl, ap, ◌∙◌}
use Rattle.std.proofs.lemmas.Bool.{and_parts}
use Rattle.std.specs.Prelude.{find, is_none, is_some}
use Rattle.std.specs.Option.{option_map}
use Rattle.stamp_values.specs.Operations.{has_conditions, is_op, writes}
use Rattle.stamp_values.specs.declared.condition.Condition.TheVariants as condition
use Rattle.stamp_values.specs.declared.key.Key.{Key}
use Rattle.stamp_values.specs.declared.op.Op.{Op}
use Rattle.stamp_values.specs.declared.op.Op.TheVariants as op
use Rattle.stamp_types.specs.declared.committed.Committed.{Committed}
use Rattle.stamp_types.specs.Replies.{denied}
use Rattle.stamp_types.specs.Requests.{Asked}
use Rattle.stamp_types.specs.World.{Part, World, committed_value, part_at}
use Rattle.access_rules.specs.declared.keys.Keys.{Keys}
use Rattle.range_rows.specs.NamedBlobs.{has_listed, target_blob}
use Rattle.range_rows.specs.SentContent.{byte_count, sizes}
use Rattle.range_rows.specs.ObjectRules.{Cause, cause_holds, cause_refusal, causes, fails_if_match, fails_if_none_match, is_any, misses, named_blob, needs_blob, needs_container, object_refusal}
use Rattle.range_rows.specs.ObjectRules.Cause.{BlobExists, BlobIsAbsent, ContainerExists, ContainerIsAbsent, IsNotModified, MatchFails, NoneMatchFails}
use Rattle.range_rows.proofs.AnswerLemmas.{named_blob-part_value}
use Rattle.stamp_model.specs.Conditions.{FailsIfMatch, FailsIfNoneMatch, HasJudgedConditions, MeetsIfMatch}
use Rattle.stamp_model.specs.Responses.{reply}
use Rattle.stamp_model.proofs.ConditionLemmas.{and_false, meets_if_match, meets_if_none_match, not_missed}
use Rattle.stamp_model.proofs.ReadLemmas.{reply-refused}

-- ---- the first cause

none_or_some : {X : Type 0} (o : Option X) → is_some o ≡ true → is_none o ≡ false
none_or_some None h = cc
none_or_some (Some x) h = refl

is_some-read : {C D : Type 0} (f : C → D) (o : Option C) → is_some (option_map f o) ≡ is_some o
is_some-read f None = refl
is_some-read f (Some x) = refl

-- an operation with conditions neither makes a container nor lists blocks
makes_none : (o : Op) → has_conditions o ≡ true → is_op op.CreateContainer o ≡ false
makes_none op.CreateContainer h = cc
makes_none other h = refl

lists_none : (o : Op) → has_conditions o ≡ true → is_op op.GetBlockList o ≡ false
lists_none op.GetBlockList h = cc
lists_none other h = refl

either_false : (a b c d : Bool) → (a ≡ true → b ≡ false) → c ≡ false → ((a && b) || (c && d)) ≡ false
either_false true b c d left right = (λ i. left refl i || (right i && d))
either_false false b c d left right = (λ i. right i && d)

module _ (p : Part (List ℕ)) (q : Asked) where
  abbrev z : Part ℕ
  z = sizes p

  abbrev holds : Cause → Bool
  holds = cause_holds z q

  -- a cause that does not exist is passed over, and a cause that exists is found
  passed_over : (c : Cause) (more : List Cause) → holds c ≡ false → find holds (c ∷ more) ≡ find holds more
  passed_over c more h = ap (λ (b : Bool). cond b (Some c) (find holds more)) h

  found_first : (c : Cause) (more : List Cause) → holds c ≡ true → find holds (c ∷ more) ≡ Some c
  found_first c more h = ap (λ (b : Bool). cond b (Some c) (find holds more)) h

  refused_by : (c : Cause) → find holds causes ≡ Some c → object_refusal z q ≡ Some (cause_refusal c)
  refused_by c h = ap (option_map cause_refusal) h

module _ (keys : Option Keys) (w : World (List ℕ)) (q : Asked) (t : ℕ) (bound : Option Key) (judged : HasJudgedConditions keys (part_at w q.ask.key) q t) where
  abbrev own : Part (List ℕ)
  own = part_at w q.ask.key

  abbrev own_sizes : Part ℕ
  own_sizes = sizes own

  abbrev Refused : Cause → Type 0
  Refused c = reply keys w q t bound ≡ denied (cause_refusal c)

  module _ (conditional : has_conditions q.ask.op ≡ true) where
    exists : cause_holds own_sizes q ContainerIsAbsent ≡ false
    exists = ap (λ (b : Bool). needs_container q.ask.op && b) (none_or_some own.standing judged.container) ∙ and_false (needs_container q.ask.op)

    makes_nothing : cause_holds own_sizes q ContainerExists ≡ false
    makes_nothing = ap (λ (b : Bool). b && is_some own.standing) (makes_none q.ask.op conditional)

    seen : needs_blob q.ask.op ≡ true → is_none (named_blob own_sizes q.ask) ≡ false
    seen needs =
        none_or_some (named_blob own_sizes q.ask)
        (ap (λ (o : Option (Committed ℕ)). is_some o) (named_blob-part_value byte_count own q.ask) ∙ is_some-read (committed_value byte_count) (named_blob own q.ask) ∙ judged.blob needs)

    lacks_nothing : cause_holds own_sizes q BlobIsAbsent ≡ false
    lacks_nothing =
        either_false (needs_blob q.ask.op) (is_none (named_blob own_sizes q.ask)) (is_op op.GetBlockList q.ask.op) (not (has_listed q.ask.args.kinds (target_blob own_sizes q.ask)))
        seen (lists_none q.ask.op conditional)

    -- the causes before the conditions do not exist
    at_conditions : find (cause_holds own_sizes q) causes ≡ find (cause_holds own_sizes q) (drop 3 causes)
    at_conditions =
        passed_over own q ContainerIsAbsent (drop 1 causes) exists ∙ passed_over own q ContainerExists (drop 2 causes) makes_nothing ∙ passed_over own q BlobIsAbsent (drop 3 causes) lacks_nothing

  refused : (c : Cause) → find (cause_holds own_sizes q) causes ≡ Some c → Refused c
  refused c found = reply-refused keys w q t bound (cause_refusal c) judged.admitted (refused_by own q c found)

  -- ---- If-Match

  match_fails : FailsIfMatch own q.ask → (b : Bool) → fails_if_match own_sizes q.ask ≡ b → fails_if_match own_sizes q.ask ≡ true
  match_fails fails true is = is
  match_fails fails false is = absurd (fails (meets_if_match own q judged.fits is))

  pub reply-match_fails : FailsIfMatch own q.ask → Refused MatchFails
  reply-match_fails fails =
      let failed = match_fails fails (fails_if_match own_sizes q.ask) refl in
      let both = and_parts (has_conditions q.ask.op) (misses (named_blob own_sizes q.ask) q.ask.args.if_match) failed in
      refused MatchFails (at_conditions both.0 ∙ found_first own q MatchFails (drop 4 causes) failed)

  -- ---- If-None-Match

  module _ (met : MeetsIfMatch own q.ask) (fails : FailsIfNoneMatch own q.ask) where
    none_match_fails : (b : Bool) → fails_if_none_match own_sizes q.ask ≡ b → fails_if_none_match own_sizes q.ask ≡ true
    none_match_fails true is = is
    none_match_fails false is = absurd (fails (meets_if_none_match own q judged.fits is))

    abbrev failed : fails_if_none_match own_sizes q.ask ≡ true
    failed = none_match_fails (fails_if_none_match own_sizes q.ask) refl

    conditional_op : has_conditions q.ask.op ≡ true
    conditional_op = (and_parts (has_conditions q.ask.op) _ failed).0

    match_holds : cause_holds own_sizes q MatchFails ≡ false
    match_holds = ap (λ (b : Bool). has_conditions q.ask.op && b) (not_missed own q met q.ask.args.if_match refl) ∙ and_false (has_conditions q.ask.op)

    at_none_match : find (cause_holds own_sizes q) causes ≡ find (cause_holds own_sizes q) (drop 4 causes)
    at_none_match = at_conditions conditional_op ∙ passed_over own q MatchFails (drop 4 causes) match_holds

    pub reply-not_modified : writes q.ask.op ≡ false → Refused IsNotModified
    reply-not_modified reads =
        refused IsNotModified (at_none_match ∙ found_first own q IsNotModified (drop 5 causes) (λ i. not (reads i) && failed i))

    module _ (written : writes q.ask.op ≡ true) where
      may_be_modified : cause_holds own_sizes q IsNotModified ≡ false
      may_be_modified = ap (λ (b : Bool). not b && fails_if_none_match own_sizes q.ask) written

      pub reply-blob_exists : q.ask.args.if_none_match ≡ Some condition.Any → Refused BlobExists
      reply-blob_exists any =
          refused BlobExists
          (at_none_match ∙ passed_over own q IsNotModified (drop 5 causes) may_be_modified
          ∙ found_first own q BlobExists (drop 6 causes) (λ i. written i && (is_any (any i) && failed i)))

      pub reply-none_match_fails : (etag : ℕ) → q.ask.args.if_none_match ≡ Some (condition.Count etag) → Refused NoneMatchFails
      reply-none_match_fails etag has =
          refused NoneMatchFails
          (at_none_match ∙ passed_over own q IsNotModified (drop 5 causes) may_be_modified
          ∙ passed_over own q BlobExists (drop 6 causes) ((λ i. writes q.ask.op && (is_any (has i) && fails_if_none_match own_sizes q.ask)) ∙ and_false (writes q.ask.op))
          ∙ found_first own q NoneMatchFails (drop 7 causes) (λ i. written i && (not (is_any (has i)) && failed i)))
