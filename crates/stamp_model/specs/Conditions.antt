-- Conditions of a request on the blob that it names (Blob service REST reference, 2012-02-12, "Specifying Conditional Headers for
-- Blob Service Operations"; RFC 9110, sections 13.1.1 and 13.1.2).
use Rattle.std.specs.Prelude.{◌≡◌, ◌≢◌, ℕ, List, Option, Some, None, IfSome, IsSome, IsSomeAnd, IsTrue}
use Rattle.stamp_values.specs.declared.condition.Condition.TheVariants as condition
use Rattle.stamp_types.specs.declared.ask.Ask.{Ask}
use Rattle.stamp_types.specs.Requests.{Asked, IsAsk}
use Rattle.stamp_types.specs.World.{Part}
use Rattle.access_rules.specs.declared.keys.Keys.{Keys}
use Rattle.access_rules.specs.Routes.{Admits}
use Rattle.row_trees.specs.Access.{acl_of}
use Rattle.range_rows.specs.ObjectRules.{named_blob, needs_blob}

-- the same request without If-Match and If-None-Match; what was signed stays as it was
abbrev pub without_conditions : Asked → Asked
without_conditions q = record q { ask = record q.ask { args = record q.ask.args { if_match = None; if_none_match = None } } }

-- the same request without Content-MD5; what was signed stays as it was
abbrev pub without_content_md5 : Asked → Asked
without_content_md5 q = record q { ask = record q.ask { args = record q.ask.args { content_md5 = None } } }

-- If-Match is true of the blob that the request names, as the container has it; it is so if If-Match is not sent
pub record MeetsIfMatch {C : Type 0} (p : Part C) (a : Ask) : Type 0 where
  -- If-Match has an ETag: readers see the blob, and it has this ETag
  pub has_etag : (etag : ℕ) → a.args.if_match ≡ Some (condition.Count etag) → IsSomeAnd (named_blob p a) (λ c. c.etag ≡ etag)
  -- If-Match is `*`: readers see the blob
  pub is_seen : a.args.if_match ≡ Some condition.Any → IsSome (named_blob p a)
  -- the text of If-Match can be an ETag of this stamp
  pub may_match : a.args.if_match ≢ Some condition.Never

-- If-None-Match is true of the blob that the request names, as the container has it; it is so if If-None-Match is not sent
pub record MeetsIfNoneMatch {C : Type 0} (p : Part C) (a : Ask) : Type 0 where
  -- If-None-Match is `*`: readers see no blob of this name
  pub is_unseen : a.args.if_none_match ≡ Some condition.Any → named_blob p a ≡ None
  -- If-None-Match has an ETag: readers see no blob of this name that has this ETag
  pub has_another_etag : (etag : ℕ) → a.args.if_none_match ≡ Some (condition.Count etag) → IfSome (named_blob p a) (λ c. c.etag ≢ etag)

-- the conditions of the request are true of the blob that it names, as the container has it
pub record MeetsConditions {C : Type 0} (p : Part C) (a : Ask) : Type 0 where
  pub if_match : MeetsIfMatch p a
  pub if_none_match : MeetsIfNoneMatch p a

-- If-Match is sent, and it is not true of the blob
abbrev pub FailsIfMatch : {C : Type 0} → Part C → Ask → Type 0
FailsIfMatch p a = MeetsIfMatch p a → ⊥

-- If-None-Match is sent, and it is not true of the blob
abbrev pub FailsIfNoneMatch : {C : Type 0} → Part C → Ask → Type 0
FailsIfNoneMatch p a = MeetsIfNoneMatch p a → ⊥

-- The conditions of the request are judged: its own route admits it, its container exists, and readers see the blob if the
-- operation is on a blob that they have to see.
pub record HasJudgedConditions (keys : Option Keys) (p : Part (List ℕ)) (q : Asked) (t : ℕ) : Type 0 where
  pub fits : IsAsk q.ask
  pub admitted : Admits keys (acl_of p) q.ask.credential q.ask t
  pub container : IsSome p.standing
  pub blob : IsTrue (needs_blob q.ask.op) → IsSome (named_blob p q.ask)
