-- A container whose rows are written again one after the other: what the changes since a mark make of it, beside the container itself
-- (SOSP 2011, section 5.3, checkpoints).
use Rattle.std.specs.Prelude.{◌≡◌, ◌⊎◌, ⊤, ℕ, Bool, true, false, ◌||◌, cond, List, Option, Some, None, IsSome}
use Rattle.std.specs.FinMap as finite
use Rattle.std.specs.Ordering.{eq_by_cmp}
use Rattle.stamp_values.specs.Order.{name_cmp}
use Rattle.stamp_types.specs.World.{Part, no_part}
use Rattle.stamp_types.specs.declared.act.Act.{Act}
use Rattle.stamp_types.specs.declared.act.Act.TheVariants as act

-- whether a blob of a container was written since the mark, by the name of the blob
abbrev pub News : Type 0
News = List ℕ → Bool

-- these blobs, and the blob of this name
abbrev pub with_new : News → List ℕ → News
with_new news name other = eq_by_cmp name_cmp other name || news other

-- no blob
abbrev pub no_news : News
no_news name = false

-- q has the count of p and what p has beside its blobs; of the blobs of p it has those that were written since the mark, and no other blob
pub record IsHalfway {C : Type 0} (news : News) (p q : Part C) : Type 0 where
  pub count : q.count ≡ p.count
  pub standing : q.standing ≡ p.standing
  pub blobs : (name : List ℕ) → finite.get q.blobs name ≡ cond (news name) (finite.get p.blobs name) None

-- q is what the changes since the mark make of the container p. They make nothing, if no row of the container was written since the mark
abbrev pub IsSweptPart : {C : Type 0} → Option News → Part C → Part C → Type 0
IsSweptPart None p q = q ≡ no_part
IsSweptPart (Some news) p q = IsHalfway news p q

-- the container never was; or its own row was written since the mark, and so was each of its blobs
abbrev pub IsAllNew : {C : Type 0} → Option News → Part C → Type 0
IsAllNew None p = p ≡ no_part
IsAllNew (Some news) p = (name : List ℕ) → IsSome (finite.get p.blobs name) → news name ≡ true

-- the blob of the name was written since the mark, or the container has no blob of this name
abbrev pub IsNew : {C : Type 0} → News → Part C → List ℕ → Type 0
IsNew news p name = (news name ≡ true) ⊎ (finite.get p.blobs name ≡ None)

-- the blob that the act reads was written since the mark, if the act reads a blob
abbrev pub IsTouched : {C : Type 0} → News → Part C → Act → Type 0
IsTouched news p (act.SetMetadata a) = IsNew news p a.blob
IsTouched news p (act.PutBlock a) = IsNew news p a.blob
IsTouched news p (act.PutBlockList a) = IsNew news p a.blob
IsTouched news p other = ⊤

-- the blobs that were written since the mark, once the act is logged
abbrev pub news_after : News → Act → News
news_after news (act.PutBlob a) = with_new news a.blob
news_after news (act.SetMetadata a) = with_new news a.blob
news_after news (act.PutBlock a) = with_new news a.blob
news_after news (act.PutBlockList a) = with_new news a.blob
news_after news (act.StoredBlob a) = with_new news a.blob
news_after news other = news
