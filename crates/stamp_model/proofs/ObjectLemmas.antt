-- What follows if the object does not refuse a request, and when the object refuses a request for what does not exist.
use Rattle.std.proofs.Common.{◌≡◌, ℕ, Bool, true, false, cond, not, ◌&&◌, ◌||◌, drop, List, Option, Some, None, refl, sym, ap, ◌∙◌, unwrap_or}
use Rattle.std.specs.Prelude.{find, is_none, is_some}
use Rattle.std.specs.Option.{option_map, option_and_then}
use Rattle.std.specs.FinMap as finite
use Rattle.stamp_values.specs.Operations.{is_op}
use Rattle.stamp_values.specs.Order.{name_cmp}
use Rattle.stamp_values.specs.declared.op.Op.{Op}
use Rattle.stamp_values.specs.declared.op.Op.TheVariants as op
use Rattle.stamp_types.specs.declared.committed.Committed.{Committed}
use Rattle.stamp_types.specs.Requests.{Asked}
use Rattle.stamp_types.specs.World.{Blob, Part, no_blob, blob_in, committed_value}
use Rattle.range_rows.specs.SentContent.{byte_count, sizes}
use Rattle.range_rows.specs.NamedBlobs.{has_listed, target_blob}
use Rattle.range_rows.specs.ObjectRules.{needs_container, needs_blob, named_blob, Cause, cause_holds, cause_refusal, causes, object_refusal}
use Rattle.range_rows.specs.ObjectRules.Cause.{ContainerIsAbsent, ContainerExists, BlobIsAbsent}
use Rattle.range_rows.proofs.AnswerLemmas.{named_blob-part_value}

none_of_three : (a b c : Bool) (rest : Option Cause) → option_map cause_refusal (cond a (Some ContainerIsAbsent) (cond b (Some ContainerExists) (cond c (Some BlobIsAbsent) rest))) ≡ None
    → (a ≡ false) × (b ≡ false) × (c ≡ false)
none_of_three true b c rest h = cc
none_of_three false true c rest h = cc
none_of_three false false true rest h = cc
none_of_three false false false rest h = (refl, refl, refl)

exists_if : {X : Type 0} (needs : Bool) (o : Option X) → (needs && is_none o) ≡ false → needs ≡ true → is_some o ≡ true
exists_if true None h n = cc
exists_if true (Some x) h n = refl
exists_if false o h n = cc

-- if neither of two is true, the first is false
pub left_false : (a b : Bool) → (a || b) ≡ false → a ≡ false
left_false true b h = cc
left_false false b h = refl

-- a cause of absence does not exist, if the value exists
pub there_is : {X : Type 0} (needs : Bool) (o : Option X) → is_some o ≡ true → (needs && is_none o) ≡ false
there_is true None h = cc
there_is true (Some x) h = refl
there_is false o h = refl

no_creation : (o : Op) (b : Bool) → needs_blob o ≡ true → (is_op op.CreateContainer o && b) ≡ false
no_creation op.CreateContainer b needs = cc
no_creation other b needs = refl

-- a value that is read by a function exists if and only if the value exists
pub is_some-mapped : {X Y : Type 0} (f : X → Y) (o : Option X) → is_some (option_map f o) ≡ is_some o
is_some-mapped f None = refl
is_some-mapped f (Some x) = refl

module _ (p : Part (List ℕ)) (q : Asked) where
  module _ (free : object_refusal (sizes p) q ≡ None) where
    absent : (cause_holds (sizes p) q ContainerIsAbsent ≡ false) × (cause_holds (sizes p) q ContainerExists ≡ false) × (cause_holds (sizes p) q BlobIsAbsent ≡ false)
    absent = none_of_three (cause_holds (sizes p) q ContainerIsAbsent) (cause_holds (sizes p) q ContainerExists) (cause_holds (sizes p) q BlobIsAbsent) (find (cause_holds (sizes p) q) (drop 3 causes)) free

    -- the container exists, if the operation needs it and the object does not refuse the request
    pub container_needed : needs_container q.ask.op ≡ true → is_some p.standing ≡ true
    container_needed needs = exists_if (needs_container q.ask.op) p.standing absent.0 needs

    -- readers see the blob, if the operation needs it and the object does not refuse the request
    pub blob_needed : needs_blob q.ask.op ≡ true → is_some (named_blob p q.ask) ≡ true
    blob_needed needs =
        sym (is_some-mapped (committed_value byte_count) (named_blob p q.ask)) ∙ sym (ap (λ (o : Option (Committed ℕ)). is_some o) (named_blob-part_value byte_count p q.ask))
        ∙ exists_if (needs_blob q.ask.op) (named_blob (sizes p) q.ask) (left_false _ _ absent.2) needs

  -- the refusal of a request that needs its container, if the container does not exist
  pub object_refusal-container : needs_container q.ask.op ≡ true → p.standing ≡ None → object_refusal (sizes p) q ≡ Some (cause_refusal ContainerIsAbsent)
  object_refusal-container needs none =
      λ i. option_map cause_refusal (cond (needs i && is_none (none i)) (Some ContainerIsAbsent) (find (cause_holds (sizes p) q) (drop 1 causes)))

  -- the refusal of a request that needs its blob, if the container exists and readers see no blob of that name
  pub object_refusal-blob : needs_blob q.ask.op ≡ true → is_some p.standing ≡ true → named_blob p q.ask ≡ None → object_refusal (sizes p) q ≡ Some (cause_refusal BlobIsAbsent)
  object_refusal-blob needs exists none =
      let unseen : named_blob (sizes p) q.ask ≡ None = named_blob-part_value byte_count p q.ask ∙ ap (option_map (committed_value byte_count)) none in
      λ i. option_map cause_refusal (cond (there_is (needs_container q.ask.op) p.standing exists i) (Some ContainerIsAbsent)
      (cond (no_creation q.ask.op (is_some p.standing) needs i) (Some ContainerExists)
      (cond ((needs i && is_none (unseen i)) || (is_op op.GetBlockList q.ask.op && not (has_listed q.ask.args.kinds (target_blob (sizes p) q.ask)))) (Some BlobIsAbsent) (find (cause_holds (sizes p) q) (drop 3 causes)))))

  -- readers see no blob in a container without blobs
  pub named_blob-empty : p.blobs ≡ finite.empty → named_blob p q.ask ≡ None
  named_blob-empty empty = by_name q.ask.blob
    where
      by_name : (blob : Option (List ℕ)) → option_and_then (λ name. (blob_in p name).committed) blob ≡ None
      by_name None = refl
      by_name (Some name) =
          ap (λ m. (unwrap_or (finite.get m name) no_blob).committed) empty
          ∙ ap (λ (o : Option (Blob (List ℕ))). (unwrap_or o no_blob).committed) (finite.get-empty name_cmp name)
