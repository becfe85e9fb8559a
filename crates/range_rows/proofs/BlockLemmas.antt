-- The blob that a request names: what it is if content is read by a function.
use Rattle.std.proofs.Common.{◌≡◌, ℕ, List, Option, Some, None, refl, sym, ap, ◌∙◌, unwrap_or}
use Rattle.std.specs.Option.{option_and_then, option_map}
use Rattle.stamp_types.specs.declared.ask.Ask.{Ask}
use Rattle.stamp_types.specs.declared.piece.Piece.{Piece}
use Rattle.stamp_types.specs.Pieces.{pieces_len}
use Rattle.stamp_types.specs.World.{Blob, Part, blob_in, blob_value, no_blob, part_value}
use Rattle.stamp_types.proofs.WorldLemmas.{blob_in-part_value, blob_value-no_blob}
use Rattle.row_trees.specs.FoundParts.{sized, sizes_found}
use Rattle.range_rows.specs.NamedBlobs.{target_blob}
use Rattle.range_rows.specs.ObjectRules.{named_blob}

-- ---- a blob in a container

-- a blob that was found in a container, by the sizes of its content
pub sizes_of_blob : (p : Part (List Piece)) (name : List ℕ) → blob_in (sizes_found p) name ≡ blob_value pieces_len (blob_in p name)
sizes_of_blob p name = blob_in-part_value pieces_len p name

-- ---- the blob that a request names

module _ {C : Type 0} (p : Part C) where
  target_committed : (blob : Option (List ℕ)) → (unwrap_or (option_map (blob_in p) blob) no_blob).committed ≡ option_and_then (λ name. (blob_in p name).committed) blob
  target_committed None = refl
  target_committed (Some name) = refl

  -- its committed part
  pub committed-target_blob : (a : Ask) → (target_blob p a).committed ≡ named_blob p a
  committed-target_blob a = target_committed a.blob

-- the blob that a request names by this name
pub blob_of_target : (p : Part ℕ) (a : Ask) (name : List ℕ) → a.blob ≡ Some name → target_blob p a ≡ blob_in p name
blob_of_target p a name named = ap (λ (o : Option (List ℕ)). unwrap_or (option_map (blob_in p) o) no_blob) named

module _ {C D : Type 0} (f : C → D) (p : Part C) where
  target_read : (blob : Option (List ℕ)) → unwrap_or (option_map (blob_in (part_value f p)) blob) no_blob ≡ blob_value f (unwrap_or (option_map (blob_in p) blob) no_blob)
  target_read None = sym (blob_value-no_blob f)
  target_read (Some name) = blob_in-part_value f p name

  -- the content of the named blob may be read before the look-up or after it
  pub target_blob-part_value : (a : Ask) → target_blob (part_value f p) a ≡ blob_value f (target_blob p a)
  target_blob-part_value a = target_read a.blob

module _ (p : Part (List Piece)) (a : Ask) (b : Blob (List Piece)) (is : b ≡ target_blob p a) where
  -- what readers see of the blob that the request names
  pub named_part : b.committed ≡ named_blob p a
  named_part = ap (λ (b : Blob (List Piece)). b.committed) is ∙ committed-target_blob p a

  -- the blob that the request names, by the sizes of its content
  pub named_sizes : blob_value pieces_len b ≡ target_blob (sizes_found p) a
  named_sizes = ap (blob_value pieces_len) is ∙ sym (target_blob-part_value pieces_len p a)

  -- what readers see of it, by the sizes of its content
  pub named_part_sizes : sized b.committed ≡ named_blob (sizes_found p) a
  named_part_sizes = ap (λ (b : Blob ℕ). b.committed) named_sizes ∙ committed-target_blob (sizes_found p) a
