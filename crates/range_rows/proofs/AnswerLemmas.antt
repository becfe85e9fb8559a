-- Sizes and spans of blocks, and the blobs that requests name.
use Rattle.std.proofs.Common.{◌≡◌, ℕ, ◌+◌, Bool, true, false, cond, List, [], ◌∷◌, ◌++◌, Option, Some, None, refl, ap, ◌∙◌, unwrap_or, map}
use Rattle.std.proofs.lemmas.List.{map-append}
use Rattle.std.specs.Prelude.{sum_by}
use Rattle.std.specs.List.{flat_map, fold}
use Rattle.std.specs.Option.{option_map, option_and_then}
use Rattle.std.specs.Ordering.{eq_by_cmp}
use Rattle.std.specs.Cmp.{eq_by_cmp_equiv}
use Rattle.std.specs.FinMap as finite
use Rattle.stamp_values.specs.Order.{name_cmp, names_total}
use Rattle.stamp_types.specs.declared.act.Act.TheVariants as act
use Rattle.stamp_types.specs.declared.act.PutBlob.{PutBlob}
use Rattle.stamp_types.specs.declared.act.PutBlockList.{PutBlockList}
use Rattle.stamp_types.specs.declared.ask.Ask.{Ask}
use Rattle.stamp_types.specs.declared.committed.Block.{Block}
use Rattle.stamp_types.specs.declared.committed.Committed.{Committed}
use Rattle.stamp_types.specs.declared.piece.Piece.{Piece}
use Rattle.stamp_types.specs.Changes.{blocks_len}
use Rattle.stamp_types.specs.Pieces.{pieces_len}
use Rattle.stamp_types.specs.World.{Part, Blob, no_blob, blob_in, block_value, committed_value, part_value, changed, taken_blocks, whole_block}
use Rattle.stamp_types.proofs.WorldLemmas.{blob_in-part_value}
use Rattle.range_rows.specs.SentContent.{whole_span}
use Rattle.range_rows.specs.ObjectRules.{named_blob}

-- ---- sizes and spans of blocks

sizes_from : (n : ℕ) (bs : List (Block (List Piece))) → fold (λ n b. n + b.content) n (map (block_value pieces_len) bs) ≡ fold (λ n b. n + pieces_len b.content) n bs
sizes_from n [] = refl
sizes_from n (b ∷ bs) = sizes_from (n + pieces_len b.content) bs

-- the sizes of blocks make the length that the blocks have together
pub sizes_of_blocks : (bs : List (Block (List Piece))) → sum_by (λ b. b.content) (map (block_value pieces_len) bs) ≡ blocks_len bs
sizes_of_blocks bs = sizes_from 0 bs

-- the spans of all blocks are the spans of each block, joined
pub spans_of_blocks : (bs : List (Block (List Piece))) → map whole_span (flat_map (λ b. b.content) bs) ≡ flat_map (λ b. map whole_span b.content) bs
spans_of_blocks [] = refl
spans_of_blocks (b ∷ bs) = map-append whole_span b.content (flat_map (λ b. b.content) bs) ∙ ap (λ ss. map whole_span b.content ++ ss) (spans_of_blocks bs)

-- ---- the blob that a request names

module _ {C D : Type 0} (f : C → D) (p : Part C) where
  named : (blob : Option (List ℕ)) → option_and_then (λ name. (blob_in (part_value f p) name).committed) blob ≡ option_map (committed_value f) (option_and_then (λ name. (blob_in p name).committed) blob)
  named None = refl
  named (Some name) = ap (λ b. b.committed) (blob_in-part_value f p name)

  -- the content of the named blob may be read before the look-up or after it
  pub named_blob-part_value : (a : Ask) → named_blob (part_value f p) a ≡ option_map (committed_value f) (named_blob p a)
  named_blob-part_value a = named a.blob

-- ---- Put Blob and Put Block List

chosen : {X : Type 0} (b : Bool) (x : X) (o : Option X) (d : X) → b ≡ true → unwrap_or (cond b (Some x) o) d ≡ x
chosen true x o d h = refl
chosen false x o d h = cc

module _ {C : Type 0} (f : List Piece → C) where
  -- what readers see of a blob that the change of this number put
  abbrev pub put_committed : ℕ → PutBlob → Committed C
  put_committed n a = record { etag = n; made = a.moment; props = a.props; metadata = a.metadata; blocks = whole_block (f a.content) ∷ [] }

  -- a blob that was put is what `put_committed` says
  pub blob_in-put : (a : PutBlob) (p : Part C) → (blob_in (changed f (act.PutBlob a) p) a.blob).committed ≡ Some (put_committed (p.count + 1) a)
  blob_in-put a p =
      ap (λ (o : Option (Blob C)). (unwrap_or o no_blob).committed) (finite.get-insert names_total p.blobs a.blob _ a.blob)
      ∙ ap (λ (b : Blob C). b.committed) (chosen (eq_by_cmp name_cmp a.blob a.blob) _ (finite.get p.blobs a.blob) no_blob ((eq_by_cmp_equiv names_total).refl a.blob))

  -- what readers see of a blob that the change of this number committed
  abbrev pub listed_committed_part : ℕ → PutBlockList → Part C → Committed C
  listed_committed_part n a p = record { etag = n; made = a.moment; props = a.props; metadata = a.metadata; blocks = taken_blocks (blob_in p a.blob) a.entries }

  -- a blob whose blocks were committed is what `listed_committed_part` says
  pub blob_in-put_list : (a : PutBlockList) (p : Part C) → (blob_in (changed f (act.PutBlockList a) p) a.blob).committed ≡ Some (listed_committed_part (p.count + 1) a p)
  blob_in-put_list a p =
      ap (λ (o : Option (Blob C)). (unwrap_or o no_blob).committed) (finite.get-insert names_total p.blobs a.blob _ a.blob)
      ∙ ap (λ (b : Blob C). b.committed) (chosen (eq_by_cmp name_cmp a.blob a.blob) _ (finite.get p.blobs a.blob) no_blob ((eq_by_cmp_equiv names_total).refl a.blob))
