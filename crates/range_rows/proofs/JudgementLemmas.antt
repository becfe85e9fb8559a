-- What judging a request gives.
use Rattle.std.proofs.Common.{◌≡◌, List, Option, Some, None, refl, sym, ap, ◌∙◌, subst}
use Rattle.stamp_types.specs.declared.refusal.Refusal.{Refusal}
use Rattle.stamp_types.specs.declared.piece.Piece.{Piece}
use Rattle.stamp_types.specs.Requests.{Asked}
use Rattle.stamp_types.specs.World.{Blob}
use Rattle.block_blobs.specs.ResolvedLists.{resolved}
use Rattle.block_blobs.specs.declared.resolved.Resolved.{Resolved}
use Rattle.row_trees.specs.FoundParts.{sizes_found}
use Rattle.range_rows.specs.CauseGroups.{block_causes, early_causes, group_refusal, last_causes}
use Rattle.range_rows.specs.JudgedBlocks.{blocks_by}
use Rattle.range_rows.specs.Judgements.{IfAllowed, IsAllowed, blocks_found, judged_by, judgement, refusal_in}
use Rattle.range_rows.specs.NamedBlobs.{IsTarget, target_blob}
use Rattle.range_rows.specs.ObjectRules.{object_refusal}
use Rattle.range_rows.specs.Readings.{wanted_blocks}
use Rattle.range_rows.specs.declared.block_rules.Blocks.{Blocks}
use Rattle.range_rows.specs.declared.block_rules.Blocks.TheVariants as blocks
use Rattle.range_rows.specs.declared.judged.ObjectVerdict.{ObjectVerdict}
use Rattle.range_rows.specs.declared.judged.ObjectVerdict.TheVariants as judged
use Rattle.range_rows.specs.declared.target.Target.{Target}
use Rattle.range_rows.proofs.GroupLemmas.{refusal_of_blocks, refused_by_blocks, refused_by_last, found_of_blocks}

module _ (t : Target) (q : Asked) where
  -- the refusal in a judgement is the refusal by the object
  refusal_of : (o : Option Refusal) (found : Resolved) → refusal_in (judged_by o t found) ≡ o
  refusal_of (Some r) found = refl
  refusal_of None found = refl

  pub refusal_of_judgement : (j : ObjectVerdict) → j ≡ judgement t q → refusal_in j ≡ object_refusal (sizes_found t.container) q
  refusal_of_judgement j is = subst (λ j. refusal_in j ≡ object_refusal (sizes_found t.container) q) (sym is) (refusal_of (object_refusal (sizes_found t.container) q) (blocks_found t.container q))

  module _ (target : IsTarget t q.ask) where
    allowed_by : (o : Option Refusal) → object_refusal (sizes_found t.container) q ≡ o
        → IfAllowed (judged_by o t (blocks_found t.container q)) (λ a. IsAllowed a q × (a.target ≡ t))
    allowed_by (Some r) free = tt
    allowed_by None free = ((target, free, refl), refl)

    -- what was found for a request that no rule of the object refuses
    pub allowed_in_judgement : (j : ObjectVerdict) → j ≡ judgement t q → IfAllowed j (λ a. IsAllowed a q × (a.target ≡ t))
    allowed_in_judgement j is = subst (λ j. IfAllowed j (λ a. IsAllowed a q × (a.target ≡ t))) (sym is) (allowed_by (object_refusal (sizes_found t.container) q) refl)

-- what judging gives if no early cause exists, and the blocks were judged
module _ (t : Target) (q : Asked) (early : group_refusal early_causes (sizes_found t.container) q ≡ None) (seen : Blob (List Piece)) (is : seen ≡ target_blob t.container q.ask)
    (b : Blocks) (by : b ≡ blocks_by (group_refusal block_causes (sizes_found t.container) q) (resolved seen (wanted_blocks q))) where
  -- the blocks refuse the request
  pub judged_by_blocks : (r : Refusal) → b ≡ blocks.Refused r → judged.Refused r ≡ judgement t q
  judged_by_blocks r refused =
      let group = refusal_of_blocks (group_refusal block_causes (sizes_found t.container) q) (resolved seen (wanted_blocks q)) r (sym refused ∙ by) in
      sym (ap (λ o. judged_by o t (blocks_found t.container q)) (refused_by_blocks (sizes_found t.container) q early r group))

  -- the blocks are found, and the causes that come last decide
  pub judged_by_last : (found : Resolved) (j : ObjectVerdict) → b ≡ blocks.Found found → j ≡ judged_by (group_refusal last_causes (sizes_found t.container) q) t found → j ≡ judgement t q
  judged_by_last found j are last =
      let told = found_of_blocks (group_refusal block_causes (sizes_found t.container) q) (resolved seen (wanted_blocks q)) found (sym are ∙ by) in
      last
      ∙ (λ i. judged_by (sym (refused_by_last (sizes_found t.container) q early told.0) i) t ((told.1 ∙ ap (λ (b : Blob (List Piece)). resolved b (wanted_blocks q)) is) i))
