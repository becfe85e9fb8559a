-- What requests bring is held in memory.
use Rattle.std.proofs.Common.{◌≡◌, ℕ, zero, suc, true, List, [], ◌∷◌, length, drop, Option, Some, None, refl, subst}
use Rattle.std.specs.Prelude.{⊤}
use Rattle.std.specs.Option.{option_map, option_and_then}
use Rattle.stamp_values.specs.declared.op.Op.{Op}
use Rattle.stamp_values.specs.declared.op.Op.TheVariants as op
use Rattle.stamp_types.specs.declared.act.Act.{Act}
use Rattle.stamp_types.specs.declared.act.Act.TheVariants as act
use Rattle.stamp_types.specs.declared.args.Kept.{Kept}
use Rattle.stamp_types.specs.Changes.{KeyedAct}
use Rattle.stamp_types.specs.Contents.{EachActContent}
use Rattle.stamp_types.specs.Pieces.{cut_at_most, is_held}
use Rattle.stamp_types.specs.Requests.{Asked}
use Rattle.stamp_types.specs.World.{Part, blob_in}
use Rattle.range_rows.specs.RequestChanges.{delete_blob, put_blob, put_block, put_block_list, set_metadata, act_by, change_of}
use Rattle.stamp_model.proofs.EffectLemmas.{on_key}

is_held-cut_at_most : (n : ℕ) (bs : List ℕ) → is_held (cut_at_most n bs) ≡ true
is_held-cut_at_most zero bs = refl
is_held-cut_at_most (suc n) [] = refl
is_held-cut_at_most (suc n) (b ∷ bs) = is_held-cut_at_most n (drop 4194304 (b ∷ bs))

module _ (z : Part ℕ) (q : Asked) (t : ℕ) where
  abbrev BringsHeld : Option Act → Type 0
  BringsHeld None = ⊤
  BringsHeld (Some a) = EachActContent (λ ps. is_held ps ≡ true) a

  brought_by : (o : Op) → BringsHeld (act_by o z q t)
  brought_by op.CreateContainer = tt
  brought_by op.SetContainerMetadata = tt
  brought_by op.SetAcl = tt
  brought_by op.DeleteContainer = tt
  brought_by op.SetMetadata = by_name q.ask.blob
    where
      by_name : (blob : Option (List ℕ)) → BringsHeld (option_map (λ name. act.SetMetadata (set_metadata q t name)) blob)
      by_name None = tt
      by_name (Some name) = tt
  brought_by op.DeleteBlob = by_name q.ask.blob
    where
      by_name : (blob : Option (List ℕ)) → BringsHeld (option_map (λ name. act.DeleteBlob (delete_blob name)) blob)
      by_name None = tt
      by_name (Some name) = tt
  brought_by op.PutBlob = by_parts q.ask.blob q.ask.args.kept
    where
      by_parts : (blob : Option (List ℕ)) (kept : Option Kept) → BringsHeld (option_and_then (λ name. option_map (λ kept. act.PutBlob (put_blob q t name kept)) kept) blob)
      by_parts None kept = tt
      by_parts (Some name) None = tt
      by_parts (Some name) (Some kept) = is_held-cut_at_most (length q.body) q.body
  brought_by op.PutBlock = by_parts q.ask.blob q.ask.args.block
    where
      by_parts : (blob : Option (List ℕ)) (id : Option (List ℕ)) → BringsHeld (option_and_then (λ name. option_map (λ id. act.PutBlock (put_block q name id)) id) blob)
      by_parts None id = tt
      by_parts (Some name) None = tt
      by_parts (Some name) (Some id) = is_held-cut_at_most (length q.body) q.body
  brought_by op.PutBlockList = by_parts q.ask.blob q.ask.args.kept
    where
      by_parts : (blob : Option (List ℕ)) (kept : Option Kept)
          → BringsHeld (option_and_then (λ name. option_map (λ kept. act.PutBlockList (put_block_list (blob_in z name) q t name kept)) kept) blob)
      by_parts None kept = tt
      by_parts (Some name) None = tt
      by_parts (Some name) (Some kept) = tt
  brought_by other = tt

  keyed : (a : Option Act) (c : KeyedAct) → BringsHeld a → option_map (on_key q.ask.key) a ≡ Some c → EachActContent (λ ps. is_held ps ≡ true) c.act
  keyed None c brought e = cc
  keyed (Some a) c brought e = let same : on_key q.ask.key a ≡ c = cc in subst (λ (c : KeyedAct). EachActContent (λ ps. is_held ps ≡ true) c.act) same brought

  -- what a request brings is held in memory
  pub brings_held : (c : KeyedAct) → change_of z q t ≡ Some c → EachActContent (λ ps. is_held ps ≡ true) c.act
  brings_held c change = keyed (act_by q.ask.op z q t) c (brought_by q.ask.op) change
