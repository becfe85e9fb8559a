-- What a container has beside its blobs, and what it says about who may do what, before a request and after it.
use Rattle.std.proofs.Common.{◌≡◌, ℕ, false, List, Option, IfSome, refl}
use Rattle.std.specs.Option.{option_map}
use Rattle.stamp_values.specs.declared.key.Key.{Key}
use Rattle.stamp_values.specs.declared.op.Op.{Op}
use Rattle.stamp_values.specs.declared.op.Op.TheVariants as op
use Rattle.stamp_types.specs.declared.act.Act.{Act}
use Rattle.stamp_types.specs.declared.act.Act.TheVariants as act
use Rattle.stamp_types.specs.declared.piece.Piece.{Piece}
use Rattle.stamp_types.specs.Requests.{Asked}
use Rattle.stamp_types.specs.World.{Part, World, part_at, changed}
use Rattle.stamp_types.proofs.ActLaws.{access-changed}
use Rattle.access_rules.specs.declared.keys.Keys.{Keys}
use Rattle.row_trees.specs.Access.{acl_of}
use Rattle.range_rows.specs.RequestChanges.{delete_blob, set_container_metadata, set_metadata, act_by, part_after}
use Rattle.stamp_model.specs.Effects.{alters_container, alters_access, effect_as}
use Rattle.stamp_model.proofs.EffectLemmas.{on_key, said_of_block, said_of_list, said_of_put, said_of_named, related-after_act, related-effect}

module _ {C : Type 0} (f : List Piece → C) where
  abbrev KeepsStanding : Part C → Part C → Type 0
  KeepsStanding p r = r.standing ≡ p.standing

  abbrev KeepsAccess : Part C → Part C → Type 0
  KeepsAccess p r = acl_of r ≡ acl_of p

  module _ (z : Part ℕ) (p : Part C) (q : Asked) (t : ℕ) where
    abbrev Keeps : Act → Type 0
    Keeps a = KeepsStanding p (changed f a p)

    keeps : (o : Op) → alters_container o ≡ false → IfSome (act_by o z q t) Keeps
    keeps op.CreateContainer unaltered = cc
    keeps op.SetContainerMetadata unaltered = cc
    keeps op.SetAcl unaltered = cc
    keeps op.DeleteContainer unaltered = cc
    keeps op.PutBlob unaltered = said_of_put Keeps (λ a. refl) q t q.ask.blob q.ask.args.kept
    keeps op.SetMetadata unaltered = said_of_named Keeps (λ name. act.SetMetadata (set_metadata q t name)) (λ name. refl) q.ask.blob
    keeps op.DeleteBlob unaltered = said_of_named Keeps (λ name. act.DeleteBlob (delete_blob name)) (λ name. refl) q.ask.blob
    keeps op.PutBlock unaltered = said_of_block Keeps (λ a. refl) q q.ask.blob q.ask.args.block
    keeps op.PutBlockList unaltered = said_of_list Keeps (λ a. refl) z q t q.ask.blob q.ask.args.kept
    keeps _ unaltered = tt

    -- what the container has beside its blobs stays as it is, if the operation does not alter it
    pub standing-after_act : (k : Key) (o : Op) → alters_container o ≡ false → (part_after f (option_map (on_key k) (act_by o z q t)) p).standing ≡ p.standing
    standing-after_act k o unaltered = related-after_act f KeepsStanding (λ p. refl) k p (act_by o z q t) (keeps o unaltered)

    abbrev KeepsAcl : Act → Type 0
    KeepsAcl a = KeepsAccess p (changed f a p)

    -- an act of an operation that does not set access leaves the level and the policies
    pub keeps_access : (o : Op) → alters_access o ≡ false → IfSome (act_by o z q t) KeepsAcl
    keeps_access op.CreateContainer unaltered = cc
    keeps_access op.SetContainerMetadata unaltered = access-changed f p (act.SetContainerMetadata (set_container_metadata q t)) refl
    keeps_access op.SetAcl unaltered = cc
    keeps_access op.DeleteContainer unaltered = cc
    keeps_access op.PutBlob unaltered = said_of_put KeepsAcl (λ a. refl) q t q.ask.blob q.ask.args.kept
    keeps_access op.SetMetadata unaltered = said_of_named KeepsAcl (λ name. act.SetMetadata (set_metadata q t name)) (λ name. refl) q.ask.blob
    keeps_access op.DeleteBlob unaltered = said_of_named KeepsAcl (λ name. act.DeleteBlob (delete_blob name)) (λ name. refl) q.ask.blob
    keeps_access op.PutBlock unaltered = said_of_block KeepsAcl (λ a. refl) q q.ask.blob q.ask.args.block
    keeps_access op.PutBlockList unaltered = said_of_list KeepsAcl (λ a. refl) z q t q.ask.blob q.ask.args.kept
    keeps_access _ unaltered = tt

  module _ (size : C → ℕ) (keys : Option Keys) (w : World C) (q : Asked) (t : ℕ) where
    -- what a container has beside its blobs stays as it is, unless the operation alters it
    pub standing-effect : alters_container q.ask.op ≡ false → (k : Key) → (part_at (effect_as size f keys w q t) k).standing ≡ (part_at w k).standing
    standing-effect unaltered =
        related-effect f KeepsStanding (λ p. refl) size keys w q t (λ z p. standing-after_act z p q t q.ask.key q.ask.op unaltered)

    -- the level and the policies stay as they are, unless the operation sets them
    pub access-effect : alters_access q.ask.op ≡ false → (k : Key) → acl_of (part_at (effect_as size f keys w q t) k) ≡ acl_of (part_at w k)
    access-effect unaltered =
        related-effect f KeepsAccess (λ p. refl) size keys w q t
        (λ z p. related-after_act f KeepsAccess (λ p. refl) q.ask.key p (act_by q.ask.op z q t) (keeps_access z p q t q.ask.op unaltered))
