-- What changes count, and what they leave.
use Rattle.std.proofs.Common.{◌≡◌, ℕ, ◌+◌, false, List, Option, Some, None, refl, ap}
use Rattle.std.specs.Option.{option_map}
use Rattle.stamp_types.specs.declared.act.Act.{Act}
use Rattle.stamp_types.specs.declared.act.Act.TheVariants as act
use Rattle.stamp_types.specs.declared.act.SetAcl.{SetAcl}
use Rattle.stamp_types.specs.declared.act.SetContainerMetadata.{SetContainerMetadata}
use Rattle.stamp_types.specs.declared.piece.Piece.{Piece}
use Rattle.stamp_types.specs.declared.standing.Standing.{Standing}
use Rattle.stamp_types.specs.ActKinds.{is_row, sets_access}
use Rattle.stamp_types.specs.World.{Part, changed, standing_after, standing_with_acl, standing_with_metadata, count_after}

count_by_act : (a : Act) (n : ℕ) → is_row a ≡ false → count_after a n ≡ n + 1
count_by_act (act.ContainerRow a) n h = cc
count_by_act (act.StoredBlob a) n h = cc
count_by_act other n h = refl

same_access : (n : ℕ) (a : SetContainerMetadata) (o : Option Standing) → option_map (λ (s : Standing). s.acl) (option_map (standing_with_metadata n a) o) ≡ option_map (λ s. s.acl) o
same_access n a None = refl
same_access n a (Some s) = refl

access_by_act : (n : ℕ) (a : Act) (o : Option Standing) → sets_access a ≡ false → option_map (λ (s : Standing). s.acl) (standing_after n a o) ≡ option_map (λ s. s.acl) o
access_by_act n (act.CreateContainer a) o h = cc
access_by_act n (act.SetAcl a) o h = cc
access_by_act n act.DeleteContainer o h = cc
access_by_act n (act.ContainerRow a) o h = cc
access_by_act n (act.SetContainerMetadata a) o h = same_access n a o
access_by_act n other o h = refl

module _ {C : Type 0} (f : List Piece → C) (p : Part C) where
  -- each change raises the count by one, unless it is a row of a checkpoint
  pub count-changed : (a : Act) → is_row a ≡ false → (changed f a p).count ≡ p.count + 1
  count-changed a h = count_by_act a p.count h

  -- a change that does not set access leaves the level and the policies as they were
  pub access-changed : (a : Act) → sets_access a ≡ false → option_map (λ s. s.acl) (changed f a p).standing ≡ option_map (λ s. s.acl) p.standing
  access-changed a h = access_by_act (p.count + 1) a p.standing h

  -- after Set Container ACL the container has what was set
  pub access-set : (a : SetAcl) (s : Standing) → p.standing ≡ Some s → option_map (λ s. s.acl) (changed f (act.SetAcl a) p).standing ≡ Some a.acl
  access-set a s h = ap (λ (o : Option Standing). option_map (λ s. s.acl) (option_map (standing_with_acl (p.count + 1) a) o)) h
