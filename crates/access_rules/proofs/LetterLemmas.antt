-- The permission that names an operation is the letter that the operation needs.
use Rattle.std.proofs.Common.{◌≡◌, inl, inr, Bool, true, false, ◌&&◌, Option, Some, None, refl}
use Rattle.stamp_values.specs.Letters.{Permissions}
use Rattle.stamp_values.specs.declared.block.BlockKinds.{BlockKinds}
use Rattle.stamp_values.specs.declared.block.BlockKinds.TheVariants as kinds
use Rattle.stamp_values.specs.declared.op.Op.{Op}
use Rattle.stamp_values.specs.declared.op.Op.TheVariants as op
use Rattle.sas_token.specs.declared.token.Resource.{Resource}
use Rattle.sas_token.specs.declared.token.Resource.TheVariants.{Container, Blob}
use Rattle.access_rules.specs.declared.needs.Letter.{Letter}
use Rattle.access_rules.specs.declared.needs.Letter.TheVariants as letter
use Rattle.access_rules.specs.Needs.{need_of}
use Rattle.access_rules.specs.Openings.{names_operation, reads_blob, writes_blob, deletes_blob, lists_blobs}
use Rattle.access_rules.specs.TokenParts.{allows}
use Rattle.access_rules.proofs.KeyLemmas.{one_of}

-- the operation needs this letter
abbrev Needs : Op → Option BlockKinds → Letter → Type 0
Needs o k l = (need_of o k).letter ≡ Some l

reads_needed : (o : Op) (k : Option BlockKinds) → reads_blob o ≡ true → Needs o k letter.Read
reads_needed op.GetBlob k h = refl
reads_needed op.BlobProperties k h = refl
reads_needed op.GetMetadata k h = refl
reads_needed op.GetBlockList None h = refl
reads_needed op.GetBlockList (Some kinds.Committed) h = refl
reads_needed op.GetBlockList (Some kinds.Uncommitted) h = refl
reads_needed op.GetBlockList (Some kinds.All) h = refl
reads_needed other k h = cc

writes_needed : (o : Op) (k : Option BlockKinds) → writes_blob o ≡ true → Needs o k letter.Write
writes_needed op.PutBlob k h = refl
writes_needed op.SetMetadata k h = refl
writes_needed op.PutBlock k h = refl
writes_needed op.PutBlockList k h = refl
writes_needed other k h = cc

deletes_needed : (o : Op) (k : Option BlockKinds) → deletes_blob o ≡ true → Needs o k letter.Delete
deletes_needed op.DeleteBlob k h = refl
deletes_needed other k h = cc

lists_needed : (r : Resource) (o : Op) (k : Option BlockKinds) → lists_blobs r o ≡ true → Needs o k letter.List
lists_needed Container op.ListBlobs k h = refl
lists_needed Container other k h = cc
lists_needed Blob o k h = cc

both_of : (a b : Bool) → (a && b) ≡ true → (a ≡ true) × (b ≡ true)
both_of true b h = (refl, h)
both_of false b h = cc

-- if a permission names an operation, the letter that the operation needs is among the permissions
pub letter_allowed : (p : Permissions) (r : Resource) (o : Op) (k : Option BlockKinds) → names_operation p r o ≡ true
    → (l : Letter) × Needs o k l × (allows l p ≡ true)
letter_allowed p r o k h =
    elim (one_of _ (p.list && lists_blobs r o) h) [
      | inr e ↦ let (given, named) = both_of p.list _ e in (letter.List, lists_needed r o k named, given)
      | inl more ↦ elim (one_of _ (p.delete && deletes_blob o) more) [
        | inr e ↦ let (given, named) = both_of p.delete _ e in (letter.Delete, deletes_needed o k named, given)
        | inl rest ↦ elim (one_of _ (p.write && writes_blob o) rest) [
          | inr e ↦ let (given, named) = both_of p.write _ e in (letter.Write, writes_needed o k named, given)
          | inl e ↦ let (given, named) = both_of p.read _ e in (letter.Read, reads_needed o k named, given)
        ]
      ]
    ]
