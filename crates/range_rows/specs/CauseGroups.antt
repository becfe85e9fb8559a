-- The causes to refuse a request in groups that follow each other (Blob service REST reference, 2012-02-12, "Status and Error Codes").
use Rattle.std.specs.Prelude.{ℕ, List, [], ◌∷◌, ◌++◌, Option, Some, None, find}
use Rattle.std.specs.Option.{option_map}
use Rattle.stamp_types.specs.Requests.{Asked}
use Rattle.stamp_types.specs.World.{Part}
use Rattle.stamp_types.specs.declared.refusal.Refusal.{Refusal}
use Rattle.block_blobs.specs.declared.block_fault.BlockFault.{BlockFault}
use Rattle.block_blobs.specs.declared.block_fault.BlockFault.TheVariants as fault
use Rattle.range_rows.specs.ObjectRules.{Cause, cause_holds, cause_refusal}
use Rattle.range_rows.specs.ObjectRules.Cause.{ContainerIsAbsent, ContainerExists, BlobIsAbsent, MatchFails, IsNotModified, BlobExists, NoneMatchFails, BodyIsDamaged, BodyIsMalformed, IdIsBad, BlockIsMissing, ListIsTooLong, IdHasOtherLength, BlocksAreFull, ListIsTooLarge, RangeIsPastTheEnd, CountIsFull}

-- the causes in what the request names
abbrev pub name_causes : List Cause
name_causes = ContainerIsAbsent ∷ ContainerExists ∷ BlobIsAbsent ∷ []

-- the causes in the conditions
abbrev pub condition_causes : List Cause
condition_causes = MatchFails ∷ IsNotModified ∷ BlobExists ∷ NoneMatchFails ∷ []

-- the causes in the body alone
abbrev pub body_causes : List Cause
body_causes = BodyIsDamaged ∷ BodyIsMalformed ∷ IdIsBad ∷ []

-- the causes that come before those in blocks
abbrev pub early_causes : List Cause
early_causes = name_causes ++ condition_causes ++ body_causes

-- the causes in blocks
abbrev pub block_causes : List Cause
block_causes = BlockIsMissing ∷ ListIsTooLong ∷ IdHasOtherLength ∷ BlocksAreFull ∷ ListIsTooLarge ∷ []

-- the causes that come last
abbrev pub last_causes : List Cause
last_causes = RangeIsPastTheEnd ∷ CountIsFull ∷ []

-- the refusal by the first cause of a group that exists
unfoldable pub group_refusal : List Cause → Part ℕ → Asked → Option Refusal
group_refusal causes p q = option_map cause_refusal (find (cause_holds p q) causes)

-- the refusal of a block list that has this fault
abbrev pub list_refusal : Option BlockFault → Option Refusal
list_refusal (Some (fault.NotFound i)) = Some (cause_refusal BlockIsMissing)
list_refusal (Some fault.TooMany) = Some (cause_refusal ListIsTooLong)
list_refusal (Some fault.TooLarge) = Some (cause_refusal ListIsTooLarge)
list_refusal other = None

-- the refusal of a block that has this fault
abbrev pub id_refusal : Option BlockFault → Option Refusal
id_refusal (Some fault.Length) = Some (cause_refusal IdHasOtherLength)
id_refusal (Some fault.TooMany) = Some (cause_refusal BlocksAreFull)
id_refusal other = None
