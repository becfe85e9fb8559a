-- What an ETag of a blob says of two moments (RFC 9110, section 8.8.1, strong validators; Blob service REST reference, 2012-02-12,
-- Status and Error Codes, conditional headers). ETags are counts of changes, which is the stamp's own.
use Rattle.std.specs.Prelude.{◌≡◌, ◌<◌, ◌⊎◌, ℕ, List, Some, IfSome}
use Rattle.stamp_types.specs.declared.committed.Committed.{Committed}
use Rattle.stamp_types.specs.World.{Part, blob_in}

-- readers of the earlier container see this of the blob, or its ETag is above the count of that container
abbrev pub WasSeenOrIsNewer : {C : Type 0} → Part C → List ℕ → Committed C → Type 0
WasSeenOrIsNewer earlier name c = ((blob_in earlier name).committed ≡ Some c) ⊎ (earlier.count < c.etag)

-- what readers see of a blob in the later container, if they see it, they saw in the earlier one, or it is newer
abbrev pub IsSeenBeforeOrNewer : {C : Type 0} → Part C → Part C → List ℕ → Type 0
IsSeenBeforeOrNewer earlier later name = IfSome (blob_in later name).committed (WasSeenOrIsNewer earlier name)
