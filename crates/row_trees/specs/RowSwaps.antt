-- A row that is swapped in under a name that has a row (SOSP 2011, section 5.3, checkpoints).
use Rattle.std.specs.Prelude.{ℕ, List}
use Rattle.stamp_types.specs.World.{Blob, Part, with_blob}

-- the container with this blob under the name, and with all else as it was
abbrev pub with_row : {C : Type 0} → Part C → List ℕ → Blob C → Part C
with_row p name b = record { count = p.count; standing = p.standing; blobs = with_blob p name b }
