-- The blob that a request names, and its blocks (Blob service REST reference, 2012-02-12, "Put Block", "Put Block List", "Get Block List").
use Rattle.std.specs.Prelude.{◌≡◌, Bool, ◌||◌, is_some, Option, Some, None, unwrap_or}
use Rattle.std.specs.Option.{option_map}
use Rattle.stamp_values.specs.declared.block.BlockKinds.{BlockKinds}
use Rattle.stamp_values.specs.declared.block.BlockKinds.TheVariants as kinds
use Rattle.stamp_types.specs.declared.ask.Ask.{Ask}
use Rattle.stamp_types.specs.World.{Blob, Part, blob_in, no_blob}
use Rattle.row_trees.specs.FoundParts.{has_uncommitted}
use Rattle.range_rows.specs.declared.target.Target.{Target}

-- the blob that the request names; if it names no blob, a blob of a name that was never used
abbrev pub target_blob : {C : Type 0} → Part C → Ask → Blob C
target_blob p a = unwrap_or (option_map (blob_in p) a.blob) no_blob

-- what was found is the request's: the blob is the blob that the request names, in the container that was found
abbrev pub IsTarget : Target → Ask → Type 0
IsTarget t a = t.blob ≡ target_blob t.container a

-- the blob has something that Get Block List shows: a committed part; or, if uncommitted blocks are asked for, an uncommitted block.
-- A request without kinds asks for committed blocks alone
abbrev pub has_listed : {C : Type 0} → Option BlockKinds → Blob C → Bool
has_listed None b = is_some b.committed
has_listed (Some kinds.Committed) b = is_some b.committed
has_listed (Some other) b = is_some b.committed || has_uncommitted b
