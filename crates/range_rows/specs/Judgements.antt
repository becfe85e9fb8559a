-- What judging a request gives (Blob service REST reference, 2012-02-12, "Put Block List", "Status and Error Codes").
use Rattle.std.specs.Prelude.{◌≡◌, ⊤, List, Option, Some, None}
use Rattle.stamp_types.specs.declared.piece.Piece.{Piece}
use Rattle.stamp_types.specs.declared.refusal.Refusal.{Refusal}
use Rattle.stamp_types.specs.Requests.{Asked}
use Rattle.stamp_types.specs.World.{Part}
use Rattle.block_blobs.specs.ResolvedLists.{resolved}
use Rattle.block_blobs.specs.declared.resolved.Resolved.{Resolved}
use Rattle.row_trees.specs.FoundParts.{sizes_found}
use Rattle.range_rows.specs.NamedBlobs.{IsTarget, target_blob}
use Rattle.range_rows.specs.ObjectRules.{object_refusal}
use Rattle.range_rows.specs.Readings.{wanted_blocks}
use Rattle.range_rows.specs.declared.judged.Allowed.{Allowed}
use Rattle.range_rows.specs.declared.judged.ObjectVerdict.{ObjectVerdict}
use Rattle.range_rows.specs.declared.judged.ObjectVerdict.TheVariants as judged
use Rattle.range_rows.specs.declared.target.Target.{Target}

-- what the blob that the request names has of the blocks that the request wants
abbrev pub blocks_found : Part (List Piece) → Asked → Resolved
blocks_found p q = resolved (target_blob p q.ask) (wanted_blocks q)

-- what was found for a request, if this was found of the blocks that it wants
abbrev pub allowed_in : Target → Resolved → Allowed
allowed_in t found = record { target = t; found = found }

-- the request is refused, or else this was found for it
abbrev pub judged_by : Option Refusal → Target → Resolved → ObjectVerdict
judged_by (Some r) t found = judged.Refused r
judged_by None t found = judged.Allowed (allowed_in t found)

-- what judging a request gives, from what was found
abbrev pub judgement : Target → Asked → ObjectVerdict
judgement t q = judged_by (object_refusal (sizes_found t.container) q) t (blocks_found t.container q)

-- no rule of the object refuses the request, and this was found for it
abbrev pub IsAllowed : Allowed → Asked → Type 0
IsAllowed a q =
    IsTarget a.target q.ask × (object_refusal (sizes_found a.target.container) q ≡ None) × (a.found ≡ blocks_found a.target.container q)

-- if no rule of the object refuses the request, this holds of what was found for it
abbrev pub IfAllowed : ObjectVerdict → (Allowed → Type 0) → Type 0
IfAllowed (judged.Refused r) P = ⊤
IfAllowed (judged.Allowed a) P = P a

-- the refusal that judging gave, if it gave one
abbrev pub refusal_in : ObjectVerdict → Option Refusal
refusal_in (judged.Refused r) = Some r
refusal_in (judged.Allowed a) = None
