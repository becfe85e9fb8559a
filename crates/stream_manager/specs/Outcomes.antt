-- What calls do to streams (SOSP 2011, section 4.3).
use Rattle.std.specs.Prelude.{◌≡◌, ◌⊎◌, Some, None, IsSome, Result, Ok, Err, List, [], ◌∷◌, ◌++◌}
use Rattle.stamp_values.specs.declared.place.Place.{Place}
use Rattle.extent_node.specs.Copies.{Block}
use Rattle.extent_node.specs.Faults.{held}
use Rattle.extent_seal.specs.Extents.{Open}
use Rattle.stream_manager.specs.Places.{IsLastAt, Follows, is_kept}
use Rattle.stream_manager.specs.declared.parts.Tried.{Tried}
use Rattle.stream_manager.specs.declared.parts.Tried.TheVariants as tried
use Rattle.stream_manager.specs.declared.faults.AppendFault.{AppendFault}
use Rattle.stream_manager.specs.declared.faults.AppendFault.TheVariants as fault
use Rattle.stream_manager.specs.declared.faults.Settled.{Settled}
use Rattle.stream_manager.specs.declared.faults.Settled.TheVariants as settled
use Rattle.stream_manager.specs.declared.faults.StoredFault.{StoredFault}

-- what one try does to a block: from these extents, to these extents and this last one
abbrev pub IsTried : Tried → List (List Block) → Block → List (List Block) → Open → Type 0
IsTried (tried.Placed p) es block fs last = Follows es (block ∷ []) fs × IsLastAt fs p block × (last.tried ≡ None)
IsTried tried.Excluded es block fs last = Follows es [] fs × (last.tried ≡ None) × (last.blocks ≡ [])
IsTried tried.Doubt es block fs last = Follows es [] fs × (last.tried ≡ Some block)

-- what the tries of an append do, from these extents without a doubt: memory was taken before them
abbrev pub IsPut : Result Place AppendFault → List (List Block) → Block → List (List Block) → Open → Type 0
IsPut (Ok p) es block fs last = Follows es (block ∷ []) fs × IsLastAt fs p block × (last.tried ≡ None)
IsPut (Err fault.Doubt) es block fs last = Follows es [] fs × (last.tried ≡ Some block)
IsPut (Err fault.Busy) es block fs last = Follows es [] fs × (last.tried ≡ None)
IsPut (Err fault.NoMemory) es block fs last = ⊥
IsPut (Err fault.TooLarge) es block fs last = ⊥

-- the append was refused before any node was called
abbrev pub IsRefused : Result Place AppendFault → Type 0
IsRefused r = (r ≡ Err fault.TooLarge) ⊎ (r ≡ Err fault.NoMemory)

-- what an append does, from these extents and this last one: an older doubt is kept or dropped first, or it stays
abbrev pub IsAppend : Result Place AppendFault → List (List Block) → Open → Block → List (List Block) → Open → Type 0
IsAppend (Ok p) es old block fs new = Follows es (held (is_kept es old fs) old.tried ++ block ∷ []) fs × IsLastAt fs p block × (new.tried ≡ None)
IsAppend (Err fault.Doubt) es old block fs new = Follows es (held (is_kept es old fs) old.tried) fs × (new.tried ≡ Some block)
IsAppend (Err fault.Busy) es old block fs new = (Follows es (held (is_kept es old fs) old.tried) fs × (new.tried ≡ None)) ⊎ ((fs ≡ es) × (new ≡ old))
IsAppend (Err fault.NoMemory) es old block fs new = (fs ≡ es) × (new ≡ old)
IsAppend (Err fault.TooLarge) es old block fs new = (fs ≡ es) × (new ≡ old)

-- what a settle does
abbrev pub IsSettled : Result Settled StoredFault → List (List Block) → Open → List (List Block) → Open → Type 0
IsSettled (Ok settled.Clean) es old fs new = (old.tried ≡ None) × (fs ≡ es) × (new ≡ old)
IsSettled (Ok (settled.Kept p)) es old fs new = ((b : Block) × (old.tried ≡ Some b) × Follows es (b ∷ []) fs × IsLastAt fs p b) × (new.tried ≡ None)
IsSettled (Ok settled.Dropped) es old fs new = IsSome old.tried × Follows es [] fs × (new.tried ≡ None)
IsSettled (Err e) es old fs new = IsSome old.tried × (fs ≡ es) × (new ≡ old)

-- what a seal does
abbrev pub IsSealed : Result (Unit {0}) StoredFault → List (List Block) → Open → List (List Block) → Open → Type 0
IsSealed (Ok _) es old fs new = Follows es (held (is_kept es old fs) old.tried) fs × (new.blocks ≡ []) × (new.tried ≡ None)
IsSealed (Err e) es old fs new = (fs ≡ es) × (new ≡ old)
