-- What an append does to an extent (SOSP 2011, section 4.3.1).
use Rattle.std.specs.Prelude.{◌≡◌, Some, None, [], ◌∷◌, ◌++◌}
use Rattle.extent_node.specs.Copies.{Block}
use Rattle.extent_seal.specs.Extents.{Open}
use Rattle.extent_seal.specs.declared.open_extent.Appended.{Appended}
use Rattle.extent_seal.specs.declared.open_extent.Appended.TheVariants as appended

-- the block is acknowledged after the others, or it was tried and the acknowledged blocks are as they were
abbrev pub IsAppended : Appended → Open → Block → Open → Type 0
IsAppended appended.All old block new = (new.blocks ≡ old.blocks ++ block ∷ []) × (new.tried ≡ None)
IsAppended appended.Short old block new = (new.blocks ≡ old.blocks) × (new.tried ≡ Some block)
