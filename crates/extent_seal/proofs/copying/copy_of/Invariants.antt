use Rattle.std.proofs.Common.{◌≡◌, take}
use Rattle.extent_seal.proofs.copying.copy_of.Given as goal

abbrev pub invariant-loop-i : goal.invariant-loop-i
invariant-loop-i l = l.copy.blocks ≡ take l.i l.replica.blocks
