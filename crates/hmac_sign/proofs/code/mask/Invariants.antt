use Rattle.std.proofs.Common.{◌≡◌, ◌++◌}
use Rattle.std.specs.Prelude.{take, drop}
use Rattle.hmac_sign.specs.Hmac as hmac
use Rattle.hmac_sign.proofs.code.mask.Given as goal

abbrev pub invariant-loop-i : goal.invariant-loop-i
invariant-loop-i l = l.masked ≡ hmac.masked l.pad (take l.i l.block) ++ drop l.i l.block
